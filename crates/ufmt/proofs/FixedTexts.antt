-- Texts of floats with a number of decimals: how many characters they have, and that they are leaves of debug documents.
use Rattle.std.proofs.Common.{◌≡◌, ℕ, ◌-◌, ◌*◌, ◌^◌, List, [], ◌∷◌, ◌++◌, length, replicate, Bool, true, false, pos, negsuc, refl, sym, ap, ◌∙◌, subst, arith}
use Rattle.std.specs.Fmt.{char_count, sign_text}
use Rattle.std.specs.Str.{IsAscii}
use lib.Ieee.{Float, nan, inf, fin, up, down}
use Rattle.ufmt_fixed.specs.Nearest.{nearest}
use Rattle.ufmt_fixed.specs.Text.{fixed_digits, fixed_text}
use Rattle.ufmt_grammar.specs.Leaves.{IsDebugLeaf}
use Rattle.ufmt_grammar.proofs.ClassTokens.{IsPlainByte, word_byte_is_plain}
use Rattle.ufmt_grammar.proofs.PlainLeaves.{ArePlain, plain_is_text}
use Rattle.ufmt.proofs.FixedPoint.{fixed-denotes}
use Rattle.ufmt.proofs.DecimalsAreLeaves.{signed_is_text}
use Rattle.ufmt.proofs.Columns.{char_count-append}
use Rattle.ufmt.proofs.PaddedWidths.{char_count-ascii, char_count-pad}

-- what an ASCII text is short of a width
pub missing-short : (text : List ℕ) (width : ℕ) → IsAscii text → width - length text ≡ width - char_count text
missing-short text width ascii = ap (λ n. width - n) (sym (char_count-ascii text ascii))

-- and with zeros after it
pub missing-long : (text whole : List ℕ) (zeros width : ℕ) → IsAscii text → text ++ replicate zeros 48 ≡ whole → width - length text - zeros ≡ width - char_count whole
missing-long text whole zeros width ascii is =
    omega (arith, ap char_count is, char_count-append text (replicate zeros 48), char_count-ascii text ascii, char_count-pad zeros 48 (omega arith))

-- digits with a sign, which 0 may have too
signed_is_leaf : (negative : Bool) (places n : ℕ) → IsDebugLeaf (sign_text negative ++ fixed_digits places n)
signed_is_leaf true places n =
    let denotes = fixed-denotes places (pos n) in
    subst (λ text. IsDebugLeaf (45 ∷ text)) (sym denotes.bytes) (signed_is_text (negsuc 0) denotes.before denotes.after denotes.some_digit denotes.below_ten)
signed_is_leaf false places n =
    let denotes = fixed-denotes places (pos n) in
    subst IsDebugLeaf (sym denotes.bytes) (signed_is_text (pos 0) denotes.before denotes.after denotes.some_digit denotes.below_ten)

big_n_is_plain : IsPlainByte 78
big_n_is_plain = word_byte_is_plain 78 refl

inf_is_plain : ArePlain (105 ∷ 110 ∷ 102 ∷ [])
inf_is_plain = (word_byte_is_plain 105 refl, (word_byte_is_plain 110 refl, (word_byte_is_plain 102 refl, tt)))

-- with a number of decimals a float's text is a debug leaf
pub fixed_text_is_leaf : (places : ℕ) (x : Float) → IsDebugLeaf (fixed_text places x)
fixed_text_is_leaf places nan = plain_is_text 78 (97 ∷ 78 ∷ []) (big_n_is_plain, (word_byte_is_plain 97 refl, (big_n_is_plain, tt)))
fixed_text_is_leaf places (inf true) = plain_is_text 45 (105 ∷ 110 ∷ 102 ∷ []) (word_byte_is_plain 45 refl, inf_is_plain)
fixed_text_is_leaf places (inf false) = plain_is_text 105 (110 ∷ 102 ∷ []) inf_is_plain
fixed_text_is_leaf places (fin s m e) = signed_is_leaf s places (nearest (m * up e * 10 ^ places) (down e))
