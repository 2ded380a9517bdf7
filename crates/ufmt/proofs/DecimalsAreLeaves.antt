-- The text of a fixed-point number is a leaf of a debug document, so it can be read again.
use Rattle.std.proofs.Common.{refl, sym, subst, ℕ, ◌<◌, ℤ, pos, negsuc, List, [], ◌∷◌, ◌++◌, map, length, arith}
use Rattle.std.specs.List.{All}
use Rattle.std.specs.Str.{IsAscii}
use Rattle.std.proofs.lemmas.List.Elements.{All-head, All-tail}
use Rattle.ufmt_core.specs.Decimal.{decimal_byte, sign_of}
use Rattle.ufmt_fixed.specs.Text.{fixed_digits}
use Rattle.ufmt.specs.FixedPoint.{fixed, point_and}
use Rattle.ufmt_grammar.specs.Leaves.{IsDebugLeaf}
use Rattle.ufmt_grammar.proofs.ClassTokens.{IsPlainByte, word_byte_is_plain}
use Rattle.ufmt_grammar.proofs.PlainLeaves.{ArePlain, plain_is_ascii, plain_is_text, point_is_plain}
use Rattle.ufmt.proofs.FixedPoint.{fixed-denotes}
use Rattle.ufmt_grammar.proofs.NumbersAreWords.{decimal_byte_is_word}

digit_is_plain : (digit : ℕ) → digit < 10 → IsPlainByte (decimal_byte digit)
digit_is_plain digit low = word_byte_is_plain (decimal_byte digit) (decimal_byte_is_word digit low)

minus_is_plain : IsPlainByte 45
minus_is_plain = record { word = refl; ascii = omega arith; no_backslash = refl; no_colon = refl }

digits_are_plain : (digits : List ℕ) → All (λ digit. digit < 10) digits → ArePlain (map decimal_byte digits)
digits_are_plain [] below = tt
digits_are_plain (digit ∷ digits) below =
    (digit_is_plain digit (All-head (λ d. d < 10) digit digits below), digits_are_plain digits (All-tail (λ d. d < 10) digit digits below))

fixed_is_plain : (before after : List ℕ) → All (λ digit. digit < 10) (before ++ after) → ArePlain (map decimal_byte before ++ point_and after)
fixed_is_plain [] [] below = tt
fixed_is_plain [] (digit ∷ after) below = (point_is_plain, digits_are_plain (digit ∷ after) below)
fixed_is_plain (digit ∷ before) after below = (
  digit_is_plain digit (All-head (λ d. d < 10) digit (before ++ after) below),
  fixed_is_plain before after (All-tail (λ d. d < 10) digit (before ++ after) below),
)

pub signed_is_text : (z : ℤ) (before after : List ℕ) → 0 < length before → All (λ digit. digit < 10) (before ++ after)
    → IsDebugLeaf (sign_of z ++ (map decimal_byte before ++ point_and after))
signed_is_text (pos n) [] after some below = absurd (omega arith)
signed_is_text (pos n) (digit ∷ before) after some below =
    plain_is_text (decimal_byte digit) (map decimal_byte before ++ point_and after) (fixed_is_plain (digit ∷ before) after below)
signed_is_text (negsuc n) before after some below =
    plain_is_text 45 (map decimal_byte before ++ point_and after) (minus_is_plain, fixed_is_plain before after below)

-- the digits of a fixed-point number are ASCII, and so is its point
pub IsAscii-fixed_digits : (places n : ℕ) → IsAscii (fixed_digits places n)
IsAscii-fixed_digits places n =
    let denotes = fixed-denotes places (pos n) in
    subst IsAscii (sym denotes.bytes) (plain_is_ascii _ (fixed_is_plain denotes.before denotes.after denotes.below_ten))

pub fixed_is_leaf : (places : ℕ) (z : ℤ) → IsDebugLeaf (fixed places z)
fixed_is_leaf places z =
    let denotes = fixed-denotes places z in
    subst IsDebugLeaf (sym denotes.bytes) (signed_is_text z denotes.before denotes.after denotes.some_digit denotes.below_ten)
