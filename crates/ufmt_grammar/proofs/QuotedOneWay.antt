-- Quoting is one-to-one, since reading a text has one result.
use Rattle.std.proofs.Common.{◌≡◌, inl, inr, refl, sym, subst, ap, ◌∙◌, ℕ, suc, ◌+◌, length, drop, List, [], ◌∷◌, ◌++◌, get_or, arith}
use Rattle.std.specs.Str.{encode_utf8_all}
use Rattle.std.proofs.lemmas.Bool.{false≢true}
use Rattle.std.proofs.lemmas.Str.{encodes_same}
use Rattle.ufmt_core.specs.Bytes.{apostrophe, quotation_mark}
use Rattle.ufmt_core.specs.Quoted.{IsQuote, escaped_bytes, quoted, quoted_char, quoted_text}
use Rattle.ufmt_grammar.specs.QuotedLaws.{QuotedTextDetermines, QuotedCharDetermines, QuotedTextIsNoChar, QuotedEndsItself, QuotedIsNoOtherLeaf}
use Rattle.ufmt_grammar.specs.ReadingQuoted.{read_quoted, read_inside}
use Rattle.ufmt_grammar.specs.Token.{IsWord}
use Rattle.ufmt_grammar.proofs.Parsing.{same_parts}
use Rattle.ufmt_grammar.proofs.QuotedComplete.{read_quoted-complete, read_inside-complete, quoted-bytes}

pub quoted_ends_itself : QuotedEndsItself
quoted_ends_itself x y u v quoted_x quoted_y same =
    same_parts (x, u) (y, v) (sym (read_quoted-complete x u quoted_x) ∙ ap read_quoted same ∙ read_quoted-complete y v quoted_y)

pub quoted_text_is_no_char : QuotedTextIsNoChar
quoted_text_is_no_char cs c u v same = omega (arith, ap (λ (t : List ℕ). get_or t 0 0) same)

-- what is between two quotes that are alike is determined
pub characters_determined : (q : ℕ) (cs ds : List ℕ) → IsQuote q → quoted q cs ≡ quoted q ds → cs ≡ ds
characters_determined q cs ds quote same =
    let bytes = encode_utf8_all cs in
    let others = encode_utf8_all ds in
    let n = suc (length bytes + length others) in
    let tails : escaped_bytes q bytes ++ (q ∷ []) ≡ escaped_bytes q others ++ (q ∷ []) = ap (drop 1) (sym (quoted-bytes q cs quote) ∙ same ∙ quoted-bytes q ds quote) in
    let read = sym (read_inside-complete q bytes [] n quote (omega arith)) ∙ ap (read_inside q n) tails ∙ read_inside-complete q others [] n quote (omega arith) in
    encodes_same cs ds (same_parts (bytes, []) (others, []) read).0

pub quoted_text_determines : QuotedTextDetermines
quoted_text_determines cs ds u v scalars_c scalars_d same =
    let ends = quoted_ends_itself (quoted_text cs) (quoted_text ds) u v (inl (cs, scalars_c, refl)) (inl (ds, scalars_d, refl)) same in
    (characters_determined quotation_mark cs ds (inl refl) ends.0, ends.1)

pub quoted_char_determines : QuotedCharDetermines
quoted_char_determines c d u v scalar_c scalar_d same =
    let ends = quoted_ends_itself (quoted_char c) (quoted_char d) u v (inr (c, scalar_c, refl)) (inr (d, scalar_d, refl)) same in
    (ap (λ (t : List ℕ). get_or t 0 0) (characters_determined apostrophe (c ∷ []) (d ∷ []) (inr refl) ends.0), ends.1)

pub quoted_is_no_other_leaf : QuotedIsNoOtherLeaf
quoted_is_no_other_leaf text (inl of_text) (inl word) = let is : IsWord (quoted_text of_text.0) = subst IsWord of_text.2 word in false≢true is.0
quoted_is_no_other_leaf text (inl of_text) (inr unit) = omega (arith, ap (λ (t : List ℕ). get_or t 0 0) (sym of_text.2 ∙ unit))
quoted_is_no_other_leaf text (inr of_char) (inl word) = let is : IsWord (quoted_char of_char.0) = subst IsWord of_char.2 word in false≢true is.0
quoted_is_no_other_leaf text (inr of_char) (inr unit) = omega (arith, ap (λ (t : List ℕ). get_or t 0 0) (sym of_char.2 ∙ unit))
