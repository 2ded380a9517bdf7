-- What a leaf shows: a word itself, and a text in quotes its characters.
use Rattle.std.proofs.Common.{arith, ◌≡◌, ◌∙◌, refl, sym, ap, subst, inl, inr, ℕ, ℤ, List, [], ◌∷◌, get_or, Option, Some, None, option_map, String, string_bytes}
use Rattle.std.specs.Prelude.{encode_utf8}
use Rattle.std.specs.Char.{IsScalar}
use Rattle.std.specs.Str.{IsUtf8, chars, encode_utf8_all}
use Rattle.std.proofs.lemmas.Bool.{false≢true}
use Rattle.std.proofs.lemmas.List.{append-nil}
use Rattle.std.proofs.lemmas.Str.{IsUtf8-string_bytes, encodes-chars, scalars-chars}
use Rattle.ufmt.specs.Decimal.{decimal}
use Rattle.ufmt.specs.Document.{leaf}
use Rattle.ufmt.specs.Quoted.{quoted_char, quoted_text}
use Rattle.ufmt.specs.Token.{IsWord}
use Rattle.ufmt_grammar.proofs.NumbersAreWords.{decimal_is_word}
use Rattle.ufmt_grammar.proofs.QuotedOneWay.{characters_determined}
use Rattle.ufmt_doc.specs.FieldTexts.{ShowsText}
use Rattle.ufmt_doc.specs.Unquoted.{IsInQuotes}

no_word_in_quotes : (w text : List ℕ) → IsWord w → IsInQuotes (leaf w) text → ⊥
no_word_in_quotes w text word (inl is) =
    let same : w ≡ quoted_text (chars text) = cc in
    let quoted : IsWord (quoted_text (chars text)) = subst IsWord same word in
    false≢true quoted.0
no_word_in_quotes w text word (inr char) =
    let is = char.2 in
    let same : w ≡ quoted_char char.0 = cc in
    let quoted : IsWord (quoted_char char.0) = subst IsWord same word in
    false≢true quoted.0

-- a word shows itself
pub word_shown : {A : Type 0} (w : List ℕ) → IsWord w → (outcome : Option (String A)) → ShowsText (leaf w) outcome → option_map string_bytes outcome ≡ Some w
word_shown w word None is = cc
word_shown w word (Some s) (inl quoted) = absurd (no_word_in_quotes w (string_bytes s) word quoted)
word_shown w word (Some s) (inr bare) =
    let is = bare.1 in
    let same : w ≡ string_bytes s = cc in
    ap Some (sym same)

-- a number shows its decimal text
pub number_shown : {A : Type 0} (z : ℤ) (outcome : Option (String A)) → ShowsText (leaf (decimal z)) outcome → option_map string_bytes outcome ≡ Some (decimal z)
number_shown z = word_shown (decimal z) (decimal_is_word z)

-- a text in quotes shows what is between them
pub text_shown : {A : Type 0} (text : List ℕ) → IsUtf8 text → (outcome : Option (String A)) → ShowsText (leaf (quoted_text (chars text))) outcome → option_map string_bytes outcome ≡ Some text
text_shown text utf8 None is = cc
text_shown text utf8 (Some s) (inl (inl is)) =
    let quoted : quoted_text (chars text) ≡ quoted_text (chars (string_bytes s)) = cc in
    let same = characters_determined 34 (chars text) (chars (string_bytes s)) (inl refl) quoted in
    ap Some (sym (encodes-chars (string_bytes s) (IsUtf8-string_bytes s)) ∙ ap encode_utf8_all (sym same) ∙ encodes-chars text utf8)
text_shown text utf8 (Some s) (inl (inr char)) =
    let is = char.2 in
    let same : quoted_text (chars text) ≡ quoted_char char.0 = cc in
    absurd (omega (arith, ap (λ (t : List ℕ). get_or t 0 0) same))
text_shown text utf8 (Some s) (inr bare) = absurd (bare.0 (quoted_text (chars text)) (inl (chars text, scalars-chars text utf8, refl)) refl)

-- a character in apostrophes shows itself
pub char_shown : {A : Type 0} (c : ℕ) → IsScalar c → (outcome : Option (String A)) → ShowsText (leaf (quoted_char c)) outcome → option_map string_bytes outcome ≡ Some (encode_utf8 c)
char_shown c scalar None is = cc
char_shown c scalar (Some s) (inl (inl is)) =
    let same : quoted_char c ≡ quoted_text (chars (string_bytes s)) = cc in
    absurd (omega (arith, ap (λ (t : List ℕ). get_or t 0 0) same))
char_shown c scalar (Some s) (inl (inr char)) =
    let is = char.2 in
    let quoted : quoted_char c ≡ quoted_char char.0 = cc in
    let same = characters_determined 39 (c ∷ []) (char.0 ∷ []) (inr refl) quoted in
    ap Some (sym (encodes-chars (string_bytes s) (IsUtf8-string_bytes s)) ∙ ap encode_utf8_all (char.1 ∙ sym same) ∙ append-nil (encode_utf8 c))
char_shown c scalar (Some s) (inr bare) = absurd (bare.0 (quoted_char c) (inr (c, scalar, refl)) refl)
