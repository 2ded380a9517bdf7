-- Every quoted text and every quoted character is read, whatever follows it.
use Rattle.std.proofs.Common.{◌≡◌, inl, inr, refl, sym, ap, ◌∙◌, ℕ, zero, suc, ◌<◌, ◌≤◌, ◌==◌, ◌||◌, Bool, true, false, List, [], ◌∷◌, ◌++◌, length, get_or, Some, None, eq-eqb, append_assoc, length-append, arith}
use Rattle.std.specs.Char.{IsScalar}
use Rattle.std.specs.Str.{all_scalars, chars, encode_utf8_all, is_utf8}
use Rattle.std.proofs.lemmas.Str.{chars-encodes, is_utf8-from_IsUtf8}
use Rattle.ufmt_core.specs.Bytes.{apostrophe, backslash, quotation_mark}
use Rattle.ufmt_core.specs.Quoted.{IsQuote, IsQuoted, escaped_byte, escaped_bytes, quoted}
use Rattle.ufmt_core.proofs.QuotedCharacters.{escaped_all-bytes}
use Rattle.ufmt_grammar.specs.Reading.{strip}
use Rattle.ufmt_grammar.specs.ReadingQuoted.{read_escaped, read_inside, read_between, read_quoted, is_char}
use Rattle.ufmt_grammar.proofs.Parsing.{strip_joined, strip_of_none}
use Rattle.ufmt_grammar.proofs.QuotedDecoded.{decoded-escaped, each_row, no_backslash}

pub quote_ascii : (q : ℕ) → IsQuote q → q < 128
quote_ascii q (inl e) = omega (arith, e)
quote_ascii q (inr e) = omega (arith, e)

pub read_escaped-complete : (q b : ℕ) (t : List ℕ) → IsQuote q → read_escaped q (escaped_byte q b ++ t) ≡ Some (b, t)
read_escaped-complete q b t quote = rw (decoded-escaped q b t quote, strip_joined (escaped_byte q b) t) refl

no_quote : (q : ℕ) → IsQuote q → (t u : List ℕ) → backslash ∷ t ≡ q ∷ u → ⊥
no_quote q (inl e) t u same = omega (arith, e, ap (λ (x : List ℕ). get_or x 0 0) same)
no_quote q (inr e) t u same = omega (arith, e, ap (λ (x : List ℕ). get_or x 0 0) same)

plain_no_quote : (q b : ℕ) → (b == backslash || b == q) ≡ false → (t u : List ℕ) → b ∷ t ≡ q ∷ u → ⊥
plain_no_quote q b plain t u same =
    let is : b ≡ q = ap (λ (x : List ℕ). get_or x 0 0) same in
    let other : (b == q) ≡ false = sym (ap (λ x. x || b == q) (no_backslash q b plain)) ∙ plain in
    let equal : (b == q) ≡ true = eq-eqb b q is in
    absurd (cc)

-- no spelling of a byte begins with the quote
pub escaped-no_quote : (q b : ℕ) (t : List ℕ) → IsQuote q → strip (q ∷ []) (escaped_byte q b ++ t) ≡ None
escaped-no_quote q b t quote = strip_of_none (q ∷ []) (escaped_byte q b ++ t) (λ u.
    each_row q b (λ n e. e ++ t ≡ q ∷ u → ⊥) (no_quote q quote _ u) (no_quote q quote _ u) (no_quote q quote _ u) (no_quote q quote _ u)
    (λ itself. no_quote q quote _ u) (λ low. no_quote q quote _ u) (λ no_control itself. plain_no_quote q b itself t u))

-- bytes up to the closing quote are read
pub read_inside-complete : (q : ℕ) (bs u : List ℕ) (n : ℕ) → IsQuote q → length bs < n → read_inside q n (escaped_bytes q bs ++ (q ∷ u)) ≡ Some (bs, u)
unfolding read_inside
read_inside-complete q bs u zero quote few = absurd (omega arith)
read_inside-complete q [] u (suc n) quote few = rw (eq-eqb q q refl) refl
read_inside-complete q (b ∷ bs) u (suc n) quote few =
    let rest = escaped_bytes q bs ++ (q ∷ u) in
    rw (
      append_assoc (escaped_byte q b) (escaped_bytes q bs) (q ∷ u),
      escaped-no_quote q b rest quote,
      read_escaped-complete q b rest quote,
      read_inside-complete q bs u n quote (omega arith),
    ) refl

pub length-escaped : (q b : ℕ) → 1 ≤ length (escaped_byte q b)
length-escaped q b = each_row q b (λ n e. 1 ≤ length e) (omega arith) (omega arith) (omega arith) (omega arith) (λ itself. omega arith)
    (λ low. omega arith) (λ no_control itself. omega arith)

pub length-escaped_bytes : (q : ℕ) (bs : List ℕ) → length bs ≤ length (escaped_bytes q bs)
length-escaped_bytes q [] = omega arith
length-escaped_bytes q (b ∷ bs) = omega (arith, length-escaped q b, length-escaped_bytes q bs, length-append (escaped_byte q b) (escaped_bytes q bs))

-- bytes between two of these quotes are read if they pass the test
pub read_between-complete : (q : ℕ) (test : List ℕ → Bool) (bs u : List ℕ) → IsQuote q → test bs ≡ true
    → read_between q test ((q ∷ (escaped_bytes q bs ++ (q ∷ []))) ++ u) ≡ Some (quoted q (chars bs), u)
read_between-complete q test bs u quote right =
    let inside = escaped_bytes q bs ++ (q ∷ u) in
    let few : length bs < suc (length inside) = omega (arith, length-escaped_bytes q bs, length-append (escaped_bytes q bs) (q ∷ u)) in
    rw (append_assoc (escaped_bytes q bs) (q ∷ []) u, eq-eqb q q refl, read_inside-complete q bs u (suc (length inside)) quote few, right) refl

utf8_encodes : (cs : List ℕ) → all_scalars cs ≡ true → is_utf8 (encode_utf8_all cs) ≡ true
utf8_encodes cs scalars = is_utf8-from_IsUtf8 (encode_utf8_all cs) (cs, (scalars, refl))

-- quoted characters are the spellings of their bytes, between the quotes
pub quoted-bytes : (q : ℕ) (cs : List ℕ) → IsQuote q → quoted q cs ≡ q ∷ (escaped_bytes q (encode_utf8_all cs) ++ (q ∷ []))
quoted-bytes q cs quote = ap (λ t. q ∷ (t ++ (q ∷ []))) (escaped_all-bytes q (quote_ascii q quote) cs)

-- characters between two quotes are read if their bytes pass the test
read_characters : (q : ℕ) (test : List ℕ → Bool) (cs u : List ℕ) → IsQuote q → all_scalars cs ≡ true → test (encode_utf8_all cs) ≡ true
    → read_between q test (quoted q cs ++ u) ≡ Some (quoted q cs, u)
read_characters q test cs u quote scalars right =
    ap (λ t. read_between q test (t ++ u)) (quoted-bytes q cs quote) ∙ read_between-complete q test (encode_utf8_all cs) u quote right
    ∙ ap (λ ds. Some (quoted q ds, u)) (chars-encodes cs scalars)

one_scalar : (c : ℕ) → IsScalar c → all_scalars (c ∷ []) ≡ true
one_scalar c scalar = rw scalar refl

one_char : (c : ℕ) → IsScalar c → is_char (encode_utf8_all (c ∷ [])) ≡ true
one_char c scalar = rw (utf8_encodes (c ∷ []) (one_scalar c scalar), chars-encodes (c ∷ []) (one_scalar c scalar)) refl

pub read_quoted-complete : (text u : List ℕ) → IsQuoted text → read_quoted (text ++ u) ≡ Some (text, u)
unfolding read_quoted
read_quoted-complete text u (inl of_text) = rw (of_text.2, read_characters quotation_mark is_utf8 of_text.0 u (inl refl) of_text.1 (utf8_encodes of_text.0 of_text.1)) refl
read_quoted-complete text u (inr of_char) =
    rw (of_char.2, read_characters apostrophe is_char (of_char.0 ∷ []) u (inr refl) (one_scalar of_char.0 of_char.1) (one_char of_char.0 of_char.1)) refl
