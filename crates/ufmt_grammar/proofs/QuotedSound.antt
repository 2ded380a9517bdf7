-- What is read as a quoted leaf is one, and it is the front of the text.
use Rattle.std.proofs.Common.{◌≡◌, ◌⊎◌, inl, inr, refl, sym, ap, ◌∙◌, ℕ, zero, suc, ◌==◌, ◌&&◌, Bool, true, false, List, [], ◌∷◌, ◌++◌, length, Option, Some, None, option_and_then, append_assoc, eqb-true, arith}
use Rattle.std.proofs.lemmas.Bool.{cases_Bool}
use Rattle.std.specs.Option.{option_or}
use Rattle.std.specs.Str.{all_scalars, chars, is_utf8}
use Rattle.std.proofs.lemmas.Str.{IsUtf8-from_is_utf8, encodes-chars, scalars-chars}
use Rattle.ufmt_core.specs.Bytes.{apostrophe, quotation_mark}
use Rattle.ufmt_core.specs.Quoted.{IsQuote, IsQuoted, escaped_byte, escaped_bytes, quoted}
use Rattle.ufmt_grammar.specs.Reading.{parse_map, strip}
use Rattle.ufmt_grammar.specs.ReadingQuoted.{decoded, if_right, is_char, read_between, read_escaped, read_inside, read_quoted}
use Rattle.ufmt_grammar.proofs.Parsing.{beside_from, chosen_from, led_from, mapped_from, same_parts, strip_found}
use Rattle.ufmt_grammar.proofs.QuotedComplete.{quoted-bytes}

pub read_escaped-sound : (q : ℕ) (t : List ℕ) (b : ℕ) (u : List ℕ) → read_escaped q t ≡ Some (b, u) → t ≡ escaped_byte q b ++ u
read_escaped-sound q t b u h =
    let from = beside_from (decoded t) (strip (escaped_byte q (decoded t)) t) b u h in
    strip_found (escaped_byte q (decoded t)) t u from.0 ∙ ap (λ n. escaped_byte q n ++ u) from.1

-- the case of `read_inside` at the closing quote
at_quote : (q : ℕ) (t w bs u : List ℕ) → strip (q ∷ []) t ≡ Some w → ◌≡◌ {A = Option (List ℕ × List ℕ)} (Some ([], w)) (Some (bs, u))
    → t ≡ escaped_bytes q bs ++ (q ∷ u)
at_quote q t w bs u stripped is =
    let parts = same_parts {A = List ℕ} {B = List ℕ} ([], w) (bs, u) is in
    strip_found (q ∷ []) t w stripped ∙ ap (λ v. q ∷ v) parts.1 ∙ ap (λ cs. escaped_bytes q cs ++ (q ∷ u)) parts.0

-- the case of `read_inside` at one more byte
at_byte : (q n : ℕ) (t bs u : List ℕ) → ((s cs v : List ℕ) → read_inside q n s ≡ Some (cs, v) → s ≡ escaped_bytes q cs ++ (q ∷ v))
    → option_and_then {T = ℕ × List ℕ} (λ x. parse_map {B = List ℕ} (λ cs. x.0 ∷ cs) (read_inside q n x.1)) (read_escaped q t)
    ≡ Some (bs, u) → t ≡ escaped_bytes q bs ++ (q ∷ u)
at_byte q n t bs u sound h =
    let first = led_from {A = ℕ × List ℕ} (λ x. parse_map {B = List ℕ} (λ cs. x.0 ∷ cs) (read_inside q n x.1)) (read_escaped q t) (bs, u) h in
    let rest = mapped_from {B = List ℕ} (λ cs. first.0.0 ∷ cs) (read_inside q n first.0.1) bs u first.2 in
    let byte = read_escaped-sound q t first.0.0 first.0.1 first.1 in
    byte ∙ ap (λ s. escaped_byte q first.0.0 ++ s) (sound first.0.1 rest.0 u rest.1)
    ∙ sym (append_assoc (escaped_byte q first.0.0) (escaped_bytes q rest.0) (q ∷ u))
    ∙ ap (λ cs. escaped_bytes q cs ++ (q ∷ u)) rest.2

pub read_inside-sound : (q n : ℕ) (t bs u : List ℕ) → read_inside q n t ≡ Some (bs, u) → t ≡ escaped_bytes q bs ++ (q ∷ u)
unfolding read_inside
read_inside-sound q zero t bs u h = absurd (cc)
read_inside-sound q (suc n) t bs u h =
    elim (chosen_from {B = Option (List ℕ × List ℕ)} (strip (q ∷ []) t) (λ v. Some ([], v))
    (option_and_then {T = ℕ × List ℕ} (λ x. parse_map {B = List ℕ} (λ cs. x.0 ∷ cs) (read_inside q n x.1)) (read_escaped q t)) (Some (bs, u)) h) [
      | inl quote ↦ at_quote q t quote.0 bs u quote.1 quote.2
      | inr byte ↦ at_byte q n t bs u (read_inside-sound q n) byte.1
    ]

-- a result of `if_right` came from bytes that pass the test
pub right_from : (test : List ℕ → Bool) (q : ℕ) (bs u text v : List ℕ) → if_right test q bs u ≡ Some (text, v) → (test bs ≡ true)
    × (quoted q (chars bs) ≡ text) × (u ≡ v)
right_from test q bs u text v h = elim (cases_Bool (test bs)) [
  | inl e ↦ let parts = same_parts {A = List ℕ} {B = List ℕ} (quoted q (chars bs), u) (text, v) (rw e at h) in (e, parts.0, parts.1)
  | inr e ↦ let none = rw e at h in absurd (cc)
]

-- the front of `t` is the spelling of bytes that pass the test, between two of these quotes
pub record IsBetween (q : ℕ) (test : List ℕ → Bool) (t text u : List ℕ) : Type 0 where
  pub bytes : List ℕ
  pub right : test bytes ≡ true
  pub is : text ≡ quoted q (chars bytes)
  pub front : t ≡ (q ∷ (escaped_bytes q bytes ++ (q ∷ []))) ++ u

read_between-sound : (q : ℕ) (test : List ℕ → Bool) (t text u : List ℕ) → read_between q test t ≡ Some (text, u) → IsBetween q test t text u
read_between-sound q test t text u h =
    let opening = led_from {B = List ℕ × List ℕ} (λ v. option_and_then {T = List ℕ × List ℕ} (λ x. if_right test q x.0 x.1) (read_inside q (suc (length v)) v)) (strip (q ∷ []) t) (text, u) h in
    let inside = led_from {A = List ℕ × List ℕ} (λ x. if_right test q x.0 x.1) (read_inside q (suc (length opening.0)) opening.0) (text, u) opening.2 in
    let right = right_from test q inside.0.0 inside.0.1 text u inside.2 in
    record {
      bytes = inside.0.0;
      right = right.0;
      is = sym right.1;
      front = strip_found (q ∷ []) t opening.0 opening.1
          ∙ ap (λ v. q ∷ v) (read_inside-sound q (suc (length opening.0)) opening.0 inside.0.0 inside.0.1 inside.1)
          ∙ ap (λ v. q ∷ (escaped_bytes q inside.0.0 ++ (q ∷ v))) right.2 ∙ ap (λ v. q ∷ v) (sym (append_assoc (escaped_bytes q inside.0.0) (q ∷ []) u));
    }

-- if the bytes that were read are UTF-8, the leaf is the front of the text
read_front : (q : ℕ) (test : List ℕ → Bool) (t text u : List ℕ) → IsQuote q → (b : IsBetween q test t text u) → is_utf8 b.bytes ≡ true → t ≡ text ++ u
read_front q test t text u quote b utf8 =
    let whole : quoted q (chars b.bytes) ≡ q ∷ (escaped_bytes q b.bytes ++ (q ∷ [])) = quoted-bytes q (chars b.bytes) quote ∙ ap (λ bs. q ∷ (escaped_bytes q bs ++ (q ∷ []))) (encodes-chars b.bytes (IsUtf8-from_is_utf8 b.bytes utf8)) in
    b.front ∙ ap (λ s. s ++ u) (sym (b.is ∙ whole))

text_sound : (t text u : List ℕ) → IsBetween quotation_mark is_utf8 t text u → IsQuoted text × (t ≡ text ++ u)
text_sound t text u b = (
  inl (chars b.bytes, scalars-chars b.bytes (IsUtf8-from_is_utf8 b.bytes b.right), b.is),
  read_front quotation_mark is_utf8 t text u (inl refl) b b.right,
)

both : (x y : Bool) → x && y ≡ true → (x ≡ true) × (y ≡ true)
both true y h = (refl, h)
both false y h = absurd (cc)

one_character : (cs : List ℕ) → (length cs == 1) ≡ true → (c : ℕ) × (cs ≡ c ∷ [])
one_character [] h = absurd (cc)
one_character (c ∷ []) h = (c, refl)
one_character (c ∷ d ∷ cs) h = let e = eqb-true (length (c ∷ d ∷ cs)) 1 h in absurd (omega arith)

char_sound : (t text u : List ℕ) → IsBetween apostrophe is_char t text u → IsQuoted text × (t ≡ text ++ u)
char_sound t text u b =
    let right = both (is_utf8 b.bytes) (length (chars b.bytes) == 1) b.right in
    let one = one_character (chars b.bytes) right.1 in
    let scalars : all_scalars (one.0 ∷ []) ≡ true = ap all_scalars (sym one.1) ∙ scalars-chars b.bytes (IsUtf8-from_is_utf8 b.bytes right.0) in
    (inr (one.0, (both _ true scalars).0, b.is ∙ ap (quoted apostrophe) one.1), read_front apostrophe is_char t text u (inr refl) b right.0)

or_from : {A : Type 0} (first second : Option A) (x : A) → option_or first second ≡ Some x → (first ≡ Some x) ⊎ (second ≡ Some x)
or_from None second x h = inr h
or_from (Some y) second x h = inl h

pub read_quoted-sound : (t text u : List ℕ) → read_quoted t ≡ Some (text, u) → IsQuoted text × (t ≡ text ++ u)
unfolding read_quoted
read_quoted-sound t text u h =
    elim (or_from (read_between quotation_mark is_utf8 t) (read_between apostrophe is_char t) (text, u) h) [
      | inl of_text ↦ text_sound t text u (read_between-sound quotation_mark is_utf8 t text u of_text)
      | inr of_char ↦ char_sound t text u (read_between-sound apostrophe is_char t text u of_char)
    ]
