-- A character between apostrophes is found closed, however it is spelled: so each token document's characters are quotes of a debug document.
use Rattle.std.proofs.Common.{◌≡◌, ◌⊎◌, inl, inr, refl, sym, ap, ◌∙◌, ℕ, ◌+◌, ◌/◌, ◌%◌, ◌<◌, ◌≤◌, ◌==◌, nat_lt, Bool, true, false, List, [], ◌∷◌, ◌++◌, codes, append-nil, append_assoc, encode_utf8, arith, ◌||◌}
use borrow.Author.Tests.{ltb-true}
use lib.Utf8.{encode, next}
use Rattle.std.specs.Prelude.{unwrap_or}
use Rattle.std.specs.Char.{digit_char}
use Rattle.std.specs.Str.{encode_utf8_all}
use Rattle.std.proofs.lemmas.Bool.{cases_lt, cases_Bool}
use Rattle.std.proofs.lemmas.Bool.Decides.{nat_tests}
use Rattle.std.proofs.lemmas.Str.{encode_ascii}
use Rattle.ufmt_core.proofs.QuotedBytes.{escape-past_ascii}
use Rattle.ufmt_core.proofs.QuotedCharacters.{escaped_all-bytes}
use Rattle.ufmt_core.specs.Bytes.{apostrophe, backslash, closing_brace}
use Rattle.ufmt_core.specs.Quoted.{escape, escaped, escaped_byte, escaped_bytes, hex_digits}
use Rattle.ufmt_grammar.specs.Leaves.{begins_with, is_character_closed, is_continuation, is_control, is_escape_byte, past}
use Rattle.ufmt_grammar.proofs.QuotedDecoded.{each_row}

-- ---- escapes

digit_is_escape_byte : (d : ℕ) → d < 16 → is_escape_byte (digit_char d) ≡ true
digit_is_escape_byte d low = grind (arith, nat_tests)

-- the digits of an escape, and what closes it
digits_past : (b : ℕ) (short : Bool) → nat_lt b 16 ≡ short → b < 128 → begins_with apostrophe (past is_escape_byte (hex_digits b ++ (closing_brace ∷ apostrophe ∷ []))) ≡ true
digits_past b true short low = rw (short, digit_is_escape_byte b (ltb-true b 16 short)) refl
digits_past b false short low = rw (short, digit_is_escape_byte (b / 16) (omega arith), digit_is_escape_byte (b % 16) (omega arith)) refl

plain_closes : (b : ℕ) → is_control b ≡ false → (b == backslash || b == apostrophe) ≡ false → is_character_closed (b ∷ apostrophe ∷ []) ≡ true
plain_closes b no_control itself = grind (arith, nat_tests)

byte_closes : (b : ℕ) → is_character_closed (escaped_byte apostrophe b ++ (apostrophe ∷ [])) ≡ true
byte_closes b = each_row apostrophe b (λ n e. is_character_closed (e ++ (apostrophe ∷ [])) ≡ true) refl refl refl refl itself
    (λ low. rw (append_assoc (hex_digits b) (codes "}") (apostrophe ∷ [])) (digits_past b (nat_lt b 16) refl low))
    (λ no_control other. plain_closes b no_control other)
  where
    itself : (b ≡ backslash) ⊎ (b ≡ apostrophe) → is_character_closed (backslash ∷ b ∷ apostrophe ∷ []) ≡ true
    itself (inl e) = rw e refl
    itself (inr e) = rw e refl

-- ---- characters past ASCII

continues : (c : ℕ) → 128 ≤ c → c < 192 → is_continuation c ≡ true
continues c low high = grind (arith, nat_tests)

-- a first byte past ASCII, and the bytes of its character after it
leads : (c : ℕ) (t : List ℕ) → 128 ≤ c → begins_with apostrophe (past is_continuation t) ≡ true → is_character_closed (c ∷ t) ≡ true
leads c t high closes =
    let no_backslash : (c == backslash) ≡ false = grind (arith, nat_tests) in
    let no_apostrophe : (c == apostrophe) ≡ false = grind (arith, nat_tests) in
    let no_control : is_control c ≡ false = grind (arith, nat_tests) in
    rw (no_backslash, no_apostrophe, no_control) closes

-- a byte past the first, by six bits of the character
one_more : (bits : ℕ) (t : List ℕ) → begins_with apostrophe (past is_continuation t) ≡ true → begins_with apostrophe (past is_continuation (next bits ∷ t)) ≡ true
one_more bits t closes = rw (continues (next bits) (omega arith) (omega arith)) closes

one_more_closes : (c : ℕ) → begins_with apostrophe (past is_continuation (next c ∷ apostrophe ∷ [])) ≡ true
one_more_closes c = one_more c (apostrophe ∷ []) refl

two_more_close : (c : ℕ) → begins_with apostrophe (past is_continuation (next (c / 64) ∷ next c ∷ apostrophe ∷ [])) ≡ true
two_more_close c = one_more (c / 64) (next c ∷ apostrophe ∷ []) (one_more_closes c)

three_more_close : (c : ℕ) → begins_with apostrophe (past is_continuation (next (c / 4096) ∷ next (c / 64) ∷ next c ∷ apostrophe ∷ [])) ≡ true
three_more_close c = one_more (c / 4096) (next (c / 64) ∷ next c ∷ apostrophe ∷ []) (two_more_close c)

encoded_closes : (c : ℕ) → 128 ≤ c → is_character_closed (encode_utf8 c ++ (apostrophe ∷ [])) ≡ true
unfolding encode
encoded_closes c high =
    let long : nat_lt c 128 ≡ false = grind (arith, nat_tests) in
    elim (cases_Bool (nat_lt c 2048)) [
      | inl less ↦ rw (long, less) two
      | inr more ↦ elim (cases_Bool (nat_lt c 65536)) [ inl less ↦ rw (long, more, less) three | inr most ↦ rw (long, more, most) four ]
    ]
  where
    two : is_character_closed ((192 + c / 64) ∷ next c ∷ apostrophe ∷ []) ≡ true
    two = leads (192 + c / 64) (next c ∷ apostrophe ∷ []) (omega arith) (one_more_closes c)

    three : is_character_closed ((224 + c / 4096) ∷ next (c / 64) ∷ next c ∷ apostrophe ∷ []) ≡ true
    three = leads (224 + c / 4096) (next (c / 64) ∷ next c ∷ apostrophe ∷ []) (omega arith) (two_more_close c)

    four : is_character_closed ((240 + c / 262144) ∷ next (c / 4096) ∷ next (c / 64) ∷ next c ∷ apostrophe ∷ []) ≡ true
    four = leads (240 + c / 262144) (next (c / 4096) ∷ next (c / 64) ∷ next c ∷ apostrophe ∷ []) (omega arith) (three_more_close c)

-- ---- any character

character_closes : (c : ℕ) → is_character_closed (escaped apostrophe c ++ (apostrophe ∷ [])) ≡ true
character_closes c = elim (cases_lt c 128) [
  | inl low ↦ ap (λ e. is_character_closed (e ++ (apostrophe ∷ []))) (ap (unwrap_or (escape apostrophe c)) (encode_ascii c low)) ∙ byte_closes c
  | inr high ↦ ap (λ e. is_character_closed (unwrap_or e (encode_utf8 c) ++ (apostrophe ∷ []))) (escape-past_ascii apostrophe c (omega arith) high) ∙ encoded_closes c high
]

pub bytes_close : (c : ℕ) → is_character_closed (escaped_bytes apostrophe (encode_utf8_all (c ∷ [])) ++ (apostrophe ∷ [])) ≡ true
bytes_close c = ap (λ e. is_character_closed (e ++ (apostrophe ∷ []))) (sym (escaped_all-bytes apostrophe (omega arith) (c ∷ [])) ∙ append-nil (escaped apostrophe c)) ∙ character_closes c
