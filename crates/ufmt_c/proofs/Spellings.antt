-- Characters as Rust writes them between quotation marks: how long they are, and that a text begins with at most one.
use Rattle.std.proofs.Common.{◌≡◌, ◌≢◌, ◌⊎◌, inl, inr, refl, sym, ap, subst, ◌∙◌, ℕ, ◌+◌, ◌<◌, ◌≤◌, ◌==◌, ◌||◌, nat_lt, Bool, true, false, List, [], ◌∷◌, ◌++◌, codes, length, drop, get_or, append_assoc, append-nil, length-append, encode_utf8, arith}
use Rattle.std.specs.Char.{IsScalar, len_utf8}
use Rattle.std.specs.Char.Escape.{escape_unicode}
use Rattle.std.specs.Str.{encode_utf8_all}
use Rattle.std.proofs.lemmas.Bool.Decides.{nat_tests}
use Rattle.std.proofs.lemmas.Str.{encode_ascii, encodes-append, length-encode}
use Rattle.std.specs.Prelude.{unwrap_or, ◌/◌, ◌%◌}
use borrow.Author.Tests.{ltb-true}
use Rattle.ufmt_core.proofs.QuotedBytes.{escape-past_ascii}
use Rattle.ufmt_core.specs.Quoted.{escaped, escaped_byte, hex_digits}
use Rattle.ufmt_grammar.proofs.QuotedComplete.{length-escaped}
use Rattle.ufmt_grammar.proofs.QuotedDecoded.{each_row}
use Rattle.ufmt_parse_leaves.proofs.CharacterFronts.{character_once}
use Rattle.ufmt_scan.proofs.Characters.{Written, ascii, past_ascii, is_written}
use Rattle.ufmt_c.specs.DebugQuotes.{AreSpelled, IsSpelled}
use Rattle.ufmt_c.specs.Private.CharacterNumbers.{high_digits, low_digits, number_from}
use Rattle.ufmt_c.proofs.CharacterNumbers.{all_read, number_parts, scalar_small}

-- ---- a text begins with at most one

-- a character that is written by its number begins with a backslash and `u`
pub record Opens (t : List ℕ) : Type 0 where
  pub first : get_or t 0 0 ≡ 92
  pub second : get_or t 1 0 ≡ 117

pub opens : (d : ℕ) (y : List ℕ) → Opens (escape_unicode d ++ y)
opens d y = record { first = ap (λ e. get_or (e ++ y) 0 0) (number_parts d); second = ap (λ e. get_or (e ++ y) 1 0) (number_parts d) }

-- a control character is written by its number
control_number : (c : ℕ) (short : Bool) → nat_lt c 16 ≡ short → c < 128 → codes "\\u{" ++ (hex_digits c ++ codes "}") ≡ escape_unicode c
control_number c true is low =
    let digit : c / 1 % 16 ≡ c = omega (arith, ltb-true c 16 is) in
    rw (is, digit) refl
control_number c false is low =
    let two : nat_lt c 0x100 ≡ true = grind (arith, nat_tests) in
    let tens : c / 16 % 16 ≡ c / 16 = omega (arith, low) in
    let ones : c / 1 % 16 ≡ c % 16 = omega arith in
    rw (is, two, tens, ones) refl

-- what a byte is written as, if that begins so: it is written by its number
number_row : (c d : ℕ) (x y : List ℕ) → escaped_byte 34 c ++ x ≡ escape_unicode d ++ y → escaped_byte 34 c ≡ escape_unicode c
number_row c d x y = each_row 34 c (λ n e. e ++ x ≡ escape_unicode d ++ y → e ≡ escape_unicode n)
    (λ same. absurd (other 48 same (omega arith))) (λ same. absurd (other 116 same (omega arith))) (λ same. absurd (other 110 same (omega arith))) (λ same. absurd (other 114 same (omega arith)))
    itself (λ low same. control_number c (nat_lt c 16) refl low) plain
  where
    other : (b : ℕ) → 92 ∷ b ∷ x ≡ escape_unicode d ++ y → b < 117 → ⊥
    other b same small = omega (arith, small, ap (λ l. get_or l 1 0) same, (opens d y).second)

    itself : (c ≡ 92) ⊎ (c ≡ 34) → 92 ∷ c ∷ x ≡ escape_unicode d ++ y → 92 ∷ c ∷ [] ≡ escape_unicode c
    itself (inl is) same = absurd (other c same (omega (arith, is)))
    itself (inr is) same = absurd (other c same (omega (arith, is)))

    plain : (nat_lt c 32 || c == 127) ≡ false → (c == 92 || c == 34) ≡ false → c ∷ x ≡ escape_unicode d ++ y → c ∷ [] ≡ escape_unicode c
    plain no_control no_mark same =
        let first : c ≡ 92 = ap (λ l. get_or l 0 0) same ∙ (opens d y).first in
        absurd (grind (arith, nat_tests))

by_numbers : (c d : ℕ) (s r x y : List ℕ) → IsScalar c → IsScalar d → s ≡ escape_unicode c → r ≡ escape_unicode d → s ++ x ≡ r ++ y → (c ≡ d) × (s ≡ r)
by_numbers c d s r x y scalar other one two same =
    let number : c ≡ d = sym (all_read c x (scalar_small c scalar)) ∙ ap (λ t. number_from 0 (drop 3 t)) (ap (λ t. t ++ x) (sym one) ∙ same ∙ ap (λ t. t ++ y) two)
    ∙ all_read d y (scalar_small d other) in
    (number, one ∙ ap escape_unicode number ∙ sym two)

by_number_alone : (c d : ℕ) (s r x y : List ℕ) → IsScalar c → IsScalar d → s ≡ escaped 34 c → r ≡ escape_unicode d → s ++ x ≡ r ++ y → (c ≡ d) × (s ≡ r)
by_number_alone c d s r x y scalar other one two same = by (is_written 34 (inl refl) c)
  where
    whole : escaped 34 c ++ x ≡ escape_unicode d ++ y
    whole = ap (λ t. t ++ x) (sym one) ∙ same ∙ ap (λ t. t ++ y) two

    by : Written 34 c → (c ≡ d) × (s ≡ r)
    by (ascii low is) = by_numbers c d s r x y scalar other (one ∙ is ∙ number_row c d x y (ap (λ t. t ++ x) (sym is) ∙ whole)) two same
    by (past_ascii high itself b past more is) =
        let alone : escaped_byte 34 b ≡ b ∷ [] = ap (λ e. unwrap_or e (b ∷ [])) (escape-past_ascii 34 b (omega arith) past) in
        let begins = ap (λ t. t ++ x) (sym (is ∙ ap (λ e. e ++ more) alone)) ∙ whole in
        absurd (omega (arith, past, ap (λ (l : List ℕ). get_or l 0 0) begins, (opens d y).first))

pub same_spelling : (c d : ℕ) (s r x y : List ℕ) → IsScalar c → IsScalar d → IsSpelled c s → IsSpelled d r → s ++ x ≡ r ++ y → (c ≡ d) × (s ≡ r)
same_spelling c d s r x y scalar other (inl one) (inl two) same =
    let both = (character_once 34 (inl refl) c d x y (ap (λ t. t ++ x) (sym one) ∙ same ∙ ap (λ t. t ++ y) two)).0 in
    (both, one ∙ ap (escaped 34) both ∙ sym two)
same_spelling c d s r x y scalar other (inl one) (inr two) same = by_number_alone c d s r x y scalar other one two same
same_spelling c d s r x y scalar other (inr one) (inl two) same =
    let both = by_number_alone d c r s y x other scalar two one (sym same) in (sym both.0, sym both.1)
same_spelling c d s r x y scalar other (inr one) (inr two) same = by_numbers c d s r x y scalar other one two same

-- ---- how long they are

-- a character is written in as many bytes as it has, or more
pub spelling_longer : (c : ℕ) (s : List ℕ) → IsSpelled c s → length (encode_utf8 c) ≤ length s
spelling_longer c s (inl is) = by (is_written 34 (inl refl) c)
  where
    by : Written 34 c → length (encode_utf8 c) ≤ length s
    by (ascii low written) = omega (arith, ap length (is ∙ written), length-escaped 34 c, ap length (encode_ascii c low))
    by (past_ascii high itself b past more written) = omega (arith, ap length (is ∙ itself))
spelling_longer c s (inr is) =
    let four : len_utf8 c ≤ 4 = grind (arith, nat_tests) in
    omega (
      arith,
      four,
      length-encode c,
      ap length (is ∙ number_parts c),
      length-append (high_digits c) (low_digits c ++ (125 ∷ [])),
      length-append (low_digits c) (125 ∷ []),
    )

pub spellings_longer : (cs t : List ℕ) → AreSpelled cs t → length (encode_utf8_all cs) ≤ length t
unfolding AreSpelled
spellings_longer [] t spelled = omega arith
spellings_longer (c ∷ cs) t (front, rest, is, scalar, spelled, more) =
    omega (arith, ap length is, length-append front rest, length-append (encode_utf8 c) (encode_utf8_all cs), spelling_longer c front spelled, spellings_longer cs rest more)

-- ---- one after another

pub none_spelled : AreSpelled [] []
unfolding AreSpelled
none_spelled = refl

pub spelled_more : (cs t : List ℕ) (c : ℕ) (s : List ℕ) → AreSpelled cs t → IsScalar c → IsSpelled c s → AreSpelled (cs ++ (c ∷ [])) (t ++ s)
unfolding AreSpelled
spelled_more [] t c s nothing scalar spelled = (s, [], ap (λ u. u ++ s) nothing ∙ sym (append-nil s), scalar, spelled, refl)
spelled_more (b ∷ cs) t c s (front, rest, is, also, first, more) scalar spelled =
    (front, rest ++ s, ap (λ u. u ++ s) is ∙ append_assoc front rest s, also, first, spelled_more cs rest c s more scalar spelled)
