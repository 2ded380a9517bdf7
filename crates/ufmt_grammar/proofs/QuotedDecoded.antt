-- The spelling of a byte between quotes is decoded to that byte, whatever follows it.
use Rattle.std.proofs.Common.{◌≡◌, ◌⊎◌, inl, inr, refl, sym, subst, ◌∙◌, ℕ, ◌+◌, ◌*◌, ◌/◌, ◌%◌, ◌<◌, ◌==◌, nat_lt, Bool, true, false, List, [], ◌∷◌, ◌++◌, codes, eqb-true, arith, ◌||◌}
use borrow.Author.Tests.{ltb-true}
use Rattle.std.specs.Char.{digit_char, digit_value}
use Rattle.std.proofs.lemmas.Str.{digit_value-digit_char}
use Rattle.std.proofs.lemmas.Bool.Decides.{nat_tests}
use Rattle.ufmt_core.specs.Bytes.{backslash, closing_brace}
use Rattle.ufmt_core.specs.Quoted.{IsQuote, escaped_byte, hex_digits}
use Rattle.ufmt_grammar.specs.ReadingQuoted.{decoded}

-- a digit is not the byte of `}`
digit_no_brace : (d : ℕ) → d < 16 → (digit_char d == closing_brace) ≡ false
digit_no_brace d low = grind (arith, nat_tests)

-- decoding the two digits of a number gives the number
two_digits : (b : ℕ) → b < 256 → digit_value (digit_char (b / 16)) * 16 + digit_value (digit_char (b % 16)) ≡ b
two_digits b low = rw (digit_value-digit_char (b / 16) (omega arith), digit_value-digit_char (b % 16) (omega arith)) (omega arith)

-- a property of each row of `escape`, and of a byte that is written as itself, holds of each spelling
module _ (q b : ℕ) where
  one_of : (b == backslash || b == q) ≡ true → (b ≡ backslash) ⊎ (b ≡ q)
  one_of h = grind (arith, nat_tests)

  pub no_backslash : (b == backslash || b == q) ≡ false → (b == backslash) ≡ false
  no_backslash h = grind (arith, nat_tests)

  control_low : (nat_lt b 32 || b == 127) ≡ true → b < 128
  control_low h = grind (arith, nat_tests)

  at_row : (P : ℕ → List ℕ → Type 0) (row : ℕ) → b ≡ row → P row (escaped_byte q row) → P b (escaped_byte q b)
  at_row P row e h = subst (λ (n : ℕ). P n (escaped_byte q n)) (sym e) h

  -- the rows of `escape`, in order
  module _ (P : ℕ → List ℕ → Type 0) (p0 : P 0 (codes "\\0")) (p9 : P 9 (codes "\\t")) (p10 : P 10 (codes "\\n")) (p13 : P 13 (codes "\\r"))
      (itself : (b ≡ backslash) ⊎ (b ≡ q) → P b (backslash ∷ b ∷ [])) (control : b < 128 → P b (codes "\\u{" ++ (hex_digits b ++ codes "}")))
      (plain : (nat_lt b 32 || b == 127) ≡ false → (b == backslash || b == q) ≡ false → P b (b ∷ [])) where
    rows : (r0 r9 r10 r13 ritself rcontrol : Bool) → (b == 0) ≡ r0 → (b == 9) ≡ r9 → (b == 10) ≡ r10 → (b == 13) ≡ r13
        → (b == backslash || b == q) ≡ ritself → (nat_lt b 32 || b == 127) ≡ rcontrol → P b (escaped_byte q b)
    rows true r9 r10 r13 ritself rcontrol h0 h9 h10 h13 hi hc = at_row P 0 (eqb-true b 0 h0) p0
    rows false true r10 r13 ritself rcontrol h0 h9 h10 h13 hi hc = at_row P 9 (eqb-true b 9 h9) p9
    rows false false true r13 ritself rcontrol h0 h9 h10 h13 hi hc = at_row P 10 (eqb-true b 10 h10) p10
    rows false false false true ritself rcontrol h0 h9 h10 h13 hi hc = at_row P 13 (eqb-true b 13 h13) p13
    rows false false false false true rcontrol h0 h9 h10 h13 hi hc = rw (h0, h9, h10, h13, hi) (itself (one_of hi))
    rows false false false false false true h0 h9 h10 h13 hi hc = rw (h0, h9, h10, h13, hi, hc) (control (control_low hc))
    rows false false false false false false h0 h9 h10 h13 hi hc = rw (h0, h9, h10, h13, hi, hc) (plain hc hi)

    pub each_row : P b (escaped_byte q b)
    each_row = rows (b == 0) (b == 9) (b == 10) (b == 13) (b == backslash || b == q) (nat_lt b 32 || b == 127) refl refl refl refl refl refl

module _ (q b : ℕ) (t : List ℕ) (quote : IsQuote q) where
  -- the row that writes the byte itself after a backslash
  decoded-itself : (b ≡ backslash) ⊎ (b ≡ q) → decoded (backslash ∷ b ∷ t) ≡ b
  decoded-itself (inl e) = rw e refl
  decoded-itself (inr e) = elim quote [ inl h ↦ rw (e ∙ h) refl | inr h ↦ rw (e ∙ h) refl ]

  -- the row that writes the byte in hexadecimal, with one digit or with two
  decoded-braces : (short : Bool) → nat_lt b 16 ≡ short → b < 128 → decoded (codes "\\u{" ++ ((hex_digits b ++ codes "}") ++ t)) ≡ b
  decoded-braces true short low = rw short (digit_value-digit_char b (omega (arith, ltb-true b 16 short)))
  decoded-braces false short low = rw (short, digit_no_brace (b % 16) (omega arith)) (two_digits b (omega arith))

  pub decoded-escaped : decoded (escaped_byte q b ++ t) ≡ b
  decoded-escaped = each_row q b (λ n e. decoded (e ++ t) ≡ n) refl refl refl refl decoded-itself (decoded-braces (nat_lt b 16) refl)
      (λ no_control itself. rw (no_backslash q b itself) refl)
