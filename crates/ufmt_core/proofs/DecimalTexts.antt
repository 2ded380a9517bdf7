-- Decimal texts: each number has exactly one, each denotes one number, and a text grows by its last digit.
use Rattle.std.proofs.Common.{◌≡◌, true, false, true≢false, ℕ, suc, ◌+◌, ◌^◌, ◌<◌, ◌≤◌, List, [], ◌∷◌, ◌++◌, map, length, get_or, drop, ℤ, pos, negsuc, nat_abs, refl, sym, ap, ◌∙◌, arith}
use borrow.Author.Tests.{ltb-true}
use Rattle.std.specs.Str.{IsAscii}
use Rattle.std.specs.Int.{is_negative}
use Rattle.std.proofs.lemmas.Str.Ascii.{IsAscii-cons}
use Rattle.ufmt_core.specs.Decimal.{decimal_byte, DenotesMagnitude, sign_of, DenotesDecimal, numeral, decimal}
use Rattle.ufmt_core.proofs.Numerals.{numeral-denotes}
use Rattle.ufmt_core.proofs.NumeralTexts.{one_text, one_number, IsTextInBase, length-text-le, IsAscii-text}

-- a text denotes one magnitude
DenotesMagnitude-number : (s t : List ℕ) (m n : ℕ) → s ≡ t → DenotesMagnitude s m → DenotesMagnitude t n → m ≡ n
DenotesMagnitude-number s t m n same denotes_m denotes_n =
    one_number 10 decimal_byte m n (λ x y bytes. omega arith) same denotes_m.bytes denotes_m.denotes denotes_n.bytes denotes_n.denotes

first_byte : (digits : List ℕ) → 0 < length digits → 48 ≤ get_or (map decimal_byte digits) 0 0
first_byte [] some = absurd (omega arith)
first_byte (digit ∷ digits) some = omega arith

-- the text of a magnitude doesn't begin with `-`
no_sign : (text rest : List ℕ) (n : ℕ) → DenotesMagnitude text n → text ≡ 45 ∷ rest → ⊥
no_sign text rest n denotes minus =
    omega (arith, first_byte denotes.digits denotes.denotes.some_digit, ap (λ (bytes : List ℕ). get_or bytes 0 0) (sym denotes.bytes ∙ minus))

-- a number has one decimal text
pub DenotesDecimal-one : (z : ℤ) (s t : List ℕ) → DenotesDecimal s z → DenotesDecimal t z → s ≡ t
DenotesDecimal-one z s t denotes_s denotes_t =
    let same = one_text 10 decimal_byte (nat_abs z) (omega arith) denotes_s.denotes.bytes denotes_s.denotes.denotes denotes_t.denotes.bytes denotes_t.denotes.denotes in
    denotes_s.signed ∙ ap (λ magnitude. sign_of z ++ magnitude) same ∙ sym denotes_t.signed

-- a decimal text denotes one number
pub DenotesDecimal-number : (text : List ℕ) (y z : ℤ) → DenotesDecimal text y → DenotesDecimal text z → y ≡ z
DenotesDecimal-number text (pos m) (pos n) denotes_y denotes_z =
    ap pos (DenotesMagnitude-number denotes_y.magnitude denotes_z.magnitude m n (sym denotes_y.signed ∙ denotes_z.signed) denotes_y.denotes denotes_z.denotes)
DenotesDecimal-number text (pos m) (negsuc n) denotes_y denotes_z =
    absurd (no_sign denotes_y.magnitude denotes_z.magnitude m denotes_y.denotes (sym denotes_y.signed ∙ denotes_z.signed))
DenotesDecimal-number text (negsuc m) (pos n) denotes_y denotes_z =
    absurd (no_sign denotes_z.magnitude denotes_y.magnitude n denotes_z.denotes (sym denotes_z.signed ∙ denotes_y.signed))
DenotesDecimal-number text (negsuc m) (negsuc n) denotes_y denotes_z =
    let signed : 45 ∷ denotes_y.magnitude ≡ 45 ∷ denotes_z.magnitude = sym denotes_y.signed ∙ denotes_z.signed in
    let same : denotes_y.magnitude ≡ denotes_z.magnitude = ap (drop 1) signed in
    let magnitudes = DenotesMagnitude-number denotes_y.magnitude denotes_z.magnitude (suc m) (suc n) same denotes_y.denotes denotes_z.denotes in
    ap negsuc (omega arith)

-- `decimal` gives a text that denotes the number
pub decimal-denotes : (z : ℤ) → DenotesDecimal (decimal z) z
unfolding decimal
decimal-denotes z = record {
  magnitude = map decimal_byte (numeral 10 (nat_abs z));
  signed = refl;
  denotes = record {
    digits = numeral 10 (nat_abs z);
    bytes = refl;
    denotes = numeral-denotes 10 (nat_abs z) (omega arith);
  };
}

-- the text of a magnitude is its digits in base 10
pub decimal-in_base : IsTextInBase 10 decimal_byte (λ n. decimal (pos n))
unfolding decimal
decimal-in_base = record { two = omega arith; by_digits = λ n. refl }

-- the text of a negative number is `-` and the text of its magnitude
pub decimal-negative : (z : ℤ) → is_negative z ≡ true → decimal z ≡ 45 ∷ decimal (pos (nat_abs z))
unfolding decimal
decimal-negative (pos n) sign = absurd (omega (arith, ltb-true n 0 sign))
decimal-negative (negsuc n) sign = refl

-- the text of any other number is the text of its magnitude
pub decimal-positive : (z : ℤ) → is_negative z ≡ false → decimal z ≡ decimal (pos (nat_abs z))
decimal-positive (pos n) sign = refl
decimal-positive (negsuc n) sign = absurd (true≢false sign)

-- a number's text is at least as long as the text of its magnitude
pub length-magnitude-le : (z : ℤ) → length (decimal (pos (nat_abs z))) ≤ length (decimal z)
unfolding decimal
length-magnitude-le (pos n) = omega arith
length-magnitude-le (negsuc n) = omega arith

-- a magnitude below 10 to the power k has at most k bytes, and the sign has one
pub length-signed-le : (k : ℕ) (z : ℤ) → 0 < k → nat_abs z < 10 ^ k → length (decimal z) ≤ k + 1
unfolding decimal
length-signed-le k (pos n) some low = omega (arith, length-text-le decimal-in_base k n some low)
length-signed-le k (negsuc n) some low = omega (arith, length-text-le decimal-in_base k (suc n) some low)

-- decimal texts are ASCII
pub IsAscii-decimal : (z : ℤ) → IsAscii (decimal z)
IsAscii-decimal (pos n) = IsAscii-text decimal-in_base (λ digit low. omega arith) n
IsAscii-decimal (negsuc n) = rw (decimal-negative (negsuc n) refl)
    (IsAscii-cons 45 (decimal (pos (suc n))) (omega arith) (IsAscii-text decimal-in_base (λ digit low. omega arith) (suc n)))
