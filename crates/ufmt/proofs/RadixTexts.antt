-- Each number has exactly one text in a base and a case of letters, and each such text denotes one number.
use Rattle.std.proofs.Common.{◌≡◌, ◌≢◌, Bool, true, false, ℕ, ◌/◌, ◌^◌, ◌<◌, ◌≤◌, List, refl, arith}
use Rattle.std.proofs.Math.Nat.{div-lt_self, le-div_iff_mul-le, pow-le-pow_left}
use Rattle.std.proofs.lemmas.Bool.Decides.{nat_tests}
use Rattle.ufmt_core.specs.Decimal.{numeral}
use Rattle.ufmt_core.proofs.Numerals.{numeral-denotes}
use Rattle.ufmt_core.proofs.NumeralTexts.{one_text, one_number, IsTextInBase}
use Rattle.ufmt.specs.Radix.{digit_byte, digits_in, DenotesIn}

byte_same : (upper_case : Bool) (x y : ℕ) → digit_byte upper_case x ≡ digit_byte upper_case y → x ≡ y
byte_same true x y same = grind (arith, nat_tests)
byte_same false x y same = grind (arith, nat_tests)

pub byte-ascii : (upper_case : Bool) (digit : ℕ) → digit < 16 → digit_byte upper_case digit < 128
byte-ascii true digit low = grind (arith, nat_tests)
byte-ascii false digit low = grind (arith, nat_tests)

-- a number has at most one text in a base and a case of letters
pub DenotesIn-one : (base : ℕ) → 2 ≤ base → (upper_case : Bool) (n : ℕ) (s t : List ℕ) → DenotesIn base upper_case s n → DenotesIn base upper_case t n → s ≡ t
DenotesIn-one base two upper_case n s t denotes_s denotes_t =
    one_text base (digit_byte upper_case) n two denotes_s.bytes denotes_s.denotes denotes_t.bytes denotes_t.denotes

-- a text denotes at most one number in a base
pub DenotesIn-number : (base : ℕ) (upper_case : Bool) (text : List ℕ) (m n : ℕ) → DenotesIn base upper_case text m → DenotesIn base upper_case text n → m ≡ n
DenotesIn-number base upper_case text m n denotes_m denotes_n =
    one_number base (digit_byte upper_case) m n (byte_same upper_case) refl denotes_m.bytes denotes_m.denotes denotes_n.bytes denotes_n.denotes

pub digits_in-denotes : (base : ℕ) → 2 ≤ base → (upper_case : Bool) (n : ℕ) → DenotesIn base upper_case (digits_in base upper_case n) n
unfolding digits_in
digits_in-denotes base two upper_case n = record { digits = numeral base n; bytes = refl; denotes = numeral-denotes base n two }

-- `digits_in` writes the number's digits in the base
pub digits-in_base : (base : ℕ) → 2 ≤ base → (upper_case : Bool) → IsTextInBase base (digit_byte upper_case) (digits_in base upper_case)
unfolding digits_in
digits-in_base base two upper_case = record { two = two; by_digits = λ n. refl }

-- what has room in binary digits has room in each base
pub room_in_base : (base n size : ℕ) → 2 ≤ base → n < 2 ^ size → n < base ^ size
room_in_base base n size two low = omega (arith, low, pow-le-pow_left two size)

-- a number without its last digit is less, if digits are left
pub fewer_digits : (base left rest : ℕ) → 2 ≤ base → rest ≡ left / base → rest ≢ 0 → rest < left
fewer_digits base left rest two is_rest more =
    let high : base ≤ left = omega (arith, (le-div_iff_mul-le {k = base} {x = 1} {y = left} (omega arith)).0 (omega arith)) in
    omega (arith, is_rest, div-lt_self {n = left} {k = base} (omega arith) (omega arith))
