-- Numbers that are rounded to 0.
use Rattle.std.proofs.Common.{◌≡◌, ℕ, zero, suc, ◌+◌, ◌-◌, ◌*◌, ◌/◌, ◌^◌, ◌<◌, ◌≤◌, ◌⊎◌, inl, inr, [], ◌++◌, replicate, true, pos, sym, ap, ◌∙◌, arith, append-nil, mul-le-mul, mul-le-mul_left, mul-le-mul_right, le_trans, codes, nat_lt, if◌then◌else◌}
use Rattle.std.proofs.lemmas.Nat.{leading_length}
use native.Mathlib.Nat.{pow-le-pow_right}
use borrow.Author.Tests.{lt-ltb}
use lib.Count.{count_leading_zeros}
use lib.Dec.{lit<, lit≤}
use lib.Pow.{pow-add, pow_pos, pow_mono}
use Rattle.ufmt_float.specs.Text.{last_digits}
use Rattle.ufmt_core.specs.Decimal.{decimal}
use Rattle.ufmt_fixed.specs.Nearest.{nearest}
use Rattle.ufmt_fixed.specs.Text.{fixed_digits}
use Rattle.ufmt_fixed.proofs.Puts.{one_digit}
use Rattle.ufmt_float.proofs.Puts.{last_digits-none}
use Rattle.ufmt_fixed.proofs.Roundings.{nearest_none}
use Rattle.ufmt_fixed.proofs.Texts.{fixed_with_zeros}

-- ---- sizes

-- a thousand has ten bits
thousands : (k : ℕ) → 10 ^ (3 * k) ≤ 2 ^ (10 * k)
thousands zero = lit≤ tt
thousands (suc k) =
    let three : 3 * suc k ≡ 3 * k + 3 = omega arith in
    let ten : 10 * suc k ≡ 10 * k + 10 = omega arith in
    rw (three, ten, pow-add 10 (3 * k) 3, pow-add 2 (10 * k) 10) (mul-le-mul (thousands k) (lit≤ tt))

tens_bits : (d : ℕ) → 10 ^ d ≤ 2 ^ (10 * (d / 3 + 1))
tens_bits d =
    let more : d ≤ 3 * (d / 3 + 1) = omega arith in
    le_trans (pow-le-pow_right (lit< tt) more) (thousands (d / 3 + 1))

-- a number by its bits, and a power of ten
pub far_below_half : (m halves decimals : ℕ) → m < 2 ^ 64 → 64 - count_leading_zeros 64 m + 10 * (decimals / 3 + 1) < halves → 2 * (m * 10 ^ decimals) < 2 ^ halves
far_below_half m halves decimals h few =
    let (bits, all, small, _) = leading_length 64 m h in
    let power = 10 * (decimals / 3 + 1) in
    let next : m + 1 ≤ 2 ^ bits = omega arith in
    let double : 2 ^ (1 + (bits + power)) ≡ 2 * (2 ^ bits * 2 ^ power) = pow-add 2 1 (bits + power) ∙ ap (λ x. 2 * x) (pow-add 2 bits power) in
    let within : 2 ^ (1 + (bits + power)) ≤ 2 ^ halves = pow_mono (omega arith) in
    omega (arith, double, within, mul-le-mul_right (2 ^ power) next, mul-le-mul_left m (tens_bits decimals), pow_pos power)

-- a float has twos or halves
pub below_half : (m twos halves decimals : ℕ) → (twos ≡ 0) ⊎ (halves ≡ 0) → 2 * (m * 10 ^ decimals) < 2 ^ halves → nearest (m * 2 ^ twos * 10 ^ decimals) (2 ^ halves) ≡ 0
below_half m twos halves decimals (inl z) h =
    let one : m * 2 ^ twos ≡ m = ap (λ k. m * 2 ^ k) z ∙ omega arith in
    nearest_none (m * 2 ^ twos * 10 ^ decimals) (2 ^ halves) (rw one h)
below_half m twos halves decimals (inr z) h =
    let one : 2 ^ halves ≡ 1 = ap (λ k. 2 ^ k) z in
    let none : m * 10 ^ decimals ≡ 0 = omega (arith, h, one) in
    let product : m * 2 ^ twos * 10 ^ decimals ≡ 0 = regroup m (2 ^ twos) (10 ^ decimals) ∙ ap (λ x. x * 2 ^ twos) none ∙ omega arith in
    nearest_none (m * 2 ^ twos * 10 ^ decimals) (2 ^ halves) (omega (arith, product, one))
  where
    regroup : (m a b : ℕ) → m * a * b ≡ m * b * a
    regroup m a b = grind arith

-- ---- the text

zero_digit_text : decimal (pos 0) ≡ codes "0"
zero_digit_text = one_digit 0 (omega arith)

-- 0 with decimals, which are all zeros
pub zero_written : (decimals digits : ℕ) → digits ≡ 0 → (codes "0" ++ (if (nat_lt 0 decimals) then (codes ".") else [])) ++ replicate decimals 48 ≡ fixed_digits decimals digits
zero_written zero digits none = sym ((λ i. decimal (pos (none i / 10 ^ 0)) ++ []) ∙ append-nil (decimal (pos 0)) ∙ zero_digit_text)
zero_written (suc more) digits none =
    let some : nat_lt 0 (suc more) ≡ true = lt-ltb 0 (suc more) (omega arith) in
    let text : (decimal (pos (0 / 10 ^ 0)) ++ (codes "." ++ last_digits 0 0)) ≡ codes "0" ++ codes "." = λ i. zero_digit_text i ++ (codes "." ++ last_digits-none 0 i) in
    let all : 0 + suc more ≡ suc more = omega arith in
    let scaled : 0 * 10 ^ suc more ≡ digits = omega (arith, none) in
    rw some (sym (ap (λ t. t ++ replicate (suc more) 48) text) ∙ sym (fixed_with_zeros 0 (suc more) 0 (omega arith)) ∙ (λ i. fixed_digits (all i) (scaled i)))
