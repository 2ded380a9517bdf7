-- Digits in the lanes of a vector: two in a lane twice as wide, and then their number in it.
use Rattle.std.proofs.Common.{◌≡◌, inl, inr, refl, sym, ap, ◌∙◌, ℕ, zero, suc, ◌+◌, ◌-◌, ◌*◌, ◌/◌, ◌%◌, ◌^◌, ◌<◌, ◌≤◌, Bool, true, false, not, cond, eqb, ltb, List, [], ◌∷◌, map, length, arith, pow-suc, div-lt_iff_lt-mul, div-add-mod', eqb-true, ltb-false, Fits, w8}
use Rattle.std.proofs.Math.Nat.{pow-zero}
use Rattle.std.proofs.lemmas.Bool.{cases_Bool, not-false, not-true}
use Rattle.std.proofs.lemmas.List.{length-map}
use Rattle.std.proofs.lemmas.Nat.{mul-add-lt}
use Rattle.std.proofs.lemmas.Simd.{mask_l-mod, tops_compared, zip2_splat, zip2_splat_left}
use Rattle.std.specs.Int.Digits.{number_from_digits_after, AllBelowBase}
use lib.Lanes.{digits_l, mask_l, number_l, top, zip2, Each1}
use lib.ListN.{replicate}
use Rattle.ufmt_core.specs.Decimal.{decimal_byte}
use Rattle.ufmt_parse_leaves.specs.Private.Digits.{joined}

-- a word cut into its parts and put together again
pub number_of_digits : (p count n : ℕ) → 0 < p → n < p ^ count → number_l p (digits_l p count n) ≡ n
number_of_digits p zero n some low = omega (arith, pow-zero p)
number_of_digits p (suc count) n some low =
    let less : n / p < p ^ count = (div-lt_iff_lt-mul some).1 (rw (← pow-suc p count) low) in
    rw (number_of_digits p count (n / p) some less) (omega (arith, div-add-mod' n p))

-- the word of so many lanes
pub number_below : (p base count : ℕ) (digits : List ℕ) → base ≤ p → length digits ≡ count → AllBelowBase base digits → number_l p digits < p ^ count
number_below p base zero [] most long below = omega (arith, pow-zero p)
number_below p base zero (a ∷ digits) most long below = absurd (omega arith)
number_below p base (suc count) [] most long below = absurd (omega arith)
number_below p base (suc count) (a ∷ digits) most long below =
    rw pow-suc (word_below a p (number_l p digits) (p ^ count) (omega (arith, below.0)) (number_below p base count digits most (omega arith) below.1))
  where
    word_below : (a p n m : ℕ) → a < p → n < m → a + p * n < m * p
    word_below a p n m A N = omega (arith, mul-add-lt n p a m N A)

-- lanes of p become lanes of q, which is p * p; a lane's step gives the number of its two digits
module _ (p q base square : ℕ) (step : ℕ → ℕ)
    (low : (a b rest : ℕ) → a < base → b < base → (a + p * (b + p * rest)) % q ≡ a + p * b)
    (high : (a b rest : ℕ) → a < base → b < base → (a + p * (b + p * rest)) / q ≡ rest)
    (lane : (a b : ℕ) → a < base → b < base → step (a + p * b) ≡ a * base + b) where
  pub joined_lanes : (count : ℕ) (digits : List ℕ) → length digits ≡ 2 * count → AllBelowBase base digits
      → map step (digits_l q count (number_l p digits)) ≡ joined base digits
  joined_lanes zero [] long below = refl
  joined_lanes zero (a ∷ digits) long below = absurd (omega arith)
  joined_lanes (suc count) [] long below = absurd (omega arith)
  joined_lanes (suc count) (a ∷ []) long below = absurd (omega arith)
  joined_lanes (suc count) (a ∷ b ∷ digits) long below =
      let rest = number_l p digits in
      rw (low a b rest below.0 below.1.0, high a b rest below.0 below.1.0, lane a b below.0 below.1.0)
      (ap (λ lanes. (a * base + b) ∷ lanes) (joined_lanes count digits (omega arith) below.1.1))

-- each pair is below the square of the base
pub joined_below : (base square : ℕ) → ((a b : ℕ) → a < base → b < base → a * base + b < square)
    → (digits : List ℕ) → AllBelowBase base digits → AllBelowBase square (joined base digits)
joined_below base square pair [] below = tt
joined_below base square pair (a ∷ []) below = tt
joined_below base square pair (a ∷ b ∷ digits) below = (pair a b below.0 below.1.0, joined_below base square pair digits below.1.1)

-- digits and their pairs denote the same number
pub joined_number : (base square : ℕ) → ((n a b : ℕ) → (n * base + a) * base + b ≡ n * square + (a * base + b))
    → (count n : ℕ) (digits : List ℕ) → length digits ≡ 2 * count
    → number_from_digits_after square n (joined base digits) ≡ number_from_digits_after base n digits
joined_number base square horner zero n [] long = refl
joined_number base square horner zero n (a ∷ digits) long = absurd (omega arith)
joined_number base square horner (suc count) n [] long = absurd (omega arith)
joined_number base square horner (suc count) n (a ∷ []) long = absurd (omega arith)
joined_number base square horner (suc count) n (a ∷ b ∷ digits) long =
    rw (horner n a b) (joined_number base square horner count (n * square + (a * base + b)) digits (omega arith))

pub length-joined : (base count : ℕ) (digits : List ℕ) → length digits ≡ 2 * count → length (joined base digits) ≡ count
length-joined base zero [] long = refl
length-joined base zero (a ∷ digits) long = absurd (omega arith)
length-joined base (suc count) [] long = absurd (omega arith)
length-joined base (suc count) (a ∷ []) long = absurd (omega arith)
length-joined base (suc count) (a ∷ b ∷ digits) long = ap suc (length-joined base count digits (omega arith))

-- sixteen digits, joined three times
pub joined_sixteen : (digits : List ℕ) → length digits ≡ 16
    → number_from_digits_after 100000000 0 (joined 10000 (joined 100 (joined 10 digits))) ≡ number_from_digits_after 10 0 digits
joined_sixteen digits long =
    let pairs = length-joined 10 8 digits long in
    let fours = length-joined 100 4 (joined 10 digits) pairs in
    joined_number 10000 100000000 (λ n a b. omega arith) 2 0 (joined 100 (joined 10 digits)) fours
    ∙ joined_number 100 10000 (λ n a b. omega arith) 4 0 (joined 10 digits) pairs
    ∙ joined_number 10 100 (λ n a b. omega arith) 8 0 digits long

-- ---- which bytes are digits

mask_none : (p : ℕ → Bool) → ((x : ℕ) → p x ≡ false → x < 10) → (xs : List ℕ) → mask_l (map p xs) ≡ 0 → AllBelowBase 10 xs
mask_none p low [] none = tt
mask_none p low (x ∷ xs) none = elim (cases_Bool (p x)) [
  | inl e ↦ absurd (omega (arith, rw e at none))
  | inr e ↦ (low x e, mask_none p low xs (omega (arith, rw e at none)))
]

is_none : (n : ℕ) → not (not (eqb n 0)) ≡ true → n ≡ 0
is_none n e = eqb-true n 0 (not-false (eqb n 0) (not-true (not (eqb n 0)) e))

-- where no lane is above 9
pub none_above : (xs : List ℕ) → length xs ≡ 16
    → not (not (eqb (mask_l (map (top 7) (zip2 (λ a b. cond (ltb a b) 255 0) (replicate 16 9) xs)) % 2 ^ 64) 0)) ≡ true → AllBelowBase 10 xs
none_above xs long none =
    let tops = tops_compared w8 ltb (replicate 16 9) xs ∙ zip2_splat_left ltb 9 16 xs long in
    let whole = ap (λ lanes. mask_l lanes % 2 ^ 64) tops ∙ mask_l-mod (map (ltb 9) xs) 64 (omega (arith, length-map xs (ltb 9))) in
    mask_none (ltb 9) (λ x e. omega (arith, ltb-false 9 x e)) xs (sym whole ∙ is_none _ none)

abbrev less : ℕ → ℕ
less byte = (byte + (256 - 48)) % 256

digit_bytes : (bytes : List ℕ) → Each1 (Fits w8) bytes → AllBelowBase 10 (map less bytes) → bytes ≡ map decimal_byte (map less bytes)
digit_bytes [] fit low = refl
digit_bytes (byte ∷ bytes) fit low =
    let one : byte ≡ 48 + less byte = omega (arith, fit.0.fits, low.0) in
    λ i. one i ∷ digit_bytes bytes fit.1 low.1 i

-- bytes that are less than 10 more than `0` are digits
pub digits_less_zero : (bytes : List ℕ) → length bytes ≡ 16 → Each1 (Fits w8) bytes
    → AllBelowBase 10 (zip2 (λ a b. (a + (256 - b)) % 256) bytes (replicate 16 48))
    → bytes ≡ map decimal_byte (zip2 (λ a b. (a + (256 - b)) % 256) bytes (replicate 16 48))
digits_less_zero bytes long fit low =
    let each = zip2_splat (λ a b. (a + (256 - b)) % 256) bytes 16 48 long in
    rw each (digit_bytes bytes fit (rw each at low))
