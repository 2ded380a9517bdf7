-- Digits in a base: each number has exactly one list of them, and each list denotes one number.
use Rattle.std.proofs.Common.{◌≡◌, ℕ, zero, suc, ◌+◌, ◌*◌, ◌/◌, ◌%◌, ◌^◌, ◌<◌, ◌≤◌, List, [], ◌∷◌, ◌++◌, length, refl, sym, ap, ap₂, ◌∙◌, arith, mul-le-mul_right, pow-suc, append_assoc, append-nil}
use Rattle.std.proofs.Math.Nat.{pow-zero, div-eq_of_lt, mod-eq_of_lt}
use Rattle.std.proofs.lemmas.Nat.{div-mul-add, le-div, mod-mul-add}
use Rattle.std.proofs.lemmas.List.Elements.{All-from_recursion, All-nil, All-cons, All-head, All-tail}
use Rattle.std.proofs.lemmas.Int.Digits.{digits_of_step, length-digits_of_step, all_below_base_digits_of, first_digits_of, length-digits_of-le, number_after_ge, number_digits_of}
use Rattle.std.specs.List.{All}
use Rattle.std.specs.Int.Digits.{digits_of, number_from_digits_after}
use Rattle.ufmt_core.specs.Decimal.{value_in_base, DenotesInBase, numeral}

-- Horner's rule gives the value
number_after-value : (base n : ℕ) (digits : List ℕ) → number_from_digits_after base n digits ≡ n * base ^ length digits + value_in_base base digits
number_after-value base n [] = rw pow-zero (omega arith)
number_after-value base n (digit ∷ digits) = rw (number_after-value base (n * base + digit) digits, pow-suc) (omega arith)

-- digits after those of a number above 0 are the digits of the number that all of them denote
digits_of-after : (base n : ℕ) (digits : List ℕ) → 2 ≤ base → 0 < n → All (λ digit. digit < base) digits
    → digits_of base (number_from_digits_after base n digits) ≡ digits_of base n ++ digits
digits_of-after base n [] two positive below = sym (append-nil _)
digits_of-after base n (digit ∷ digits) two positive below =
    let low = All-head (λ d. d < base) digit digits below in
    let more : 0 < n * base + digit = omega (arith, mul-le-mul_right base positive) in
    digits_of-after base (n * base + digit) digits two more (All-tail (λ d. d < base) digit digits below)
    ∙ ap (λ front. front ++ digits) (digits_of_step base (n * base + digit) two more
    ∙ ap₂ (λ q r. digits_of base q ++ r ∷ []) (div-mul-add n base digit low) (mod-mul-add n base digit low))
    ∙ append_assoc (digits_of base n) (digit ∷ []) digits

digits_of-digit : (base n : ℕ) → 2 ≤ base → 0 < n → n < base → digits_of base n ≡ n ∷ []
digits_of-digit base n two positive low = digits_of_step base n two positive ∙ ap₂ (λ q r. digits_of base q ++ r ∷ []) (div-eq_of_lt low) (mod-eq_of_lt low)

-- the numeral of a number above 0 is `digits_of`
numeral-positive : (base n : ℕ) → 0 < n → numeral base n ≡ digits_of base n
unfolding numeral
numeral-positive base zero positive = absurd (omega arith)
numeral-positive base (suc n) positive = refl

-- digits that denote a number are its numeral
numeral-denoted : (base n : ℕ) (xs : List ℕ) → 2 ≤ base → DenotesInBase base xs n → xs ≡ numeral base n
unfolding numeral
numeral-denoted base n [] two denotes = absurd (omega (arith, denotes.some_digit))
numeral-denoted base n (zero ∷ xs) two denotes =
    let alone = denotes.no_leading_zero refl in
    let none : 0 ≡ n = omega (arith, ap (value_in_base base) alone, denotes.value) in
    alone ∙ ap (numeral base) none
numeral-denoted base n (suc x ∷ xs) two denotes =
    let below = λ (d : ℕ). d < base in
    let value = number_after-value base (suc x) xs ∙ denotes.value in
    ap (λ front. front ++ xs) (sym (digits_of-digit base (suc x) two (omega arith) (All-head below (suc x) xs denotes.below_base)))
    ∙ sym (digits_of-after base (suc x) xs two (omega arith) (All-tail below (suc x) xs denotes.below_base))
    ∙ ap (digits_of base) value ∙ sym (numeral-positive base n (omega (arith, value, number_after_ge base (suc x) xs (omega arith))))

-- two lists of digits that denote one number are equal
pub DenotesInBase-one : (base n : ℕ) (xs ys : List ℕ) → 2 ≤ base → DenotesInBase base xs n → DenotesInBase base ys n → xs ≡ ys
DenotesInBase-one base n xs ys two denotes_x denotes_y = numeral-denoted base n xs two denotes_x ∙ sym (numeral-denoted base n ys two denotes_y)

-- `numeral` gives digits that denote the number
pub numeral-denotes : (base n : ℕ) → 2 ≤ base → DenotesInBase base (numeral base n) n
unfolding numeral
numeral-denotes base zero two = record {
  some_digit = omega arith;
  below_base = All-cons (λ d. d < base) 0 [] (omega arith) (All-nil (λ d. d < base));
  no_leading_zero = λ _. refl;
  value = omega arith;
}
numeral-denotes base (suc n) two =
    let digits = digits_of base (suc n) in
    let first = first_digits_of base (suc n) two (omega arith) in record {
      some_digit = omega (arith, length-digits_of_step base (suc n) two (omega arith));
      below_base = All-from_recursion (λ d. d < base) digits (all_below_base_digits_of base (suc n) two);
      no_leading_zero = λ leading. absurd (omega arith);
      value = omega (arith, number_after-value base 0 digits, number_digits_of base (suc n) two);
    }

-- a number below the base is its own digit
pub numeral-digit : (base n : ℕ) → 2 ≤ base → n < base → numeral base n ≡ n ∷ []
unfolding numeral
numeral-digit base zero two low = refl
numeral-digit base (suc n) two low = digits_of-digit base (suc n) two (omega arith) low

-- the last digit is the remainder, and the digits before it denote the quotient
pub numeral-step : (base n : ℕ) → 2 ≤ base → base ≤ n → numeral base n ≡ numeral base (n / base) ++ (n % base ∷ [])
numeral-step base n two high =
    let quotient : 0 < n / base = le-div 1 n base (omega arith) (omega arith) in
    rw (numeral-positive base n (omega arith), numeral-positive base (n / base) quotient) (digits_of_step base n two (omega arith))

-- a number below the base to the power k has at most k digits
pub length-numeral-le : (base k n : ℕ) → 2 ≤ base → 0 < k → n < base ^ k → length (numeral base n) ≤ k
unfolding numeral
length-numeral-le base k zero two some low = omega arith
length-numeral-le base k (suc n) two some low = length-digits_of-le base k (suc n) two low
