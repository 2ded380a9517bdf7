-- The digits at the front of a text denote one number, which has no other text there.
use Rattle.std.proofs.Common.{◌≡◌, inl, inr, refl, sym, ap, ◌∙◌, ℕ, zero, suc, ◌+◌, ◌-◌, ◌*◌, ◌^◌, ◌<◌, ◌≤◌, ◌==◌, true, false, cond, not, List, [], ◌∷◌, ◌++◌, map, length, drop, slice_index, pos, arith, pow-suc, eqb-true, Option, Some, None, option_map, Bor, MatchOption}
use Rattle.std.proofs.lemmas.Bool.{cases_Bool}
use Rattle.std.proofs.Math.Nat.{pow-le-pow_right, pow-zero}
use Rattle.std.specs.Char.{is_ascii_digit}
use Rattle.std.specs.Int.Digits.{number_from_digits, number_from_digits_after, AllBelowBase}
use Rattle.std.specs.List.{All}
use Rattle.std.proofs.lemmas.Bool.Decides.{nat_tests}
use Rattle.std.proofs.lemmas.Int.Digits.{number_lt}
use Rattle.std.proofs.lemmas.List.Elements.{All-nil, All-cons, All-head, All-tail}
use Rattle.ufmt_core.specs.Decimal.{decimal, decimal_byte, numeral, value_in_base}
use Rattle.ufmt_core.proofs.DecimalTexts.{decimal-denotes, DenotesDecimal-one}
use Rattle.ufmt_core.proofs.Numerals.{numeral-denotes}
use Rattle.ufmt_parse_leaves.specs.Private.Digits.{after_digits, begins_digit, begins_number, value_after, BeginsWithDigits, FrontMagnitude, IsFront}

-- a number of one digit and at most seven more has at most eight
pub few_below : (more n : ℕ) → more ≤ 7 → n < 10 ^ suc more → n < 10 ^ 8
few_below more n few below = omega (arith, below, pow-le-pow_right {n = 10} (omega arith) {i = suc more} {j = 8} (omega (arith, few)))

-- more digits make no number less
pub value_after_ge : (n : ℕ) (t : List ℕ) → n ≤ value_after n t
value_after_ge n [] = omega arith
value_after_ge n (c ∷ t) = elim (cases_Bool (is_ascii_digit c)) [
  | inl e ↦ rw e (omega (arith, value_after_ge (n * 10 + (c - 48)) t))
  | inr e ↦ rw e (omega arith)
]

abbrev AreDigits : List ℕ → Type 0
AreDigits digits = All (λ digit. digit < 10) digits

pub byte_is_digit : (digit : ℕ) → digit < 10 → is_ascii_digit (decimal_byte digit) ≡ true
byte_is_digit digit low = grind (arith, nat_tests)

pub digit_of : (c : ℕ) → is_ascii_digit c ≡ true → (48 ≤ c) × (c < 58)
digit_of c h = (grind (arith, nat_tests), grind (arith, nat_tests))

-- ---- a text that begins with these digits

number_after-value : (n : ℕ) (digits : List ℕ) → number_from_digits_after 10 n digits ≡ n * 10 ^ length digits + number_from_digits_after 10 0 digits
number_after-value n [] = rw pow-zero (omega arith)
number_after-value n (digit ∷ digits) =
    rw (number_after-value (n * 10 + digit) digits, number_after-value (0 * 10 + digit) digits, pow-suc) (omega arith)

value_after-bytes : (n : ℕ) (digits u : List ℕ) → AllBelowBase 10 digits
    → value_after n (map decimal_byte digits ++ u) ≡ value_after (number_from_digits_after 10 n digits) u
value_after-bytes n [] u below = refl
value_after-bytes n (digit ∷ digits) u below =
    let back : 48 + digit - 48 ≡ digit = omega arith in
    rw (byte_is_digit digit below.0, back) (value_after-bytes (n * 10 + digit) digits u below.1)

after_digits-bytes : (digits u : List ℕ) → AllBelowBase 10 digits → after_digits (map decimal_byte digits ++ u) ≡ after_digits u
after_digits-bytes [] u below = refl
after_digits-bytes (digit ∷ digits) u below = rw (byte_is_digit digit below.0) (after_digits-bytes digits u below.1)

pub begins_with_digits : (count : ℕ) (digits t u : List ℕ) → length digits ≡ count → AllBelowBase 10 digits → t ≡ map decimal_byte digits ++ u
    → BeginsWithDigits count (number_from_digits 10 digits) t u
begins_with_digits count digits t u long below is = record {
  below = rw long at (number_lt 10 digits below);
  value = λ n. rw (is, value_after-bytes n digits u below, number_after-value n digits, long) refl;
  after = rw is (after_digits-bytes digits u below);
}

-- ---- a text that begins with these digits, and with no more

value_after-digits : (n : ℕ) (digits u : List ℕ) → AreDigits digits → begins_digit u ≡ false
    → value_after n (map decimal_byte digits ++ u) ≡ n * 10 ^ length digits + value_in_base 10 digits
value_after-digits n [] [] below ends = rw pow-zero (omega arith)
value_after-digits n [] (c ∷ u) below ends = rw (ends, pow-zero) (omega arith)
value_after-digits n (digit ∷ digits) u below ends =
    let low = All-head (λ d. d < 10) digit digits below in
    let back : 48 + digit - 48 ≡ digit = omega arith in
    ap (λ b. cond b (value_after (n * 10 + (48 + digit - 48)) (map decimal_byte digits ++ u)) n) (byte_is_digit digit low)
    ∙ ap (λ d. value_after (n * 10 + d) (map decimal_byte digits ++ u)) back
    ∙ value_after-digits (n * 10 + digit) digits u (All-tail (λ d. d < 10) digit digits below) ends ∙ rw pow-suc (omega arith)

after_digits-digits : (digits u : List ℕ) → AreDigits digits → begins_digit u ≡ false → after_digits (map decimal_byte digits ++ u) ≡ u
after_digits-digits [] [] below ends = refl
after_digits-digits [] (c ∷ u) below ends = rw ends refl
after_digits-digits (digit ∷ digits) u below ends =
    rw (byte_is_digit digit (All-head (λ d. d < 10) digit digits below)) (after_digits-digits digits u (All-tail (λ d. d < 10) digit digits below) ends)

no_zero_byte : (digit : ℕ) → (48 + suc digit == 48) ≡ false
no_zero_byte digit = grind (arith, nat_tests)

begins_number-digits : (digits u : List ℕ) → 0 < length digits → AreDigits digits → (slice_index digits 0 ≡ 0 → digits ≡ 0 ∷ []) → begins_digit u ≡ false
    → begins_number (map decimal_byte digits ++ u) ≡ true
begins_number-digits [] u some below first ends = absurd (omega arith)
begins_number-digits (zero ∷ digits) u some below first ends =
    let alone : digits ≡ [] = ap (drop 1) (first refl) in
    rw (alone, ends) refl
begins_number-digits (suc digit ∷ digits) u some below first ends =
    rw (no_zero_byte digit, byte_is_digit (suc digit) (All-head (λ d. d < 10) (suc digit) digits below)) refl

pub record BeginsWith (n : ℕ) (t u : List ℕ) : Type 0 where
  pub value : value_after 0 t ≡ n
  pub after : after_digits t ≡ u
  pub begins : begins_number t ≡ true

-- if a number's text comes first, it is that of the digits there
pub begins_with : (n : ℕ) (u : List ℕ) → begins_digit u ≡ false → BeginsWith n (decimal (pos n) ++ u) u
unfolding decimal
begins_with n u ends =
    let denotes = numeral-denotes 10 n (omega arith) in record {
      value = omega (arith, value_after-digits 0 (numeral 10 n) u denotes.below_base ends, denotes.value);
      after = after_digits-digits (numeral 10 n) u denotes.below_base ends;
      begins = begins_number-digits (numeral 10 n) u denotes.some_digit denotes.below_base denotes.no_leading_zero ends;
    }

-- ---- the digits at the front of a text

record Run (t : List ℕ) : Type 0 where
  digits : List ℕ
  below : AreDigits digits
  is : t ≡ map decimal_byte digits ++ after_digits t
  ends : begins_digit (after_digits t) ≡ false

run : (t : List ℕ) → Run t
run [] = record { digits = []; below = All-nil (λ d. d < 10); is = refl; ends = refl }
run (c ∷ t) = elim (cases_Bool (is_ascii_digit c)) [
  | inl e ↦
      let range = digit_of c e in
      let byte : c ≡ 48 + (c - 48) = omega (arith, range.0, range.1) in
      let more = run t in record {
        digits = (c - 48) ∷ more.digits;
        below = All-cons (λ d. d < 10) (c - 48) more.digits (omega (arith, range.0, range.1)) more.below;
        is = rw e (ap (λ b. b ∷ t) byte ∙ ap (λ u. (48 + (c - 48)) ∷ u) more.is);
        ends = rw e more.ends;
      }
  | inr e ↦ record { digits = []; below = All-nil (λ d. d < 10); is = rw e refl; ends = rw e e }
]

-- if the test holds, there is a digit, and the first is not 0 unless it is the only one
first_digits : (digits u : List ℕ) → AreDigits digits → begins_digit u ≡ false → begins_number (map decimal_byte digits ++ u) ≡ true
    → (0 < length digits) × (slice_index digits 0 ≡ 0 → digits ≡ 0 ∷ [])
first_digits [] [] below ends begins = absurd (cc)
first_digits [] (c ∷ u) below ends begins = elim (cases_Bool (c == 48)) [
  | inl e ↦ let no : true ≡ false = sym (ap is_ascii_digit (eqb-true c 48 e)) ∙ ends in absurd (cc)
  | inr e ↦ let no : true ≡ false = sym (rw e at begins) ∙ ends in absurd (cc)
]
first_digits (zero ∷ []) u below ends begins = (omega arith, λ _. refl)
first_digits (zero ∷ digit ∷ digits) u below ends begins =
    let is = byte_is_digit digit (All-head (λ d. d < 10) digit digits (All-tail (λ d. d < 10) 0 (digit ∷ digits) below)) in
    let no : not true ≡ true = ap not (sym is) ∙ begins in
    absurd (cc)
first_digits (suc digit ∷ digits) u below ends begins = (omega arith, λ leading. absurd (omega arith))

-- the digits at the front are a number's text
pub front_is : (t : List ℕ) → begins_number t ≡ true → IsFront t (pos (value_after 0 t)) (after_digits t)
front_is t begins =
    let found = run t in
    let first = first_digits found.digits (after_digits t) found.below found.ends (ap begins_number (sym found.is) ∙ begins) in
    let value = ap (value_after 0) found.is ∙ value_after-digits 0 found.digits (after_digits t) found.below found.ends in
    let same : map decimal_byte found.digits ≡ decimal (pos (value_after 0 t)) = DenotesDecimal-one (pos (value_after 0 t)) _ _ (record {
      magnitude = map decimal_byte found.digits;
      signed = refl;
      denotes = record {
        digits = found.digits;
        bytes = refl;
        denotes = record { some_digit = first.0; below_base = found.below; no_leading_zero = first.1; value = omega (arith, value) };
      };
    }) (decimal-denotes (pos (value_after 0 t))) in
    record { is = found.is ∙ ap (λ text. text ++ after_digits t) same; ends = found.ends }

-- what the digits at the front are, if they denote a number below the bound
pub magnitude_found : {N : Type 0} (value : N → ℕ) (bound : ℕ) (t : List ℕ) (r : Option (N × Bor (List ℕ))) → begins_number t ≡ true
    → MatchOption r (bound ≤ value_after 0 t) (λ found. (value found.0 ≡ value_after 0 t) × (value found.0 < bound) × (found.1.now ≡ after_digits t))
    → FrontMagnitude (λ n. n < bound) t (option_map (λ found. (value found.0, found.1.now)) r)
magnitude_found value bound t None begins large = λ n u low ends same. omega (arith, ap (value_after 0) same, (begins_with n u ends).value, large)
magnitude_found value bound t (Some found) begins is = (rw (is.0, is.2) (front_is t begins), is.1)

-- where no number's digits come first, there is no number
pub no_magnitude : (bound : ℕ) (t : List ℕ) → begins_number t ≡ false → FrontMagnitude (λ n. n < bound) t None
no_magnitude bound t begins = λ n u low ends same.
    let no : true ≡ false = sym (begins_with n u ends).begins ∙ ap begins_number (sym same) ∙ begins in absurd (cc)

-- ---- by the first byte

pub value_after-none : (n : ℕ) (t : List ℕ) → begins_digit t ≡ false → value_after n t ≡ n
value_after-none n [] none = refl
value_after-none n (c ∷ t) none = rw none refl

pub after_digits-none : (t : List ℕ) → begins_digit t ≡ false → after_digits t ≡ t
after_digits-none [] none = refl
after_digits-none (c ∷ t) none = rw none refl

begins_number-no_digit : (t : List ℕ) → begins_digit t ≡ false → begins_number t ≡ false
begins_number-no_digit [] none = refl
begins_number-no_digit (c ∷ t) none = elim (cases_Bool (c == 48)) [
  | inl e ↦ let no : true ≡ false = sym (ap is_ascii_digit (eqb-true c 48 e)) ∙ none in absurd (cc)
  | inr e ↦ rw e none
]

pub none_first : (t : List ℕ) → length t ≡ 0 → begins_digit t ≡ false
none_first [] none = refl
none_first (c ∷ t) none = absurd (omega arith)

-- where no digit comes first, there is no number
pub no_digit_first : (bound : ℕ) (t : List ℕ) → begins_digit t ≡ false → FrontMagnitude (λ n. n < bound) t None
no_digit_first bound t none = no_magnitude bound t (begins_number-no_digit t none)

-- 0 is a number unless a digit follows it
pub zero_first : {N : Type 0} (value : N → ℕ) (bound : ℕ) (t after : List ℕ) (r : Option (N × Bor (List ℕ))) → t ≡ 48 ∷ after
    → MatchOption r (begins_digit after ≡ true) (λ found. (begins_digit after ≡ false) × (value found.0 ≡ 0) × (value found.0 < bound) × (found.1.now ≡ after))
    → FrontMagnitude (λ n. n < bound) t (option_map (λ found. (value found.0, found.1.now)) r)
zero_first value bound t after None whole digit = no_magnitude bound t (rw (whole, digit) refl)
zero_first value bound t after (Some found) whole is =
    magnitude_found value bound t (Some found) (rw (whole, is.0) refl)
    (is.1 ∙ sym (ap (value_after 0) whole ∙ value_after-none 0 after is.0), is.2, is.3 ∙ sym (ap after_digits whole ∙ after_digits-none after is.0))

module _ {N : Type 0} (value : N → ℕ) (bound : ℕ) (t after : List ℕ) (r : Option (N × Bor (List ℕ))) where
  -- another digit is completed by those after it
  pub digit_first : (c : ℕ) → t ≡ c ∷ after → is_ascii_digit c ≡ true → (c == 48) ≡ false
      → MatchOption r (bound ≤ value_after (c - 48) after) (λ found. (value found.0 ≡ value_after (c - 48) after) × (value found.0 < bound) × (found.1.now ≡ after_digits after))
      → FrontMagnitude (λ n. n < bound) t (option_map (λ found. (value found.0, found.1.now)) r)
  digit_first c whole digit other is =
      let first : 0 * 10 + (c - 48) ≡ c - 48 = omega arith in
      magnitude_found value bound t r (rw (whole, other) digit) (rw (whole, digit, first) is)
