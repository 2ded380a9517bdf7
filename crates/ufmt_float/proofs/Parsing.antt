-- The text of a decimal is parsed as the float nearest to it.
use Rattle.core.specs.Prelude.{◌≡◌, ℕ, zero, suc, ◌+◌, ◌-◌, ◌*◌, ◌/◌, ◌%◌, ◌^◌, ◌<◌, ◌≤◌, List, [], ◌∷◌, ◌++◌, length, replicate, Bool, true, false, nat_lt, not, ◌||◌, if◌then◌else◌}
use mathlib.Core.Path.{refl, sym, ap, ◌∙◌, subst}
use mathlib.Core.Logic.{inl, inr}
use native.Mathlib.Omega.{arith}
use native.Mathlib.Nat.{eq-zero-or-pos, div-add-mod', div-le_self, pow-succ'}
use mathlib.Core.Bool.{true≢false}
use lib.Arith.{mod-mul}
use Rattle.std.proofs.lemmas.List.{length-replicate}
use borrow.Author.Tests.{lt-ltb, le-ltb, ltb-true, ltb-false, eq-eqb, ne_eqb}
use Rattle.ufmt_float.specs.Shortest.{distance}
use Rattle.ufmt_float.specs.Text as Text
use lib.Pow.{pow-add}
use Rattle.std.proofs.Common.{append_assoc, append-nil, length-append}
use lib.Chars.{codes}
use lib.Ieee.{Format, round}
use lib.Ieee.Scale.{round_same}
use Rattle.core.specs.Fmt.{decimal, sign_text}
use Rattle.core.specs.Float.Numeral.{Parts, text_of, exponent_text, IsWellFormed, numeral_digits, tens_up, tens_down, dot}
use Rattle.core.specs.Float.Parse.{parse_float}
use Rattle.core.specs.declared.option.Option.TheVariants.{Some}
use Rattle.core.specs.Str.Parse.{AllDigits, digits_value}
use Rattle.core.specs.Char.{digit_value}
use Rattle.core.proofs.dec2flt.DigitsLemmas.{digits_value_after_is, digits_value-append, is_digit}
use Rattle.core.proofs.dec2flt.LimbsLemmas.{power_pos}
use Rattle.core.proofs.dec2flt.Rows.{AllDigits-append}
use Rattle.core.proofs.fmt.DigitsParse.{decimal_is_IsNumeral}
use Rattle.std.proofs.lemmas.Float.Parse.{parse_float-text_of}
use Rattle.ufmt_float.specs.Text.{last_digits, pointed_text, plain_text, scientific_text, decimal_text, is_plain, more_digits}
use Rattle.ufmt_float.proofs.Puts.{last_digits-none, last_digits-front, length-last_digits, length-digits}

-- ---- digits

digit : (d : ℕ) → d < 10 → digit_value (48 + d) ≡ d
digit d h = (is_digit (48 + d) (omega arith) (omega arith)).1 ∙ omega arith

zeros_digits : (n : ℕ) → AllDigits 10 (replicate n 48) × (digits_value 10 (replicate n 48) ≡ 0)
zeros_digits zero = (tt, refl)
zeros_digits (suc n) = let h = zeros_digits n in ((omega (arith, digit 0), h.0), h.1)

next_remainder : (n count : ℕ) → n / 10 ^ count % 10 * 10 ^ count + n % 10 ^ count ≡ n % 10 ^ suc count
next_remainder n count = sym (ap (λ x. n % x) (pow-succ' 10 count) ∙ mod-mul n {m = 10} {c = 10 ^ count} (omega arith) (power_pos 10 count (omega arith)))

last_digits_value : (count n : ℕ) → AllDigits 10 (last_digits count n) × (digits_value 10 (last_digits count n) ≡ n % 10 ^ count)
last_digits_value zero n = rw (last_digits-none n) (tt, omega arith)
last_digits_value (suc count) n =
    let h = last_digits_value count n in
    let d : ℕ = n / 10 ^ count % 10 in
    let small : d < 10 = omega arith in
    let is : digit_value (48 + d) ≡ d = digit d small in
    let value = digits_value_after_is (0 * 10 + digit_value (48 + d)) (last_digits count n) in
    rw (last_digits-front count n)
    ((omega arith, h.0), value ∙ omega (arith, ap (λ x. x * 10 ^ length (last_digits count n)) is, ap (λ x. d * 10 ^ x) (length-last_digits count n), h.1, next_remainder n count))

-- ---- numerals

-- the text is a numeral of digits * 10 ^ (power - 400)
pub record IsNumeralOf (text : List ℕ) (digits power : ℕ) : Type 0 where
  pub parts : Parts
  pub spelled : text ≡ text_of parts
  pub well : IsWellFormed parts
  pub whole : 0 < length parts.whole
  pub worth : numeral_digits parts * 10 ^ tens_up parts * 10 ^ (400 - power) ≡ digits * 10 ^ (power - 400) * 10 ^ tens_down parts

tens_pos : (n : ℕ) → 0 < 10 ^ n
tens_pos n = power_pos 10 n (omega arith)

-- such a text is parsed as the nearest float
pub numeral_parsed : (f : Format) (s : Bool) (text : List ℕ) (digits power : ℕ) → IsNumeralOf text digits power
    → parse_float f (sign_text s ++ text) ≡ Some (round f s (digits * 10 ^ (power - 400)) (10 ^ (400 - power)))
numeral_parsed f s text digits power n =
    ap (λ t. parse_float f (sign_text s ++ t)) n.spelled ∙ parse_float-text_of f s n.parts n.well n.whole
    ∙ ap Some (round_same f s _ _ _ _ (tens_pos (tens_down n.parts)) (tens_pos (400 - power)) n.worth)

-- whole digits, decimals and an exponent
abbrev parts_of : List ℕ → Bool → List ℕ → Bool → List ℕ → Parts
parts_of whole point fraction negative exponent = record {
  whole = whole;
  point = point;
  fraction = fraction;
  exponent_negative = negative;
  exponent = exponent;
  len = length (whole ++ ((if point then dot ∷ fraction else []) ++ exponent_text negative exponent));
}

worth_from : (n digits u d power : ℕ) → n ≡ digits → u + (400 - power) ≡ power - 400 + d → n * 10 ^ u * 10 ^ (400 - power) ≡ digits * 10 ^ (power - 400) * 10 ^ d
worth_from n digits u d power e places =
    let left : n * 10 ^ u * 10 ^ (400 - power) ≡ n * 10 ^ (u + (400 - power)) = rw (pow-add 10 u (400 - power)) (grind arith) in
    let right : digits * 10 ^ (power - 400 + d) ≡ digits * 10 ^ (power - 400) * 10 ^ d = rw (pow-add 10 (power - 400) d) (grind arith) in
    left ∙ (λ i. e i * 10 ^ (places i)) ∙ right

-- the number that an exponent adds to the power, or takes off it
abbrev raised : Bool → List ℕ → ℕ
raised negative exponent = if negative then 0 else digits_value 10 exponent

abbrev lowered : Bool → List ℕ → ℕ
lowered negative exponent = if negative then digits_value 10 exponent else 0

-- digits / 10 ^ places with a point, and perhaps an exponent
with_point : (digits places power : ℕ) (negative : Bool) (exponent : List ℕ) → digits < 10 ^ 17 → AllDigits 10 exponent → (exponent ≡ [] → negative ≡ false)
    → raised negative exponent + (400 - power) ≡ power - 400 + (places + lowered negative exponent) → IsNumeralOf (pointed_text digits places ++ exponent_text negative exponent) digits power
with_point digits places power negative exponent h all none places_are =
    let whole : ℕ = digits / 10 ^ places in
    let less : whole ≤ digits = div-le_self digits (10 ^ places) in
    let small : whole < 2 ^ 64 = omega arith in
    let w = decimal_is_IsNumeral whole small in
    let l = last_digits_value places digits in
    let long = length-last_digits places digits in
    let joined = digits_value-append (decimal whole) (last_digits places digits) in
    let value : digits_value 10 (decimal whole ++ last_digits places digits) ≡ digits =
    joined ∙ (λ i. w.1 i * 10 ^ (long i) + l.1 i) ∙ div-add-mod' digits (10 ^ places) in
    record {
      parts = parts_of (decimal whole) true (last_digits places digits) negative exponent;
      spelled = append_assoc (decimal whole) (dot ∷ last_digits places digits) (exponent_text negative exponent);
      well = record { whole_digits = w.0.1; fraction_digits = l.0; exponent_digits = all; no_point = λ x. absurd (true≢false x); no_exponent = none; len_is = refl };
      whole = w.0.0;
      worth = worth_from _ digits (raised negative exponent) _ power value (places_are ∙ ap (λ x. power - 400 + (x + lowered negative exponent)) (sym long));
    }

zeros_worth : (digits zeros u d power : ℕ) → zeros + u + (400 - power) ≡ power - 400 + d → digits * 10 ^ zeros * 10 ^ u * 10 ^ (400 - power) ≡ digits * 10 ^ (power - 400) * 10 ^ d
zeros_worth digits zeros u d power e =
    let left : digits * 10 ^ zeros * 10 ^ u * 10 ^ (400 - power) ≡ digits * 10 ^ (zeros + u + (400 - power)) = rw (pow-add 10 (zeros + u) (400 - power), pow-add 10 zeros u) (grind arith) in
    let right : digits * 10 ^ (power - 400 + d) ≡ digits * 10 ^ (power - 400) * 10 ^ d = rw (pow-add 10 (power - 400) d) (grind arith) in
    left ∙ ap (λ x. digits * 10 ^ x) e ∙ right

mark_worth : (digits zeros power : ℕ) → 400 + zeros ≡ power → digits * 10 ^ zeros * 10 * 10 ^ 0 * 10 ^ (400 - power) ≡ digits * 10 ^ (power - 400) * 10 ^ 1
mark_worth digits zeros power e =
    let none : 400 - power ≡ 0 = omega arith in
    let same : zeros ≡ power - 400 = omega arith in
    (λ i. digits * 10 ^ (same i) * 10 * 10 ^ 0 * 10 ^ (none i)) ∙ omega arith

-- whole digits and zeros, and perhaps an exponent
without_point : (digits zeros power : ℕ) (negative : Bool) (exponent : List ℕ) → digits < 10 ^ 17 → AllDigits 10 exponent → (exponent ≡ [] → negative ≡ false)
    → zeros + raised negative exponent + (400 - power) ≡ power - 400 + lowered negative exponent → IsNumeralOf (decimal digits ++ (replicate zeros 48 ++ exponent_text negative exponent)) digits power
without_point digits zeros power negative exponent h all none places_are =
    let w = decimal_is_IsNumeral digits (omega arith) in
    let l = zeros_digits zeros in
    let long : length (replicate {A = ℕ} zeros 48) ≡ zeros = length-replicate {A = ℕ} zeros 48 in
    let whole : List ℕ = decimal digits ++ replicate zeros 48 in
    let some : 0 < length whole = omega (arith, length-append (decimal digits) (replicate zeros 48), w.0.0) in
    let value : digits_value 10 (whole ++ []) ≡ digits * 10 ^ zeros =
    ap (digits_value 10) (append-nil whole) ∙ digits_value-append (decimal digits) (replicate zeros 48) ∙ (λ i. w.1 i * 10 ^ (long i) + l.1 i) ∙ omega arith in
    record {
      parts = parts_of whole false [] negative exponent;
      spelled = sym (append_assoc (decimal digits) (replicate zeros 48) (exponent_text negative exponent));
      well = record { whole_digits = AllDigits-append (decimal digits) (replicate zeros 48) w.0.1 l.0; fraction_digits = tt; exponent_digits = all; no_point = λ _. refl; no_exponent = none; len_is = refl };
      whole = some;
      worth = ap (λ x. x * 10 ^ raised negative exponent * 10 ^ (400 - power)) value ∙ zeros_worth digits zeros (raised negative exponent) (0 + lowered negative exponent) power (places_are ∙ omega arith);
    }

-- the same with the decimal 0, as Debug marks a whole number
with_mark : (digits zeros power : ℕ) → digits < 10 ^ 17 → 400 + zeros ≡ power → IsNumeralOf (decimal digits ++ (replicate zeros 48 ++ codes ".0")) digits power
with_mark digits zeros power h e =
    let w = decimal_is_IsNumeral digits (omega arith) in
    let l = zeros_digits zeros in
    let long : length (replicate {A = ℕ} zeros 48) ≡ zeros = length-replicate {A = ℕ} zeros 48 in
    let whole : List ℕ = decimal digits ++ replicate zeros 48 in
    let some : 0 < length whole = omega (arith, length-append (decimal digits) (replicate zeros 48), w.0.0) in
    let front : digits_value 10 whole ≡ digits * 10 ^ zeros = digits_value-append (decimal digits) (replicate zeros 48) ∙ (λ i. w.1 i * 10 ^ (long i) + l.1 i) ∙ omega arith in
    let value : digits_value 10 (whole ++ (48 ∷ [])) ≡ digits * 10 ^ zeros * 10 = digits_value-append whole (48 ∷ []) ∙ ap (λ x. x * 10 ^ 1 + 0) front ∙ omega arith in
    record {
      parts = parts_of whole true (48 ∷ []) false [];
      spelled = sym (append_assoc (decimal digits) (replicate zeros 48) (codes ".0"));
      well = record { whole_digits = AllDigits-append (decimal digits) (replicate zeros 48) w.0.1 l.0; fraction_digits = (omega arith, tt); exponent_digits = tt; no_point = λ x. absurd (true≢false x); no_exponent = λ _. refl; len_is = refl };
      whole = some;
      worth = ap (λ x. x * 10 ^ 0 * 10 ^ (400 - power)) value ∙ mark_worth digits zeros power e;
    }

-- ---- the texts

-- an exponent, as std and as these texts write it
exponent_of : (negative : Bool) (exponent : List ℕ) → 0 < length exponent → codes "e" ++ (sign_text negative ++ exponent) ≡ exponent_text negative exponent
exponent_of negative [] h = absurd (omega arith)
exponent_of negative (d ∷ ds) h = refl

plain_numeral : (debug : Bool) (digits power : ℕ) → digits < 10 ^ 17 → IsNumeralOf (plain_text debug digits power) digits power
plain_numeral debug digits power h =
    elim (eq-zero-or-pos (400 - power)) [
      | inr p ↦ subst (λ t. IsNumeralOf t digits power) (append-nil (pointed_text digits (400 - power)) ∙ ap (λ b. if b then (pointed_text digits (400 - power)) else (whole debug)) (sym (lt-ltb power 400 (omega arith))))
          (with_point digits (400 - power) power false [] h tt (λ _. refl) (omega arith))
      | inl z ↦ subst (λ t. IsNumeralOf t digits power) (ap (λ b. if b then (pointed_text digits (400 - power)) else (whole debug)) (sym (le-ltb power 400 (omega arith)))) (marked debug (omega arith))
    ]
  where
    whole : Bool → List ℕ
    whole b = decimal digits ++ (replicate (power - 400) 48 ++ (if b then (codes ".0") else []))

    marked : (b : Bool) → 400 ≤ power → IsNumeralOf (whole b) digits power
    marked true l = with_mark digits (power - 400) power h (omega arith)
    marked false l = without_point digits (power - 400) power false [] h tt (λ _. refl) (omega arith)

-- the exponent is the one that the power asks for
exponent_places : (negative : Bool) (places power : ℕ) (exponent : List ℕ) → negative ≡ nat_lt (power + places) 400 → digits_value 10 exponent ≡ distance (power + places) 400
    → raised negative exponent + (400 - power) ≡ power - 400 + (places + lowered negative exponent)
exponent_places true places power exponent e v = let l = ltb-true (power + places) 400 (sym e) in omega (arith, v)
exponent_places false places power exponent e v = let l = ltb-false (power + places) 400 (sym e) in omega (arith, v)

scientific_numeral : (digits power : ℕ) → digits < 10 ^ 17 → power < 1000 → IsNumeralOf (scientific_text digits power) digits power
scientific_numeral digits power h small =
    let places : ℕ = more_digits digits in
    let n : ℕ = power + places in
    let few = length-digits digits h in
    let size : ℕ = distance n 400 in
    let low : size < 2 ^ 64 = omega arith in
    let exponent : List ℕ = decimal size in
    let negative : Bool = nat_lt n 400 in
    let w = decimal_is_IsNumeral size low in
    let none = λ (x : exponent ≡ []). absurd (omega (arith, w.0.0, ap length x)) in
    let at = exponent_places negative places power exponent refl w.1 in
    let same : Text.exponent_text n ≡ exponent_text negative exponent = exponent_of negative exponent w.0.0 in
    elim (eq-zero-or-pos places) [
      | inl z ↦ subst (λ t. IsNumeralOf t digits power) (λ i. (if (sym (eq-eqb places 0 z) i) then (decimal digits) else (pointed_text digits places)) ++ sym same i) (without_point digits 0 power negative exponent h w.0.1 none (omega (arith, at)))
      | inr p ↦ subst (λ t. IsNumeralOf t digits power) (λ i. (if (sym (ne_eqb places 0 (λ e. omega arith)) i) then (decimal digits) else (pointed_text digits places)) ++ sym same i) (with_point digits places power negative exponent h w.0.1 none at)
    ]

pub decimal_numeral : (debug : Bool) (digits power : ℕ) → digits < 10 ^ 17 → power < 1000 → IsNumeralOf (decimal_text debug digits power) digits power
decimal_numeral debug digits power h small =
    elim (not debug || is_plain digits power) as (λ b. IsNumeralOf (if b then (plain_text debug digits power) else (scientific_text digits power)) digits power) [
      | true ↦ plain_numeral debug digits power h
      | false ↦ scientific_numeral digits power h small
    ]

-- the text of a decimal is parsed as the float nearest to it
pub decimal_parsed : (f : Format) (s debug : Bool) (digits power : ℕ) → digits < 10 ^ 17 → power < 1000
    → parse_float f (sign_text s ++ decimal_text debug digits power) ≡ Some (round f s (digits * 10 ^ (power - 400)) (10 ^ (400 - power)))
decimal_parsed f s debug digits power h small = numeral_parsed f s (decimal_text debug digits power) digits power (decimal_numeral debug digits power h small)
