-- Floats whose text has a point and no exponent: the text by the digits, and where it ends.
use Rattle.std.proofs.Common.{◌≡◌, inl, inr, refl, sym, ap, ◌∙◌, subst, ℕ, zero, suc, ◌+◌, ◌-◌, ◌*◌, ◌/◌, ◌%◌, ◌^◌, ◌<◌, ◌≤◌, Bool, true, false, List, [], ◌∷◌, ◌++◌, codes, arith, pos, negsuc, ℤ, nat_abs, pow-suc, append_assoc, append-nil, if◌then◌else◌}
use Rattle.std.specs.Prelude.{replicate}
use native.Mathlib.Nat.{eq-zero-or-pos, div-le_self, lt_of_mul-lt-mul_right, mul-le-mul_right, mul-pos, pow-le-pow_right}
use mathlib.Core.Bool.{false≢true, true≢false}
use borrow.Author.Tests.{lt-ltb, le-ltb, le-leb, ltb-true}
use lib.Pow.{pow-add}
use lib.Ieee.{Float, Format, nan, inf, fin, lt, neg}
use Rattle.core.specs.Float.{float_with_sign, float_zero}
use Rattle.std.specs.Int.{is_negative}
use Rattle.core.specs.Fmt.{sign_text}
use Rattle.core.specs.Fmt as Fmt
use Rattle.core.proofs.fmt.Decimal.{decimal_step, decimal_by_steps, length-decimal-le}
use Rattle.core.proofs.dec2flt.LimbsLemmas.{power_pos}
use Rattle.ufmt_float.specs.Shortest.{IsAboveZero, IsShortestDecimal}
use Rattle.ufmt_float.specs.Text.{last_digits, decimal_text, plain_text, scientific_text, is_plain, more_digits, pointed_text}
use Rattle.ufmt_float.proofs.Puts.{length-cut, decimal_bounds, length-digits}
use Rattle.ufmt_core.specs.Decimal.{decimal}
use Rattle.ufmt_core.specs.FloatText.{float_text}
use Rattle.ufmt_core.proofs.DecimalTexts.{decimal-in_base}
use Rattle.ufmt_core.proofs.NumeralTexts.{text-digit, text-step}
use Rattle.ufmt_core.proofs.FloatTexts.{the_float_text}
use Rattle.ufmt_fixed.specs.Text.{fixed_digits}
use Rattle.ufmt_fixed.proofs.Puts.{last_digits-rest}
use Rattle.ufmt_parse_leaves.specs.FixedPoint.{fixed_number}
use Rattle.ufmt_parse_leaves.specs.Private.PlainDecimals.{IsPlainDecimal, IsPrintedAs}
use Rattle.ufmt_parse_leaves.specs.Values.{IsFloatOf}

-- ---- one text of a number, defined for floats and for fixed-point numbers

same_decimal : (n : ℕ) → n < 2 ^ 64 → Fmt.decimal n ≡ decimal (pos n)
same_decimal n small = decimal_by_steps (λ m text. text ≡ decimal (pos m)) one more n small
  where
    one : (m : ℕ) → m < 10 → ((48 + m) ∷ []) ≡ decimal (pos m)
    one m low = sym (text-digit decimal-in_base m low)

    more : (m : ℕ) (ds : List ℕ) → 10 ≤ m → ds ≡ decimal (pos (m / 10)) → ds ++ ((48 + m % 10) ∷ []) ≡ decimal (pos m)
    more m ds high same = ap (λ t. t ++ ((48 + m % 10) ∷ [])) same ∙ sym (text-step decimal-in_base m high)

same_fixed : (digits places : ℕ) → digits < 2 ^ 64 → 0 < places → digits / 10 ^ places < 2 ^ 64 → pointed_text digits places ≡ fixed_digits places digits
same_fixed digits zero small some whole = absurd (omega arith)
same_fixed digits (suc places) small some whole =
    λ i. same_decimal (digits / 10 ^ suc places) whole i ++ (codes "." ++ sym (last_digits-rest (suc places) digits) i)

-- ---- a decimal that is printed with a point and no exponent

tens_pos : (n : ℕ) → 0 < 10 ^ n
tens_pos n = power_pos 10 n (omega arith)

is_plain_in : (left power : ℕ) → 396 ≤ power + more_digits left → power + more_digits left < 416 → is_plain left power ≡ true
is_plain_in left power from to = rw (le-leb 396 (power + more_digits left) from, lt-ltb (power + more_digits left) 416 to) refl

plain_in : (left power : ℕ) → is_plain left power ≡ true → decimal_text true left power ≡ plain_text true left power
plain_in left power is = ap (λ b. if b then (plain_text true left power) else (scientific_text left power)) is

-- the digits are those of the shortest decimal
fraction : (digits places : ℕ) → IsPlainDecimal digits places → decimal_text true digits (400 - places) ≡ pointed_text digits places
fraction digits places plain =
    let power : ℕ = 400 - places in
    let few = length-digits digits plain.few in
    let bounds = decimal_bounds digits (omega (arith, plain.few)) in
    let from : 396 ≤ power + more_digits digits = elim plain.large [
      | inl h ↦ omega arith
      | inr h ↦ (
          let unit : ℕ = 10 ^ (places - 4) in
          let less : digits / unit ≤ digits = div-le_self digits unit in
          omega (arith, plain.point, bounds, length-cut (places - 4) digits unit (omega (arith, plain.few)) refl h, decimal_bounds (digits / unit) (omega (arith, plain.few, less)))
          )
    ] in
    let is = plain_in digits power (is_plain_in digits power from (omega (arith, few, plain.point, bounds))) in
    let back : 400 - power ≡ places = omega (arith, plain.point) in
    is ∙ rw (lt-ltb power 400 (omega (arith, plain.point))) (ap (pointed_text digits) back)

zeros_end : (e : ℕ) → replicate {A = ℕ} e 48 ++ (48 ∷ []) ≡ replicate (suc e) 48
zeros_end zero = refl
zeros_end (suc e) = ap (λ t. 48 ∷ t) (zeros_end e)

next_ten : (left e : ℕ) → left * 10 ^ suc e ≡ left * 10 ^ e * 10
next_ten left e = omega (arith, ap (λ n. left * n) (pow-suc 10 e))

raised : (e left : ℕ) → 0 < left → left * 10 ^ e < 2 ^ 64 → Fmt.decimal (left * 10 ^ e) ≡ Fmt.decimal left ++ replicate e 48
raised zero left some small =
    let one : left * 10 ^ zero ≡ left = omega arith in
    ap Fmt.decimal one ∙ sym (append-nil (Fmt.decimal left))
raised (suc e) left some small =
    let n : ℕ = left * 10 ^ suc e in
    let ten : n ≡ left * 10 ^ e * 10 = next_ten left e in
    let least : 1 ≤ left * 10 ^ e = mul-pos some (tens_pos e) in
    let tenth : n / 10 ≡ left * 10 ^ e = omega arith in
    let last : 48 + n % 10 ≡ 48 = omega arith in
    decimal_step n (omega arith) small ∙ (λ i. Fmt.decimal (tenth i) ++ (last i ∷ [])) ∙ ap (λ t. t ++ (48 ∷ [])) (raised e left some (omega arith))
    ∙ append_assoc (Fmt.decimal left) (replicate e 48) (48 ∷ []) ∙ ap (λ t. Fmt.decimal left ++ t) (zeros_end e)

last_one : (n : ℕ) → 48 + n % 10 ≡ 48 → last_digits 1 n ≡ 48 ∷ []
unfolding last_digits
last_one n e = ap (λ c. c ∷ []) e

-- the text of a whole number ends in `.0`
whole : (left e : ℕ) → 0 < left → left * 10 ^ suc e < 10 ^ 17 → decimal_text true left (400 + e) ≡ pointed_text (left * 10 ^ suc e) 1
whole left e some few =
    let digits : ℕ = left * 10 ^ suc e in
    let power : ℕ = 400 + e in
    let ten : digits ≡ left * 10 ^ e * 10 = next_ten left e in
    let tenth : digits / 10 ^ 1 ≡ left * 10 ^ e = omega arith in
    let zero_last : 48 + digits % 10 ≡ 48 = omega arith in
    let small : left * 10 ^ e < 2 ^ 64 = omega arith in
    let short : suc e < 17 = elim (eq-zero-or-pos (17 - suc e)) [
      | inr p ↦ omega arith
      | inl z ↦ (
          let many : 17 ≤ suc e = omega arith in
          let one : 1 ≤ left = some in
          absurd (omega (arith, few, mul-le-mul_right (10 ^ suc e) one, pow-le-pow_right {n = 10} (omega arith) many))
          )
    ] in
    let sum : 17 ≡ 17 - suc e + suc e = omega arith in
    let parts : 10 ^ 17 ≡ 10 ^ (17 - suc e) * 10 ^ suc e = ap (λ n. 10 ^ n) sum ∙ pow-add 10 (17 - suc e) (suc e) in
    let less : left < 10 ^ (17 - suc e) = lt_of_mul-lt-mul_right (10 ^ suc e) (subst (λ n. digits < n) parts few) in
    let fewer : 17 - suc e ≤ 17 = omega arith in
    let left_small : left < 2 ^ 64 = omega (arith, less, pow-le-pow_right {n = 10} (omega arith) fewer) in
    let length_is = length-decimal-le (17 - suc e) left (omega arith) less left_small in
    let bounds = decimal_bounds left left_small in
    let is = plain_in left power (is_plain_in left power (omega arith) (omega (arith, length_is, bounds))) in
    let back : power - 400 ≡ e = omega arith in
    is ∙ rw (le-ltb power 400 (omega arith)) (
    ap (λ n. Fmt.decimal left ++ (replicate n 48 ++ codes ".0")) back
    ∙ sym (append_assoc (Fmt.decimal left) (replicate e 48) (codes ".0"))
    ∙ ap (λ t. t ++ codes ".0") (sym (raised e left some small) ∙ ap Fmt.decimal (sym tenth))
    ∙ ap (λ t. Fmt.decimal (digits / 10 ^ 1) ++ (codes "." ++ t)) (sym (last_one digits zero_last))
    )

printed : (digits places left power : ℕ) → IsPlainDecimal digits places → IsPrintedAs digits places left power → decimal_text true left power ≡ pointed_text digits places
printed digits places left power plain shown = elim (eq-zero-or-pos shown.zeros) [
  | inl none ↦ (
      let same : left ≡ digits = omega (arith, shown.digits_are, ap (λ n. left * 10 ^ n) none) in
      let end : power ≡ 400 - places = omega (arith, shown.end, plain.point) in
      (λ i. decimal_text true (same i) (end i)) ∙ fraction digits places plain
      )
  | inr more ↦ (
      let one : places ≡ 1 = elim shown.one [ inl z ↦ absurd (omega arith) | inr o ↦ o ] in
      let e : ℕ = shown.zeros - 1 in
      let count : shown.zeros ≡ suc e = omega arith in
      let is : digits ≡ left * 10 ^ suc e = shown.digits_are ∙ ap (λ n. left * 10 ^ n) count in
      let end : power ≡ 400 + e = omega (arith, shown.end) in
      let some : 0 < left = elim (eq-zero-or-pos left) [ inr p ↦ p | inl z ↦ absurd (omega (arith, plain.some, is, ap (λ n. n * 10 ^ suc e) z)) ] in
      ap (decimal_text true left) end ∙ whole left e some (subst (λ n. n < 10 ^ 17) is plain.few) ∙ (λ i. pointed_text (sym is i) (sym one i))
      )
]

-- ---- the float's text

negated : (y : Float) → float_with_sign false y ≡ y → neg y ≡ float_with_sign true y
unfolding neg float_with_sign
negated nan e = refl
negated (inf true) e = (cc)
negated (inf false) e = refl
negated (fin true m k) e = (cc)
negated (fin false m k) e = refl

module _ (f : Format) (digits places left power : ℕ) (plain : IsPlainDecimal digits places) (shown : IsPrintedAs digits places left power) where
  text_is : decimal_text true left power ≡ fixed_digits places digits
  text_is =
      let less = div-le_self digits (10 ^ places) in
      printed digits places left power plain shown ∙ same_fixed digits places (omega (arith, plain.few)) plain.point.0 (omega (arith, plain.few, less))

  signed_text : (s : Bool) (x : Float) → IsAboveZero x → IsShortestDecimal f (float_with_sign false x) left power → IsFloatOf f (float_with_sign s x) → sign_text s ++ fixed_digits places digits ≡ float_text f true (float_with_sign s x)
  unfolding float_with_sign
  signed_text s nan above shortest float = absurd above
  signed_text s (inf t) above shortest float = absurd above
  signed_text s (fin t zero e) above shortest float = absurd (omega (arith, above))
  signed_text s (fin t (suc n) e) above shortest float =
      the_float_text f true (fin s (suc n) e) (sign_text s ++ fixed_digits places digits) float (left, power, shortest, ap (λ t. sign_text s ++ t) (sym text_is))

  pub text_above : (z : ℤ) (x : Float) → is_negative z ≡ false → nat_abs z ≡ digits → IsAboveZero x → float_with_sign false x ≡ x → IsShortestDecimal f (float_with_sign false x) left power → IsFloatOf f x
      → fixed_number (z, places) ≡ float_text f true x
  text_above (negsuc n) x sign size above same shortest float = absurd (true≢false sign)
  text_above (pos n) x sign size above same shortest float =
      ap (fixed_digits places) size ∙ signed_text false x above shortest (subst (IsFloatOf f) (sym same) float) ∙ ap (float_text f true) same

  pub text_below : (z : ℤ) (x : Float) → is_negative z ≡ true → nat_abs z ≡ digits → IsAboveZero x → float_with_sign false x ≡ x → IsShortestDecimal f (float_with_sign false x) left power → IsFloatOf f (neg x)
      → fixed_number (z, places) ≡ float_text f true (neg x)
  text_below (pos n) x sign size above same shortest float = absurd (omega (arith, ltb-true n 0 sign))
  text_below (negsuc n) x sign size above same shortest float =
      let is = negated x same in
      ap (λ d. codes "-" ++ fixed_digits places d) size ∙ signed_text true x above shortest (subst (IsFloatOf f) is float) ∙ ap (float_text f true) (sym is)

-- a float that compares so is above 0, and finite
pub finite_above : (x : Float) → lt float_zero x ≡ true → lt x (inf false) ≡ true → IsAboveZero x × (float_with_sign false x ≡ x)
unfolding lt float_with_sign
finite_above nan above below = absurd (false≢true above)
finite_above (inf true) above below = absurd (false≢true above)
finite_above (inf false) above below = absurd (false≢true below)
finite_above (fin true m e) above below = absurd (false≢true above)
finite_above (fin false zero e) above below = absurd (omega (arith, ltb-true _ _ above))
finite_above (fin false (suc m) e) above below = (omega arith, refl)
