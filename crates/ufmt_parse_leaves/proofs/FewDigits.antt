-- A decimal of fewer digits than a float's significand is the shortest one of the float nearest to it.
use Rattle.std.proofs.Common.{◌≡◌, ◌≢◌, ◌⊎◌, inl, inr, refl, sym, ap, ◌∙◌, subst, ℕ, zero, suc, ◌+◌, ◌-◌, ◌*◌, ◌%◌, ◌^◌, ◌<◌, ◌≤◌, false, arith, pow-suc}
use Rattle.std.specs.Prelude.{T}
use native.Mathlib.Nat.{eq-zero-or-pos, le_of_mul-le-mul_right, mul-le-mul_right, mul-pos, pow-le-pow_right}
use lib.Pow.{pow-add, pow_pos}
use lib.Ieee.{Float, Format, nan, inf, fin, fits, hid, low, of_bits, ones, round}
use Rattle.core.specs.Float.{float_with_sign}
use Rattle.core.specs.Dec2flt.Rounding.{IsSignificand}
use Rattle.core.proofs.dec2flt.LimbsLemmas.{power_pos}
use Rattle.core.proofs.dec2flt.Patterns.{shape}
use Rattle.ufmt_float.specs.Interval.{IsInside, quarters_below}
use Rattle.ufmt_float.specs.Shortest.{IsAboveZero, IsShortestDecimal, nearest_decimal}
use Rattle.ufmt_float.proofs.Existence.{parts_exist}
use Rattle.ufmt_float.proofs.Intervals.{finite_bits, inside_rounds, quarters_cases, same_inside}
use Rattle.ufmt_float.proofs.TextLaws.{decimal_of}
use Rattle.ufmt_parse_leaves.specs.Private.PlainDecimals.{IsPlainDecimal, IsPrintedAs}

tens_pos : (n : ℕ) → 0 < 10 ^ n
tens_pos n = power_pos 10 n (omega arith)

-- if two multiples of `step` round to the float m, the step is at most the unit, and m at most the lower one
record IsApart (m lower step unit : ℕ) : Type 0 where
  short : step ≤ unit
  least : m ≤ lower

apart : (m below lower higher step unit : ℕ) → below ≤ 2 → 0 < unit → lower < higher → IsInside m below (lower * step) unit → IsInside m below (higher * step) unit → IsApart m lower step unit
apart m below lower higher step unit few some less i j =
    let next : lower + 1 ≤ higher = omega arith in
    let sides = mul-le-mul_right unit few in
    let within : step ≤ unit = omega (arith, mul-le-mul_right step next, sides, i.from, j.to) in
    let from : 4 * m * unit ≤ (4 * lower + 2) * unit = omega (arith, mul-le-mul_right lower within, sides, i.from) in
    let most : 4 * m ≤ 4 * lower + 2 = le_of_mul-le-mul_right {k = unit} from some in
    record { short = within; least = omega arith }

turn : (d a l b k c e : ℕ) → a * b ≡ c * e → d * a * l * (b * k) ≡ d * c * l * (e * k)
turn d a l b k c e same =
    let left : d * a * l * (b * k) ≡ d * (a * b) * (l * k) = grind arith in
    let right : d * (c * e) * (l * k) ≡ d * c * l * (e * k) = grind arith in
    left ∙ ap (λ t. d * t * (l * k)) same ∙ right

module _ (f : Format) (m k digits places : ℕ) (M : 0 < m) (sig : IsSignificand f m k) (finite : k * hid f + m < ones f * hid f) (small : digits < hid f) (point : places ≤ 19) where
  abbrev unit : ℕ
  unit = 10 ^ places * 2 ^ k

  abbrev float : Float
  float = of_bits f (k * hid f + m)

  unit_pos : 0 < unit
  unit_pos = mul-pos (tens_pos places) (pow_pos k)

  sides : quarters_below f m k ≤ 2
  sides = elim (quarters_cases f m k) [ inl c ↦ omega (arith, c.2) | inr c ↦ omega (arith, c.1) ]

  -- a decimal that reads as the float, counted at the last place
  at_places : (d r : ℕ) → 400 ≤ r + places → nearest_decimal f d r ≡ float → IsInside m (quarters_below f m k) (d * 10 ^ (r + places - 400) * 2 ^ low f) unit
  at_places d r most reads =
      let i = inside_rounds f (d * 10 ^ (r - 400)) (10 ^ (400 - r)) m k (tens_pos (400 - r)) M sig finite (ap (of_bits f) (finite_bits f m k finite) ∙ sym reads) in
      let sum : r - 400 + places ≡ r + places - 400 + (400 - r) = omega arith in
      let tens : 10 ^ (r - 400) * 10 ^ places ≡ 10 ^ (r + places - 400) * 10 ^ (400 - r) = sym (pow-add 10 (r - 400) places) ∙ ap (λ n. 10 ^ n) sum ∙ pow-add 10 (r + places - 400) (400 - r) in
      same_inside m (quarters_below f m k) _ _ _ unit (mul-pos (tens_pos (400 - r)) (pow_pos k)) unit_pos
      (turn d (10 ^ (r - 400)) (2 ^ low f) (10 ^ places) (2 ^ k) (10 ^ (r + places - 400)) (10 ^ (400 - r)) tens) i

  never : (lower : ℕ) → lower < hid f → IsApart m lower (2 ^ low f) unit → ⊥
  never lower less a = elim (eq-zero-or-pos k) [
    | inr K ↦ omega (arith, a.least, sig.normal K)
    | inl z ↦ (
        let one : unit ≡ 10 ^ places * 1 = ap (λ n. 10 ^ places * 2 ^ n) z in
        let large : 64 ≤ low f = omega (arith, (shape f).least) in
        omega (arith, a.short, one, pow-le-pow_right {n = 2} (omega arith) large, pow-le-pow_right {n = 10} (omega arith) point)
        )
  ]

  same_digits : (left power : ℕ) → 400 ≤ power + places → nearest_decimal f digits (400 - places) ≡ float → nearest_decimal f left power ≡ float → digits ≡ left * 10 ^ (power + places - 400)
  same_digits left power most read reads =
      let none : 400 - places + places - 400 ≡ 0 = omega arith in
      let whole : digits * 10 ^ (400 - places + places - 400) ≡ digits = ap (λ n. digits * 10 ^ n) none ∙ omega arith in
      let i = subst (λ n. IsInside m (quarters_below f m k) (n * 2 ^ low f) unit) whole (at_places digits (400 - places) (omega arith) read) in
      let j = at_places left power most reads in
      let other : ℕ = left * 10 ^ (power + places - 400) in
      elim (eq-zero-or-pos (digits - other)) [
        | inr p ↦ absurd (never other (omega (arith, small)) (apart m (quarters_below f m k) other digits (2 ^ low f) unit sides unit_pos (omega arith) j i))
        | inl y ↦ elim (eq-zero-or-pos (other - digits)) [
          | inl z ↦ omega arith
          | inr p ↦ absurd (never digits small (apart m (quarters_below f m k) digits other (2 ^ low f) unit sides unit_pos (omega arith) i j))
        ]
      ]

one_of : (digits places left count : ℕ) → (places ≡ 1) ⊎ (digits % 10 ≢ 0) → digits ≡ left * 10 ^ count → (count ≡ 0) ⊎ (places ≡ 1)
one_of digits places left zero last same = inl refl
one_of digits places left (suc count) (inl one) same = inr one
one_of digits places left (suc count) (inr other) same =
    let ten : left * 10 ^ suc count ≡ left * 10 ^ count * 10 = omega (arith, ap (λ n. left * n) (pow-suc 10 count)) in
    absurd (other (omega (arith, same, ten)))

pub few_digits : (f : Format) (x : Float) (digits places : ℕ) → T (fits f x) → IsAboveZero x → float_with_sign false x ≡ x → x ≡ round f false digits (10 ^ places) → IsPlainDecimal digits places → digits < hid f
    → (left : ℕ) × (power : ℕ) × IsShortestDecimal f (float_with_sign false x) left power × IsPrintedAs digits places left power
unfolding float_with_sign
few_digits f nan digits places float above same is plain few = absurd above
few_digits f (inf s) digits places float above same is plain few = absurd above
few_digits f (fin s zero e) digits places float above same is plain few = absurd (omega (arith, above))
few_digits f (fin s (suc n) e) digits places float above same is plain few =
    let parts = parts_exist f s n e float in
    let m = parts.0 in
    let k = parts.1 in
    let h = parts.2 in
    let d = decimal_of f s n e float in
    let point : places ≤ 19 = plain.point.1 in
    let no_tens : digits * 10 ^ (400 - places - 400) ≡ digits = ap (λ n. digits * 10 ^ n) (no_more places) ∙ omega arith in
    let read : nearest_decimal f digits (400 - places) ≡ fin false (suc n) e = (λ i. round f false (no_tens i) (10 ^ back places point i)) ∙ sym is ∙ sym same in
    let least = d.shortest.shortest digits (400 - places) read in
    let most : 400 ≤ d.power + places = omega (arith, least, point) in
    let digits_are = same_digits f m k digits places h.parts.some h.parts.significand h.parts.finite few point d.digits d.power most (read ∙ h.size) (d.shortest.reads ∙ h.size) in (
      d.digits,
      d.power,
      d.shortest,
      record { zeros = d.power + places - 400; end = omega (arith, most); digits_are = digits_are; one = one_of digits places d.digits (d.power + places - 400) plain.last digits_are },
    )
  where
    no_more : (p : ℕ) → 400 - p - 400 ≡ 0
    no_more p = omega arith

    back : (p : ℕ) → p ≤ 19 → 400 - (400 - p) ≡ p
    back p h = omega arith
