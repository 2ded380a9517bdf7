-- Which number of an interval is the chosen one.
use Rattle.core.specs.Prelude.{◌≡◌, ℕ, ◌+◌, ◌-◌, ◌*◌, ◌/◌, ◌%◌, ◌^◌, ◌<◌, ◌≤◌}
use mathlib.Core.Path.{sym, ap, subst}
use mathlib.Core.Logic.{inl, inr}
use native.Mathlib.Omega.{arith}
use native.Mathlib.Nat.{eq-zero-or-pos, mul-le-mul_right, mul-le-mul_left, le_of_mul-le-mul_right, lt_of_mul-lt-mul_right}
use Rattle.ufmt_float.specs.Interval.{IsInside, IsScaled, IsChosen}
use Rattle.ufmt_float.specs.Shortest.{IsNoFarther}

-- ---- of two numbers, which one is closer

module _ (V B a b : ℕ) where
  -- both are at most the value, and a is the larger one
  closer_below : a * B ≤ V → b ≤ a → IsNoFarther V B a b
  closer_below h l =
      let k = mul-le-mul_right B l in
      elim (eq-zero-or-pos (a * B - b * B)) [ inl z ↦ inr (omega arith, l) | inr p ↦ inl (omega arith) ]

  -- both are above the value, and a is the smaller one
  closer_above : 0 < B → V < a * B → a ≤ b → IsNoFarther V B a b
  closer_above P h l =
      let k = mul-le-mul_right B l in
      elim (eq-zero-or-pos (b - a)) [
        | inl z ↦ inr (let e : a ≡ b = omega arith in (ap (λ x. (x * B - V) + (V - x * B)) e, omega arith))
        | inr p ↦ inl (let g : a + 1 ≤ b = omega arith in omega (arith, mul-le-mul_right B g))
      ]

  -- a is at most the value, b is above it, and the value is in the lower half
  closer_half : a * B ≤ V → 2 * V < (2 * a + 1) * B → a + 1 ≤ b → IsNoFarther V B a b
  closer_half h n l = inl (omega (arith, mul-le-mul_right B l))

  -- a is above the value, b is at most it, and the value is in the upper half
  closer_next : b + 1 ≤ a → V < a * B → 2 * a * B ≤ 2 * V + B → IsNoFarther V B a b
  closer_next l h n =
      let k = mul-le-mul_right B l in
      elim (eq-zero-or-pos ((V - b * B) - (a * B - V))) [ inl z ↦ inr (omega arith, omega arith) | inr p ↦ inl (omega arith) ]

-- a smaller number is below the start too, and a larger one above the end
module _ (m below A B : ℕ) where
  abbrev Misses : ℕ → Type 0
  Misses d = 4 * (d * B) + below * A < 4 * (m * A) + m % 2

  abbrev Passes : ℕ → Type 0
  Passes d = 4 * (m * A) + 2 * A < 4 * (d * B) + m % 2

  abbrev In : ℕ → Type 0
  In d = IsInside m below (d * B) A

  above_missed : (d e : ℕ) → Misses d → In e → d < e
  above_missed d e h i = elim (eq-zero-or-pos (e - d)) [
    | inl z ↦ (let l : e ≤ d = omega arith in absurd (omega (arith, mul-le-mul_right B l, i.from)))
    | inr p ↦ omega arith
  ]

  below_passed : (d e : ℕ) → Passes d → In e → e < d
  below_passed d e h i = elim (eq-zero-or-pos (d - e)) [
    | inl z ↦ (let l : d ≤ e = omega arith in absurd (omega (arith, mul-le-mul_right B l, i.to)))
    | inr p ↦ omega arith
  ]

module _ (m below A B q : ℕ) (s : IsScaled m below A B) (from : q * B ≤ m * A) (under : m * A < (q + 1) * B) where
  bottom_pos : 0 < B
  bottom_pos = s.some.2

  top_pos : 0 < A
  top_pos = elim (eq-zero-or-pos A) [ inl z ↦ absurd (omega (arith, s.long, bottom_pos, ap (λ x. (below + 2) * x) z)) | inr p ↦ p ]

  few_digits : (d : ℕ) → IsInside m below (d * B) A → (0 < d) × (d < 10 ^ 17)
  few_digits d i =
      let some : 0 < d = elim (eq-zero-or-pos d) [
        | inl z ↦ (
            let most : below ≤ 2 = elim s.sides [ inl e ↦ omega arith | inr e ↦ omega arith ] in
            let least : 1 ≤ m = s.some.0 in
            absurd (omega (arith, i.from, ap (λ x. x * B) z, mul-le-mul_right A most, mul-le-mul_right A least, top_pos))
            )
        | inr p ↦ p
      ] in
      let few : d < 10 ^ 17 = elim s.sides [
        | inl e ↦ (
            let unit : A ≤ 10 * B = omega (arith, s.short, ap (λ x. x * A) e) in
            let l : d ≤ 10 * m + 5 = le_of_mul-le-mul_right {k = B} (omega (arith, i.to, mul-le-mul_left m unit)) bottom_pos in
            omega (arith, s.some)
            )
        | inr e ↦ (
            let unit : 3 * A ≤ 40 * B = omega (arith, s.short, ap (λ x. x * A) e.0) in
            let l : 12 * d ≤ 160 * m + 80 = le_of_mul-le-mul_right {k = B} (omega (arith, i.to, mul-le-mul_left m unit)) bottom_pos in
            omega (arith, e.2)
            )
      ] in
      (some, few)

  -- the interval has one multiple of ten at most
  one_ten : (d e : ℕ) → IsInside m below (10 * d * B) A → IsInside m below (10 * e * B) A → d ≤ e
  one_ten d e i j = elim (eq-zero-or-pos (d - e)) [
    | inl z ↦ omega arith
    | inr p ↦ (let l : e + 1 ≤ d = omega arith in absurd (omega (arith, mul-le-mul_right B l, i.to, j.from, s.short)))
  ]

  same_ten : (d e : ℕ) → IsInside m below (10 * d * B) A → IsInside m below (10 * e * B) A → 10 * d ≡ 10 * e
  same_ten d e i j = let a = one_ten d e i j in let b = one_ten e d j i in omega arith

  chosen_ten : (d : ℕ) → IsInside m below (10 * d * B) A → IsChosen m below A B (10 * d)
  chosen_ten d i = record { inside = i; few = few_digits (10 * d) i; ten = λ e j. same_ten d e i j; closest = λ n e j. absurd (n (omega arith)) }

  pub chosen_tens : 4 * (m * A) + m % 2 ≤ 4 * ((q - q % 10) * B) + below * A → IsChosen m below A B (q - q % 10)
  chosen_tens h =
      let d = q / 10 in
      let is : q - q % 10 ≡ 10 * d = omega arith in
      let small : 10 * d * B ≤ q * B = (let l : 10 * d ≤ q = omega arith in mul-le-mul_right B l) in
      let h' : 4 * (m * A) + m % 2 ≤ 4 * (10 * d * B) + below * A = subst (λ x. 4 * (m * A) + m % 2 ≤ 4 * (x * B) + below * A) is h in
      subst (IsChosen m below A B) (sym is) (chosen_ten d (record { from = h'; to = omega (arith, top_pos) }))

  -- a multiple of ten that is the float itself
  pub chosen_exact : q * B ≡ m * A → q % 10 ≡ 0 → IsChosen m below A B q
  chosen_exact exact ten =
      let least : 1 ≤ below = elim s.sides [ inl e ↦ omega arith | inr e ↦ omega arith ] in
      let is : q - q % 10 ≡ q = omega arith in
      let inside : 4 * (m * A) + m % 2 ≤ 4 * (q * B) + below * A = omega (arith, exact, top_pos, mul-le-mul_right A least) in
      subst (IsChosen m below A B) is (chosen_tens (subst (λ x. 4 * (m * A) + m % 2 ≤ 4 * (x * B) + below * A) (sym is) inside))

  pub chosen_next_tens : 4 * ((q - q % 10 + 10) * B) + m % 2 ≤ 4 * (m * A) + 2 * A → IsChosen m below A B (q - q % 10 + 10)
  chosen_next_tens h =
      let d = q / 10 + 1 in
      let is : q - q % 10 + 10 ≡ 10 * d = omega arith in
      let l : q + 1 ≤ 10 * d = omega arith in
      let h' : 4 * (10 * d * B) + m % 2 ≤ 4 * (m * A) + 2 * A = subst (λ x. 4 * (x * B) + m % 2 ≤ 4 * (m * A) + 2 * A) is h in
      subst (IsChosen m below A B) (sym is) (chosen_ten d (record { from = omega (arith, mul-le-mul_right B l); to = h' }))

  module _ (low : Misses m below A B (q - q % 10)) (high : Passes m below A B (q - q % 10 + 10)) where
    no_ten : (d : ℕ) → IsInside m below (10 * d * B) A → (x : ℕ) → x ≡ 10 * d
    no_ten d i x = let a = above_missed m below A B _ _ low i in let b = below_passed m below A B _ _ high i in absurd (omega arith)

    pub chosen_whole : 4 * (m * A) + m % 2 ≤ 4 * (q * B) + below * A → 2 * (m * A) < (2 * q + 1) * B → IsChosen m below A B q
    chosen_whole start near =
        let i : IsInside m below ((q) * B) A = record { from = start; to = omega (arith, top_pos) } in
        record {
          inside = i;
          few = few_digits (q) i;
          ten = λ d j. no_ten d j q;
          closest = λ n d j. elim (eq-zero-or-pos (d - q)) [ inl z ↦ closer_below _ _ q d from (omega arith) | inr p ↦ closer_half _ _ q d from near (omega arith) ];
        }

    -- the unit is the power of ten, and the float is a multiple of it
    whole_float : A ≡ B → q ≡ m
    whole_float e =
        let a : q < m + 1 = lt_of_mul-lt-mul_right B (omega (arith, ap (λ x. m * x) e, bottom_pos)) in
        let b : m < q + 1 = lt_of_mul-lt-mul_right B (omega (arith, ap (λ x. m * x) e)) in
        omega arith

    ends_past : Misses m below A B q → 4 * ((q + 1) * B) + m % 2 ≤ 4 * (m * A) + 2 * A
    ends_past miss = elim s.sides [
      | inr e ↦ omega (arith, s.long, ap (λ x. x * A) e.0)
      | inl e ↦ (
          let twice : below * A ≡ 2 * A = ap (λ x. x * A) e in
          elim (eq-zero-or-pos (A - B)) [
            | inl z ↦ (let same : A ≡ B = omega (arith, s.long) in absurd (omega (arith, ap (λ x. x * B) (whole_float same), ap (λ x. m * x) same, top_pos)))
            | inr p ↦ omega arith
          ]
          )
    ]

    starts_before : Passes m below A B (q + 1) → 4 * (m * A) + m % 2 ≤ 4 * (q * B) + below * A
    starts_before pass = elim s.sides [
      | inr e ↦ omega (arith, s.long, ap (λ x. x * A) e.0)
      | inl e ↦ (
          let twice : below * A ≡ 2 * A = ap (λ x. x * A) e in
          elim (eq-zero-or-pos (A - B)) [
            | inl z ↦ (let same : A ≡ B = omega (arith, s.long) in omega (arith, ap (λ x. x * B) (whole_float same), ap (λ x. m * x) same, top_pos))
            | inr p ↦ omega arith
          ]
          )
    ]

    pub chosen_past : Misses m below A B q → IsChosen m below A B (q + 1)
    chosen_past miss =
        let i : IsInside m below ((q + 1) * B) A = record { from = omega (arith, top_pos); to = ends_past miss } in
        record {
          inside = i;
          few = few_digits (q + 1) i;
          ten = λ d j. no_ten d j (q + 1);
          closest = λ n d j. closer_above _ _ (q + 1) d bottom_pos under (let l = above_missed m below A B q d miss j in omega arith);
        }

    pub chosen_next : 4 * ((q + 1) * B) + m % 2 ≤ 4 * (m * A) + 2 * A → (2 * q + 1) * B ≤ 2 * (m * A) → IsChosen m below A B (q + 1)
    chosen_next end near =
        let i : IsInside m below ((q + 1) * B) A = record { from = omega (arith, top_pos); to = end } in
        record {
          inside = i;
          few = few_digits (q + 1) i;
          ten = λ d j. no_ten d j (q + 1);
          closest = λ n d j. elim (eq-zero-or-pos (d - q)) [ inl z ↦ closer_next _ _ (q + 1) d (omega arith) under (omega arith) | inr p ↦ closer_above _ _ (q + 1) d bottom_pos under (omega arith) ];
        }

    pub chosen_before : Passes m below A B (q + 1) → IsChosen m below A B q
    chosen_before pass =
        let i : IsInside m below ((q) * B) A = record { from = starts_before pass; to = omega (arith, top_pos) } in
        record {
          inside = i;
          few = few_digits (q) i;
          ten = λ d j. no_ten d j q;
          closest = λ n d j. closer_below _ _ q d from (let l = below_passed m below A B (q + 1) d pass j in omega arith);
        }

-- the start of the interval, as the code compares it
pub taken_off : (m below A : ℕ) → 0 < m → below ≤ 2 → (4 * m - below) * A + below * A ≡ 4 * (m * A)
taken_off m below A M L =
    let e : 4 * m - below + below ≡ 4 * m = omega arith in
    omega (arith, ap (λ x. x * A) e)

pub exact_chosen : (m below A B digits tenth : ℕ) → IsScaled m below A B → digits ≡ 10 * tenth → digits * B ≡ m * A → IsChosen m below A B digits
exact_chosen m below A B digits tenth s ten exact = chosen_exact m below A B digits s (omega (arith, exact)) (omega (arith, exact, s.some)) exact (omega (arith, ten))
