-- A float's parts and its text, from its value as a fraction.
use Rattle.std.proofs.Common.{◌≡◌, ℕ, ◌+◌, ◌-◌, ◌*◌, ◌^◌, ◌<◌, ◌≤◌, ◌⊎◌, inl, inr, ◌++◌, Bool, false, pos, refl, sym, ap, ◌∙◌, subst, arith, eq-zero-or-pos, lt_of_lt_of_le, lt_of_mul-lt-mul_right}
use Rattle.std.proofs.Math.Nat.{eq_of_mul-eq-mul_right}
use lib.Pow.{pow-add, pow_pos, pow_mono}
use lib.Ieee.{Float, Format, binary32, binary64, nan, inf, fin, low, hid, ones, up, down}
use lib.Ieee.Exact.{HasValue}
use lib.Ieee.Fits.{down_pos}
use Rattle.core.specs.Fmt.{sign_text}
use Rattle.core.specs.Float.{float_with_sign, is_sign_negative}
use Rattle.core.proofs.dec2flt.Patterns.{shape}
use Rattle.ufmt_float.specs.Parts.{HasParts}
use Rattle.ufmt_float.proofs.Shortness.{value_of_bits}
use Rattle.ufmt_fixed.specs.declared.dyadic.Dyadic.TheVariants.{Finite}
use Rattle.ufmt_fixed.specs.Nearest.{nearest}
use Rattle.ufmt_fixed.specs.Dyadic.{IsDyadicOf}
use Rattle.ufmt_fixed.specs.Text.{fixed_digits, fixed_text}
use Rattle.ufmt_fixed.proofs.Roundings.{nearest_same}

-- ---- the parts of a finite float

cancelled : (n U D m A B c : ℕ) → 0 < c → n * U * (B * c) ≡ m * (A * c) * D → n * U * B ≡ m * A * D
cancelled n U D m A B c C e =
    let left : n * U * B * c ≡ n * U * (B * c) = grind arith in
    let right : m * (A * c) * D ≡ m * A * D * c = grind arith in
    eq_of_mul-eq-mul_right c C (n * U * B) (m * A * D) (left ∙ e ∙ right)

-- of two powers of two their common factor is taken out
common : (k l : ℕ) → (c : ℕ) × (0 < c) × (2 ^ k ≡ 2 ^ (k - l) * c) × (2 ^ l ≡ 2 ^ (l - k) * c)
common k l =
    elim (eq-zero-or-pos (k - l)) [
      | inl z ↦ (
          let whole : l ≡ l - k + k = omega arith in
          (2 ^ k, pow_pos k, rw z (omega arith), ap (λ n. 2 ^ n) whole ∙ pow-add 2 (l - k) k)
          )
      | inr p ↦ (
          let whole : k ≡ k - l + l = omega arith in
          let none : l - k ≡ 0 = omega arith in
          (2 ^ l, pow_pos l, ap (λ n. 2 ^ n) whole ∙ pow-add 2 (k - l) l, rw none (omega arith))
          )
    ]

rescaled : (x : Float) (s : Bool) (m k l : ℕ) → HasValue x s (m * 2 ^ k) (2 ^ l) → HasValue x s (m * 2 ^ (k - l)) (2 ^ (l - k))
rescaled nan s m k l v = v
rescaled (inf t) s m k l v = v
rescaled (fin t n e) s m k l v =
    let c = common k l in
    let scaled : n * up e * (2 ^ (l - k) * c.0) ≡ m * (2 ^ (k - l) * c.0) * down e = subst (λ x. n * up e * (2 ^ (l - k) * c.0) ≡ m * x * down e) c.2 (subst (λ x. n * up e * x ≡ m * 2 ^ k * down e) c.3 v.1) in
    (v.0, cancelled n (up e) (down e) m (2 ^ (k - l)) (2 ^ (l - k)) c.0 c.1 scaled)

with_sign : (x : Float) (s : Bool) (n d : ℕ) → HasValue (float_with_sign false x) false n d → is_sign_negative x ≡ s → HasValue x s n d
unfolding float_with_sign is_sign_negative
with_sign nan s n d v e = absurd v
with_sign (inf t) s n d v e = absurd v
with_sign (fin t m z) s n d v e = (e, v.1)

few_twos : (f : Format) (k : ℕ) → k < ones f → k - low f ≤ 972
few_twos binary32 k h = omega arith
few_twos binary64 k h = omega arith

one_none : (k l : ℕ) → (k - l ≡ 0) ⊎ (l - k ≡ 0)
one_none k l = elim (eq-zero-or-pos (k - l)) [ inl z ↦ inl z | inr p ↦ inr (omega arith) ]

pub finite_dyadic : (f : Format) (x : Float) (negative : Bool) (m k : ℕ) → HasParts f x negative m k → IsDyadicOf x (Finite negative m (k - low f) (low f - k))
finite_dyadic f x negative m k h =
    let s = shape f in
    let value = value_of_bits f m k h.parts.significand h.parts.finite in
    let field : k < ones f = lt_of_mul-lt-mul_right (hid f) (omega (arith, h.parts.finite)) in (
      rescaled x negative m k (low f) (with_sign x negative (m * 2 ^ k) (2 ^ low f) (subst (λ y. HasValue y false (m * 2 ^ k) (2 ^ low f)) (sym h.size) value) h.sign),
      (lt_of_lt_of_le h.parts.significand.fits (pow_mono (s.digits.1)), few_twos f k field, omega (arith, s.least.1), one_none k (low f)),
    )

pub zero_dyadic : (f : Format) (x : Float) (negative : Bool) (m : ℕ) → m ≡ 0 → x ≡ fin negative 0 (pos 0) → IsDyadicOf x (Finite negative m (0 - low f) (low f - 0))
zero_dyadic f x negative m z e =
    subst (λ y. IsDyadicOf y (Finite negative m (0 - low f) (low f - 0))) (sym e)
    (subst (λ n. IsDyadicOf (fin negative 0 (pos 0)) (Finite negative n (0 - low f) (low f - 0))) (sym z)
    ((refl, omega arith), (omega arith, omega arith, omega (arith, (shape f).least.1), one_none 0 (low f))))

-- ---- its text

cross : (n U P d a D : ℕ) → n * U * d ≡ a * D → n * U * P * d ≡ a * P * D
cross n U P d a D e = grind (arith, ap (λ x. x * P) e)

pub text_of_value : (x : Float) (negative : Bool) (n d places : ℕ) → 0 < d → HasValue x negative n d
    → fixed_text places x ≡ sign_text negative ++ fixed_digits places (nearest (n * 10 ^ places) d)
text_of_value nan negative n d places some v = absurd v
text_of_value (inf t) negative n d places some v = absurd v
text_of_value (fin t m e) negative n d places some v =
    let same : nearest (m * up e * 10 ^ places) (down e) ≡ nearest (n * 10 ^ places) d = nearest_same (m * up e * 10 ^ places) (down e) (n * 10 ^ places) d (down_pos e) some (cross m (up e) (10 ^ places) d n (down e) v.1) in
    λ i. sign_text (v.0 i) ++ fixed_digits places (same i)
