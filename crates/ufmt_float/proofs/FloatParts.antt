-- A float's parts, from its bits.
use Rattle.core.specs.Prelude.{◌≡◌, ℕ, zero, suc, ◌+◌, ◌-◌, ◌*◌, ◌/◌, ◌%◌, ◌<◌, ◌≤◌, ◌⊎◌, Bool, true, false, not, leb, eqb, pos, T}
use mathlib.Core.Path.{refl, sym, ap, ◌∙◌, subst}
use mathlib.Core.Logic.{inl, inr}
use mathlib.Core.Bool.{false≢true}
use native.Mathlib.Omega.{arith}
use native.Mathlib.Nat.{mod-lt, div-add-mod', mul-le-mul_right, lt_of_mul-lt-mul_right}
use lib.Dec.{nltb→le}
use borrow.Author.Tests.{lt-leb}
use lib.Ieee.{Float, Format, binary32, binary64, nan, inf, fin, prec, low, hid, ones, top, odd, is_nan, of_bits, of_fields}
use lib.Ieee.Bits.{nan_bits_is, nan_bits_above}
use Rattle.core.specs.Float.{float_with_sign, is_sign_negative}
use Rattle.core.proofs.dec2flt.Patterns.{shape, infinite}
use Rattle.std.proofs.lemmas.Bool.{cases_Bool}
use Rattle.ufmt_float.specs.declared.parts.Parts.{Parts}
use Rattle.ufmt_float.specs.declared.parts.Parts.TheVariants.{NotANumber, Infinite, Zero}
use Rattle.ufmt_float.specs.Parts.{HasParts, AreParts}
use Rattle.ufmt_float.specs.Shortest.{IsAboveZero}

-- ---- the sign of a float that has given fields

odd_with_sign : (s t : Bool) (d q k l : ℕ) → float_with_sign t (odd d s q k l) ≡ odd d t q k l
unfolding odd float_with_sign
odd_with_sign s t d zero k l = refl
odd_with_sign s t d (suc q) k l = refl

odd_sign : (s : Bool) (d q k l : ℕ) → is_sign_negative (odd d s q k l) ≡ s
unfolding odd is_sign_negative
odd_sign s d zero k l = refl
odd_sign s d (suc q) k l = refl

fields_with_sign : (f : Format) (s t : Bool) (x d : ℕ) → float_with_sign t (of_fields f s x d) ≡ of_fields f t x d
unfolding of_fields float_with_sign
fields_with_sign f s t zero d = odd_with_sign s t (prec f) d 0 (low f)
fields_with_sign f s t (suc x) d =
    elim (cases_Bool (eqb (suc x) (ones f))) [
      | inl last ↦ elim (cases_Bool (eqb d 0)) [ inl none ↦ rw (last, none) refl | inr some ↦ rw (last, some) refl ]
      | inr less ↦ rw less (odd_with_sign s t (prec f) (hid f + d) x (low f))
    ]

fields_sign : (f : Format) (s : Bool) (x d : ℕ) → T (not (is_nan (of_fields f s x d))) → is_sign_negative (of_fields f s x d) ≡ s
unfolding of_fields is_sign_negative is_nan
fields_sign f s zero d n = odd_sign s (prec f) d 0 (low f)
fields_sign f s (suc x) d n =
    elim (cases_Bool (eqb (suc x) (ones f))) [
      | inl last ↦ elim (cases_Bool (eqb d 0)) [ inl none ↦ rw (last, none) refl | inr some ↦ absurd (rw (last, some) at n) ]
      | inr less ↦ rw less (odd_sign s (prec f) (hid f + d) x (low f))
    ]

-- ---- the bits without the sign

without_sign : (f : Format) (raw : ℕ) → (raw % top f % top f ≡ raw % top f) × (raw % top f % hid f ≡ raw % hid f) × (raw % top f < top f)
without_sign binary32 raw = omega arith
without_sign binary64 raw = omega arith

module _ (f : Format) (x : Float) (raw : ℕ) (same : of_bits f raw ≡ x) (number : T (not (is_nan x))) where
  abbrev size : ℕ
  size = raw % top f

  abbrev negative : Bool
  negative = leb (top f) raw

  fields : of_fields f negative (size / hid f) (raw % hid f) ≡ x
  unfolding of_bits
  fields = same

  size_fields : of_bits f size ≡ of_fields f false (size / hid f) (raw % hid f)
  unfolding of_bits
  size_fields =
      let e = without_sign f raw in
      λ i. of_fields f (lt-leb (top f) size e.2 i) (e.0 i / hid f) (e.1 i)

  pub size_is : float_with_sign false x ≡ of_bits f size
  size_is = ap (float_with_sign false) (sym fields) ∙ fields_with_sign f negative false (size / hid f) (raw % hid f) ∙ sym size_fields

  pub sign_is : is_sign_negative x ≡ negative
  sign_is = ap is_sign_negative (sym fields) ∙ fields_sign f negative (size / hid f) (raw % hid f) (subst (λ y. T (not (is_nan y))) (sym fields) number)

  pub size_bound : size ≤ ones f * hid f
  size_bound = nltb→le (ones f * hid f) size (subst (λ (b : Bool). T (not b)) (ap is_nan (sym same) ∙ sym (nan_bits_is f raw) ∙ nan_bits_above f raw) number)

-- ---- the kinds of floats

infinite_from : (x : Float) (b : Bool) → float_with_sign false x ≡ inf false → is_sign_negative x ≡ b → x ≡ inf b
unfolding float_with_sign is_sign_negative
infinite_from nan b e s = (cc)
infinite_from (inf t) b e s = ap inf s
infinite_from (fin t m k) b e s = (cc)

zero_from : (x : Float) (b : Bool) → float_with_sign false x ≡ fin false 0 (pos 0) → is_sign_negative x ≡ b → x ≡ fin b 0 (pos 0)
unfolding float_with_sign is_sign_negative
zero_from nan b e s = (cc)
zero_from (inf t) b e s = (cc)
zero_from (fin t m k) b e s = (cc)

zero_bits : (f : Format) → of_bits f 0 ≡ fin false 0 (pos 0)
unfolding of_bits
zero_bits binary32 = refl
zero_bits binary64 = refl

pub zero_parts : (f : Format) (x : Float) (s : ℕ) (b : Bool) → float_with_sign false x ≡ of_bits f s → is_sign_negative x ≡ b → s ≡ 0 → x ≡ fin b 0 (pos 0)
zero_parts f x s b size sign z = zero_from x b (size ∙ ap (of_bits f) z ∙ zero_bits f) sign

pub infinite_parts : (f : Format) (x : Float) (s : ℕ) (b : Bool) → float_with_sign false x ≡ of_bits f s → is_sign_negative x ≡ b → s ≡ ones f * hid f → x ≡ inf b
infinite_parts f x s b size sign e = infinite_from x b (size ∙ ap (of_bits f) e ∙ infinite f) sign

pub small_parts : (f : Format) (x : Float) (s : ℕ) (b : Bool) → float_with_sign false x ≡ of_bits f s → is_sign_negative x ≡ b → 0 < s → s < hid f → HasParts f x b s 0
small_parts f x s b size sign some small =
    let sh = shape f in
    let bits : 0 * hid f + s ≡ s = omega arith in
    let field : 1 ≤ ones f = omega (arith, sh.field) in
    record {
      size = size ∙ ap (of_bits f) (sym bits);
      sign = sign;
      parts = record {
        some = some;
        significand = record { fits = omega (arith, sh.twice); normal = λ K. absurd (omega arith) };
        finite = omega (arith, mul-le-mul_right (hid f) field);
      };
    }

pub large_parts : (f : Format) (x : Float) (s : ℕ) (b : Bool) → float_with_sign false x ≡ of_bits f s → is_sign_negative x ≡ b → hid f ≤ s → s < ones f * hid f
    → HasParts f x b (hid f + s % hid f) (s / hid f - 1)
large_parts f x s b size sign large below =
    let sh = shape f in
    let H : 0 < hid f = omega (arith, sh.some) in
    let parts = div-add-mod' s (hid f) in
    let rest = mod-lt s H in
    let some : 0 < s / hid f = lt_of_mul-lt-mul_right (hid f) (omega arith) in
    let back : s / hid f - 1 + 1 ≡ s / hid f = omega arith in
    let bits : (s / hid f - 1) * hid f + (hid f + s % hid f) ≡ s = omega (arith, ap (λ n. n * hid f) back) in
    record {
      size = size ∙ ap (of_bits f) (sym bits);
      sign = sign;
      parts = record {
        some = omega arith;
        significand = record { fits = omega (arith, sh.twice); normal = λ K. omega arith };
        finite = omega arith;
      };
    }

pub only_nan : (x : Float) → not (is_nan x) ≡ false → x ≡ nan
unfolding is_nan
only_nan nan e = refl
only_nan (inf s) e = absurd (false≢true (sym e))
only_nan (fin s m d) e = absurd (false≢true (sym e))

-- ---- as the code finds them, where each constant is a value of its own

module _ (f : Format) (x : Float) (raw : ℕ) (same : of_bits f raw ≡ x) (is_number : Bool) (told : is_number ≡ not (is_nan x)) (yes : is_number ≡ true)
    (sign sign' : ℕ) (S : sign ≡ top f) (S' : sign' ≡ top f) where
  number : T (not (is_nan x))
  number = subst T (sym (sym told ∙ yes)) tt

  size' : float_with_sign false x ≡ of_bits f (raw % sign')
  size' = size_is f x raw same number ∙ ap (λ s. of_bits f (raw % s)) (sym S')

  negative' : is_sign_negative x ≡ leb sign raw
  negative' = sign_is f x raw same number ∙ ap (λ s. leb s raw) (sym S)

  bound' : raw % sign' ≤ ones f * hid f
  bound' = subst (λ s. raw % s ≤ ones f * hid f) (sym S') (size_bound f x raw same number)

  pub found_infinite : (infinity : ℕ) → infinity ≡ ones f * hid f → infinity ≤ raw % sign' → x ≡ inf (leb sign raw)
  found_infinite infinity i h = infinite_parts f x (raw % sign') (leb sign raw) size' negative' (omega (arith, bound'))

  pub found_zero : raw % sign' ≡ 0 → x ≡ fin (leb sign raw) 0 (pos 0)
  found_zero z = zero_parts f x (raw % sign') (leb sign raw) size' negative' z

  pub found_small : (hidden : ℕ) → hidden ≡ hid f → raw % sign' < hidden → 0 < raw % sign' → HasParts f x (leb sign raw) (raw % sign') 0
  found_small hidden e h p = small_parts f x (raw % sign') (leb sign raw) size' negative' p (omega arith)

  pub found_large : (infinity hidden h1 h2 h3 : ℕ) → infinity ≡ ones f * hid f → hidden ≡ hid f → h1 ≡ hid f → h2 ≡ hid f → h3 ≡ hid f → raw % sign' < infinity → hidden ≤ raw % sign'
      → HasParts f x (leb sign raw) (h1 + raw % sign' % h2) (raw % sign' / h3 - 1)
  found_large infinity hidden h1 h2 h3 i e e1 e2 e3 below large =
      let p = large_parts f x (raw % sign') (leb sign raw) size' negative' (omega arith) (omega arith) in
      subst (λ h. HasParts f x (leb sign raw) (h + raw % sign' % h2) (raw % sign' / h3 - 1)) (sym e1)
      (subst (λ h. HasParts f x (leb sign raw) (hid f + raw % sign' % h) (raw % sign' / h3 - 1)) (sym e2)
      (subst (λ h. HasParts f x (leb sign raw) (hid f + raw % sign' % hid f) (raw % sign' / h - 1)) (sym e3) p))

-- ---- floats that have no decimal

no_zero : (b : Bool) → IsAboveZero (float_with_sign false (fin b 0 (pos 0))) → ⊥
unfolding float_with_sign
no_zero b h = absurd (omega arith)

no_infinity : (b : Bool) → IsAboveZero (float_with_sign false (inf b)) → ⊥
unfolding float_with_sign
no_infinity b h = h

no_nan : IsAboveZero (float_with_sign false nan) → ⊥
unfolding float_with_sign
no_nan h = h

pub not_above : (f : Format) (x : Float) (p : Parts) → AreParts f x p → ((b : Bool) × (p ≡ Zero b)) ⊎ ((b : Bool) × (p ≡ Infinite b)) ⊎ (p ≡ NotANumber)
    → IsAboveZero (float_with_sign false x) → ⊥
not_above f x p a (inl z) h = no_zero z.0 (subst (λ y. IsAboveZero (float_with_sign false y)) (subst (AreParts f x) z.1 a) h)
not_above f x p a (inr (inl i)) h = no_infinity i.0 (subst (λ y. IsAboveZero (float_with_sign false y)) (subst (AreParts f x) i.1 a) h)
not_above f x p a (inr (inr n)) h = no_nan (subst (λ y. IsAboveZero (float_with_sign false y)) (subst (AreParts f x) n a) h)
