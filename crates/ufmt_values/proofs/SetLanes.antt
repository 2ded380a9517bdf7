-- Bytes of a set, seen sixteen at a time through a mask.
use Rattle.std.proofs.Common.{◌≡◌, refl, sym, ap, ap₂, ◌∙◌, ℕ, zero, suc, ◌*◌, ◌/◌, ◌%◌, ◌^◌, ◌<◌, ◌≤◌, Bool, true, false, cond, List, [], ◌∷◌, map, length, replicate, get_or, eqb, bit_or, Fits, w8, arith, pow_pos, pow_mono, div-lt_iff_lt-mul, le-div_iff_mul-le}
use Rattle.std.proofs.Math.Nat.{two-pow-succ, div-eq_of_lt}
use Rattle.std.proofs.lemmas.Bool.{agree_below_at}
use Rattle.std.proofs.lemmas.List.{length-map}
use Rattle.std.proofs.lemmas.Simd.{bit_mask_l, map-map, mask_l-mod, zip2_of_maps, zip2_splat}
use Rattle.std.specs.Int.{bit_at}
use Rattle.ufmt.specs.Leaves.{is_opening}
use Rattle.ufmt_values.specs.Unclosed.{is_closing}
use lib.Lanes.{mask_l, top, zip2, Each1}

-- ---- the marks of brackets

-- what a lane of the two tests is: one of two brackets that differ in one bit, or the third
abbrev pub lane : ℕ → ℕ → ℕ → ℕ
lane pair third b = bit_or (cond (eqb (bit_or b 32) pair) 255 0) (cond (eqb b third) 255 0)

-- the lanes of the two tests
tested : (pair third : ℕ) (v : List ℕ) → length v ≡ 16
    → zip2 bit_or (zip2 (λ a b. cond (eqb a b) 255 0) (zip2 bit_or v (replicate 16 32)) (replicate 16 pair)) (zip2 (λ a b. cond (eqb a b) 255 0) v (replicate 16 third))
    ≡ map (lane pair third) v
tested pair third v long =
    zip2_of_maps bit_or _ _ v
    (ap (λ xs. zip2 (λ a b. cond (eqb a b) 255 0) xs (replicate 16 pair)) (zip2_splat bit_or v 16 32 long)
    ∙ zip2_splat (λ a b. cond (eqb a b) 255 0) (map (λ b. bit_or b 32) v) 16 pair (length-map v (λ b. bit_or b 32) ∙ long)
    ∙ map-map (λ a. cond (eqb a pair) 255 0) (λ b. bit_or b 32) v)
    (zip2_splat (λ a b. cond (eqb a b) 255 0) v 16 third long)

module _ (test : ℕ → Bool) (pair third : ℕ) (agree : (b : ℕ) → b < 256 → top 7 (lane pair third b) ≡ test b) where
  each_byte : (v : List ℕ) → Each1 (Fits w8) v → map (λ b. top 7 (lane pair third b)) v ≡ map test v
  each_byte [] fits = refl
  each_byte (b ∷ v) fits = ap₂ (λ m ms. m ∷ ms) (agree b fits.0.fits) (each_byte v fits.1)

  marked : (v : List ℕ) → length v ≡ 16 → Each1 (Fits w8) v
      → mask_l (map (top 7) (zip2 bit_or (zip2 (λ a b. cond (eqb a b) 255 0) (zip2 bit_or v (replicate 16 32)) (replicate 16 pair)) (zip2 (λ a b. cond (eqb a b) 255 0) v (replicate 16 third)))) % 2 ^ 64
      ≡ mask_l (map test v)
  marked v long fits =
      ap (λ l. mask_l l % 2 ^ 64) (ap (map (top 7)) (tested pair third v long) ∙ map-map (top 7) (lane pair third) v ∙ each_byte v fits)
      ∙ mask_l-mod (map test v) 64 (omega (arith, length-map v test))

pub opening_marked : (v : List ℕ) → length v ≡ 16 → Each1 (Fits w8) v
    → mask_l (map (top 7) (zip2 bit_or (zip2 (λ a b. cond (eqb a b) 255 0) (zip2 bit_or v (replicate 16 32)) (replicate 16 123)) (zip2 (λ a b. cond (eqb a b) 255 0) v (replicate 16 40)))) % 2 ^ 64
    ≡ mask_l (map is_opening v)
opening_marked = marked is_opening 123 40 (λ b below. agree_below_at (λ x. top 7 (lane 123 40 x)) is_opening 256 b refl below)

pub closing_marked : (v : List ℕ) → length v ≡ 16 → Each1 (Fits w8) v
    → mask_l (map (top 7) (zip2 bit_or (zip2 (λ a b. cond (eqb a b) 255 0) (zip2 bit_or v (replicate 16 32)) (replicate 16 125)) (zip2 (λ a b. cond (eqb a b) 255 0) v (replicate 16 41)))) % 2 ^ 64
    ≡ mask_l (map is_closing v)
closing_marked = marked is_closing 125 41 (λ b below. agree_below_at (λ x. top 7 (lane 125 41 x)) is_closing 256 b refl below)

-- ---- the bits of a mask

-- the highest bit of a number, which is at its logarithm
pub highest_set : (mask place : ℕ) → 2 ^ place ≤ mask → mask < 2 * 2 ^ place → bit_at mask place ≡ 1
highest_set mask place low high =
    let some = pow_pos place in
    let below : mask / 2 ^ place < 2 = (div-lt_iff_lt-mul some).1 high in
    let above : 1 ≤ mask / 2 ^ place = (le-div_iff_mul-le some).1 (omega arith) in
    omega arith

-- no bit above it is set
pub clear_above : (mask place k : ℕ) → mask < 2 * 2 ^ place → place < k → bit_at mask k ≡ 0
clear_above mask place k high less =
    let small : mask < 2 ^ k = omega (arith, two-pow-succ place, pow_mono {i = suc place} {j = k} (omega arith)) in
    ap (λ x. x % 2) (div-eq_of_lt small)

module _ (test : ℕ → Bool) where
  lane_passes : (v : List ℕ) (i : ℕ) → get_or (map test v) i false ≡ true → (i < length v) × (test (get_or v i 0) ≡ true)
  lane_passes [] i is = absurd (cc)
  lane_passes (b ∷ v) zero is = (omega arith, is)
  lane_passes (b ∷ v) (suc i) is = let rest = lane_passes v i is in (omega (arith, rest.0), rest.1)

  lane_fails : (v : List ℕ) (i : ℕ) → i < length v → get_or (map test v) i false ≡ false → test (get_or v i 0) ≡ false
  lane_fails [] i less is = absurd (omega (arith, less))
  lane_fails (b ∷ v) zero less is = is
  lane_fails (b ∷ v) (suc i) less is = lane_fails v i (omega (arith, less)) is

  bit_tells : (b : Bool) → cond {A = ℕ} b 1 0 ≡ 1 → b ≡ true
  bit_tells true is = refl
  bit_tells false is = absurd (omega (arith, is))

  clear_tells : (b : Bool) → cond {A = ℕ} b 1 0 ≡ 0 → b ≡ false
  clear_tells true is = absurd (omega (arith, is))
  clear_tells false is = refl

  -- a bit that is set marks a byte of the set
  pub set_bit : (v : List ℕ) (i : ℕ) → bit_at (mask_l (map test v)) i ≡ 1 → (i < length v) × (test (get_or v i 0) ≡ true)
  set_bit v i is = lane_passes v i (bit_tells _ (sym (bit_mask_l (map test v) i) ∙ is))

  -- one that isn't marks another byte
  pub clear_bit : (v : List ℕ) (i : ℕ) → i < length v → bit_at (mask_l (map test v)) i ≡ 0 → test (get_or v i 0) ≡ false
  clear_bit v i less is = lane_fails v i less (clear_tells _ (sym (bit_mask_l (map test v) i) ∙ is))
