-- Plain bytes, seen a vector at a time through the mask of the others.
use Rattle.std.proofs.Common.{◌≡◌, refl, sym, ap, ap₂, ◌∙◌, ℕ, suc, ◌+◌, ◌-◌, ◌%◌, ◌^◌, ◌≤◌, Bool, true, false, not, cond, List, [], ◌∷◌, map, length, take, drop, replicate, leb, eqb, ◌&&◌, bit_or, Fits, w8, arith}
use Rattle.std.proofs.lemmas.Bool.{agree_below_at, eq-eqb, ne_eqb}
use Rattle.std.proofs.lemmas.List.{length-map, take-take}
use Rattle.std.proofs.lemmas.List.Sums.{prefix_len-le-length}
use Rattle.std.proofs.lemmas.Simd.{first_set_mask_l, length-chunk, map-map, mask_l-mod, splat_is_map, zip2_of_maps, zip2_splat}
use Rattle.std.specs.List.{prefix_len}
use Rattle.std.specs.Prelude.{◌≢◌}
use lib.Count.{count_trailing_zeros}
use lib.Lanes.{chunk, mask_l, top, zip2, Each1}
use Rattle.ufmt_parse_leaves.specs.Spelling.{all_plain, is_marked, is_plain}
use Rattle.ufmt_parse_leaves.proofs.PlainFronts.{plain_more}

-- what a lane of the three tests is
abbrev pub lane : ℕ → ℕ
lane b = bit_or (bit_or (cond (leb 95 ((b + (256 - 32)) % 256)) 255 0) (cond (eqb b 34) 255 0)) (cond (eqb b 92) 255 0)

each_byte : (v : List ℕ) → Each1 (Fits w8) v → map (λ b. top 7 (lane b)) v ≡ map is_marked v
each_byte [] fits = refl
each_byte (b ∷ v) fits = ap₂ (λ m ms. m ∷ ms) (agree_below_at (λ x. top 7 (lane x)) is_marked 256 b refl fits.0.fits) (each_byte v fits.1)

-- a bit is set for each byte that isn't plain
pub marked : (v lanes : List ℕ) → length v ≡ 16 → Each1 (Fits w8) v → lanes ≡ map lane v → mask_l (map (top 7) lanes) % 2 ^ 64 ≡ mask_l (map is_marked v)
marked v lanes long fits is =
    ap (λ l. mask_l l % 2 ^ 64) (ap (map (top 7)) is ∙ map-map (top 7) lane v ∙ each_byte v fits) ∙ mask_l-mod (map is_marked v) 64 (omega (arith, length-map v is_marked))

-- the lanes of the three tests
pub tested : (v : List ℕ) → length v ≡ 16
    → zip2 bit_or (zip2 bit_or (zip2 (λ a b. cond (leb a b) 255 0) (replicate 16 95) (zip2 (λ a b. (a + (256 - b)) % 256) v (replicate 16 32)))
    (zip2 (λ a b. cond (eqb a b) 255 0) v (replicate 16 34))) (zip2 (λ a b. cond (eqb a b) 255 0) v (replicate 16 92)) ≡ map lane v
tested v long =
    zip2_of_maps bit_or _ _ v (zip2_of_maps bit_or _ _ v
    (zip2_of_maps (λ a b. cond (leb a b) 255 0) _ _ v (splat_is_map v 16 95 long) (zip2_splat (λ a b. (a + (256 - b)) % 256) v 16 32 long))
    (zip2_splat (λ a b. cond (eqb a b) 255 0) v 16 34 long)) (zip2_splat (λ a b. cond (eqb a b) 255 0) v 16 92 long)

-- the bytes before the first that isn't plain
run_plain : (t : List ℕ) → all_plain (take (prefix_len (λ b. not (is_marked b)) t) t) ≡ true
run_plain [] = refl
run_plain (b ∷ t) = by (is_plain b) refl (run_plain t)
  where
    rest : ℕ
    rest = prefix_len (λ b. not (is_marked b)) t

    by : (plain : Bool) → is_plain b ≡ plain → all_plain (take rest t) ≡ true → all_plain (take (cond (not (not plain)) (1 + rest) 0) (b ∷ t)) ≡ true
    by true is more = let one : 1 + rest ≡ suc rest = omega arith in rw one (ap (λ p. p && all_plain (take rest t)) is ∙ more)
    by false is more = refl

-- plain bytes, and then those of a vector before its first that isn't
module _ (input : List ℕ) (end found : ℕ) (room : end + 16 ≤ length input) (front : all_plain (take end input) ≡ true)
    (is : found ≡ mask_l (map is_marked (chunk end 16 input))) where
  more_plain : (more : ℕ) → more ≡ cond (eqb found 0) 16 (count_trailing_zeros 64 found) → (end + more ≤ length input) × (all_plain (take (end + more) input) ≡ true)
  more_plain more counted =
      let v = chunk end 16 input in
      let long = length-chunk end 16 input room in
      let run : more ≡ prefix_len (λ b. not (is_marked b)) v = counted ∙ ap (λ m. cond (eqb m 0) 16 (count_trailing_zeros 64 m)) is ∙ first_set_mask_l is_marked v 16 long (omega arith) in
      let few = prefix_len-le-length (λ b. not (is_marked b)) v in
      let within : more ≤ 16 = omega arith in
      (omega arith, plain_more end more input front (ap all_plain (sym (take-take more 16 (drop end input) within)) ∙ ap (λ n. all_plain (take n v)) run ∙ run_plain v))

  pub found_in : found ≢ 0 → (end + count_trailing_zeros 64 found ≤ length input) × (all_plain (take (end + count_trailing_zeros 64 found) input) ≡ true)
  found_in some = more_plain (count_trailing_zeros 64 found) (ap (λ b. cond b 16 (count_trailing_zeros 64 found)) (sym (ne_eqb found 0 some)))

  pub whole_plain : found ≡ 0 → (end + 16 ≤ length input) × (all_plain (take (end + 16) input) ≡ true)
  whole_plain none = more_plain 16 (ap (λ b. cond b 16 (count_trailing_zeros 64 found)) (sym (eq-eqb found 0 none)))
