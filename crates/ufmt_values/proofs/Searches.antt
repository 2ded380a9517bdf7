-- The first and the last byte of a text that a set has, found by masks of sixteen bytes.
use Rattle.std.proofs.Common.{◌≡◌, ◌≢◌, sym, ap, ◌∙◌, ℕ, ◌+◌, ◌-◌, ◌*◌, ◌^◌, ◌<◌, ◌≤◌, Bool, true, false, not, List, drop, map, length, length-drop, reverse, get_or, w64, arith, ⊎_elim}
use Rattle.std.proofs.lemmas.Bool.{cases_lt, not-false, not-true}
use Rattle.std.proofs.lemmas.List.{get_or-drop, get_or-reverse, length-map, length-reverse}
use Rattle.std.proofs.lemmas.List.Elements.{All-from_get_or}
use Rattle.std.proofs.lemmas.List.Sums.{position_or_len_is, prefix_len_passes, prefix_len_stops, suffix_len-le-length, suffix_len_is}
use Rattle.std.proofs.lemmas.Nat.Bits.{bit_at-trailing_zeros}
use Rattle.std.proofs.lemmas.Simd.{get_or-chunk, length-chunk, mask_l-lt, none_from_empty_mask}
use Rattle.std.specs.Int.{bit_at, trailing_zeros}
use Rattle.std.specs.List.{All, position_or_len, suffix_len}
use Rattle.ufmt_values.proofs.SetLanes.{clear_above, clear_bit, highest_set, set_bit}
use lib.Lanes.{chunk, mask_l}

module _ (test : ℕ → Bool) (text : List ℕ) where
  -- the set has none of the bytes from `low` on and before `high`
  abbrev pub None : ℕ → ℕ → Type 0
  None low high = (k : ℕ) → low ≤ k → k < high → test (get_or text k 0) ≡ false

  -- a byte of the set is the first one if none is before it
  pub first_is : (at : ℕ) → at ≤ length text → None 0 at → (at < length text → test (get_or text at 0) ≡ true) → at ≡ position_or_len test text
  first_is at within none passes = sym (position_or_len_is test text at 0 within (λ k less. none k (omega arith) less) passes)

  -- a byte of the set is the last one if none is after it
  pub last_is : (end : ℕ) → end ≤ length text → None end (length text) → (0 < end → test (get_or text (end - 1) 0) ≡ true) → end ≡ length text - suffix_len (λ b. not (test b)) text
  last_is end within none passes =
      let after = suffix_len_is (λ b. not (test b)) text end 0 within (λ k from less. ap not (none k from less)) (λ some. ap not (passes some)) in
      omega (arith, after, within)

  -- how many bytes there are up to the last byte of the set, and with it
  abbrev pub last_end : ℕ
  last_end = length text - suffix_len (λ b. not (test b)) text

  none_after_last : None last_end (length text)
  none_after_last k from less =
      let back = length text - 1 - k in
      let few = suffix_len-le-length (λ b. not (test b)) text in
      let place : length text - 1 - back ≡ k = omega (arith, less) in
      let is = get_or-reverse text back 0 (omega (arith, less)) in
      not-true (test (get_or text k 0)) (ap (λ i. not (test (get_or text i 0))) (sym place) ∙ ap (λ b. not (test b)) (sym is)
      ∙ prefix_len_passes (λ b. not (test b)) (reverse text) back 0 (omega (arith, from, less, few)))

  -- the set has none of the bytes after these
  pub rest_has_none : All (λ b. test b ≡ false) (drop last_end text)
  rest_has_none =
      let left = length-drop last_end text in
      All-from_get_or (λ b. test b ≡ false) (drop last_end text) 0 (λ i less.
      let low : last_end ≤ last_end + i = omega arith in
      ap test (get_or-drop last_end text i 0) ∙ none_after_last (last_end + i) low (omega (arith, left, less)))

  -- if there are any, the set has the last of these
  pub last_is_of_set : 0 < last_end → test (get_or text (last_end - 1) 0) ≡ true
  last_is_of_set some =
      let count = suffix_len (λ b. not (test b)) text in
      let long = length-reverse text in
      let place : length text - 1 - count ≡ last_end - 1 = omega arith in
      let is = get_or-reverse text count 0 (omega (arith, some)) in
      not-false (test (get_or text (last_end - 1) 0)) (ap (λ i. not (test (get_or text i 0))) (sym place) ∙ ap (λ b. not (test b)) (sym is)
      ∙ prefix_len_stops (λ b. not (test b)) (reverse text) 0 (omega (arith, some, long)))

  -- sixteen bytes of the text, and their mask
  module _ (at mask : ℕ) (room : at + 16 ≤ length text) (is : mask ≡ mask_l (map test (chunk at 16 text))) where
    -- if the mask is 0, the set has none of them
    pub none_marked : mask ≡ 0 → None at (at + 16)
    none_marked empty = none_from_empty_mask test text at 16 0 room (sym is ∙ empty)

    -- a bit is 1 if the set has its byte, and 0 if it doesn't
    marks_one : (i : ℕ) → bit_at mask i ≡ 1 → (i < 16) × (test (get_or text (at + i) 0) ≡ true)
    marks_one i set =
        let found = set_bit test (chunk at 16 text) i (ap (λ m. bit_at m i) (sym is) ∙ set) in
        let long = length-chunk at 16 text room in
        let below : i < 16 = omega (arith, found.0, long) in
        (below, ap test (sym (get_or-chunk at 16 text i 0 below)) ∙ found.1)

    marks_none : (i : ℕ) → i < 16 → bit_at mask i ≡ 0 → test (get_or text (at + i) 0) ≡ false
    marks_none i below clear =
        let long = length-chunk at 16 text room in
        ap test (sym (get_or-chunk at 16 text i 0 below)) ∙ clear_bit test (chunk at 16 text) i (omega (arith, long, below)) (ap (λ m. bit_at m i) (sym is) ∙ clear)

    few_bits : mask < 2 ^ 64
    few_bits =
        let long : length (map test (chunk at 16 text)) ≡ 16 = length-map (chunk at 16 text) test ∙ length-chunk at 16 text room in
        let less : mask_l (map test (chunk at 16 text)) < 2 ^ 16 = rw long at (mask_l-lt (map test (chunk at 16 text))) in
        omega (arith, less, is)

    -- the lowest bit that is 1 is for the first byte of the set
    pub first_marked : mask ≢ 0 → None 0 at → (at + trailing_zeros w64 mask ≤ length text) × (at + trailing_zeros w64 mask ≡ position_or_len test text)
    first_marked some before =
        let bits = bit_at-trailing_zeros w64 mask (omega (arith, some)) few_bits in
        let low = trailing_zeros w64 mask in
        let found = marks_one low bits.1 in
        let within : at + low ≤ length text = omega (arith, found.0, room) in (
          within,
          first_is (at + low) within (λ k from less.
              ⊎_elim (λ left. before k from left) (λ right.
              let place : at + (k - at) ≡ k = omega arith in
              rw place at (marks_none (k - at) (omega (arith, less, found.0)) (bits.2 (k - at) (omega arith)))) (cases_lt k at)) (λ _. found.1),
        )

    -- the highest bit that is 1 is for the last one
    pub last_marked : (high : ℕ) → 2 ^ high ≤ mask → mask < 2 * 2 ^ high → None (at + 16) (length text)
        → (high < 16) × (at + 1 + high ≡ length text - suffix_len (λ b. not (test b)) text)
    last_marked high low above after =
        let found = marks_one high (highest_set mask high low above) in
        let before : at + 1 + high - 1 ≡ at + high = omega arith in (
          found.0,
          last_is (at + 1 + high) (omega (arith, found.0, room)) (λ k from less.
              ⊎_elim (λ left.
              let place : at + (k - at) ≡ k = omega arith in
              rw place at (marks_none (k - at) (omega arith) (clear_above mask high (k - at) above (omega arith)))) (λ right. after k right less) (cases_lt k (at + 16)))
              (λ _. rw before found.1),
        )
