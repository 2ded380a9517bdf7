-- The stages of the open blocks, by the array of those around the innermost.
use Rattle.std.proofs.Common.{◌≡◌, ◌∙◌, refl, ap, ℕ, suc, ◌+◌, ◌≤◌, List, [], ◌∷◌, get_or, length, reverse, set, take, arith}
use Rattle.std.proofs.lemmas.List.{length-reverse, length-take-le, reverse-append, take_more, take_more_set}
use Rattle.ufmt_scan.specs.declared.scan.OpenBlocks.{OpenBlocks}
use Rattle.ufmt_scan.specs.Private.Scanning.{open_stages, Stage}

abbrev pub blocks_of : ℕ → Stage → OpenBlocks
blocks_of count innermost = record { count = count; innermost = innermost }

module _ (outer : List Stage) (whole : length outer ≡ 256) where
  -- there are as many stages as the count
  pub count_is : (count : ℕ) (stage : Stage) → count ≤ 256 → length (open_stages (blocks_of count stage) outer) ≡ count
  count_is count stage few =
      let around : length (reverse (take count outer)) ≡ count = length-reverse (take count outer) ∙ length-take-le count outer (omega (arith, whole, few)) in
      length-take-le count (stage ∷ reverse (take count outer)) (omega (arith, around))

  -- they are the innermost block's, and those of the blocks around it
  pub innermost_is : (count depth : ℕ) (stage d : Stage) → count ≡ depth + 1 → count ≤ 256
      → open_stages (blocks_of count stage) outer ≡ stage ∷ open_stages (blocks_of depth (get_or outer depth d)) outer
  innermost_is count depth stage d is few =
      let more : count ≡ suc depth = omega (arith, is) in
      let around : reverse (take (suc depth) outer) ≡ get_or outer depth d ∷ reverse (take depth outer) =
      let next : suc depth ≡ depth + 1 = omega arith in
      ap (λ n. reverse (take n outer)) next ∙ ap reverse (take_more outer depth d (omega (arith, whole, is, few))) ∙ reverse-append (take depth outer)
      (get_or outer depth d ∷ []) in
      rw (more, around) refl

  -- the same with one block more, if the array has the stage of the block around it
  pub one_more : (count depth : ℕ) (stage inner : Stage) → count ≡ depth + 1 → count ≤ 256
      → open_stages (blocks_of count inner) (set outer depth stage) ≡ inner ∷ open_stages (blocks_of depth stage) outer
  one_more count depth stage inner is few =
      let more : count ≡ suc depth = omega (arith, is) in
      let around : reverse (take (suc depth) (set outer depth stage)) ≡ stage ∷ reverse (take depth outer) =
      let next : suc depth ≡ depth + 1 = omega arith in
      ap (λ n. reverse (take n (set outer depth stage))) next ∙ ap reverse (take_more_set outer depth stage (omega (arith, whole, is, few)))
      ∙ reverse-append (take depth outer) (stage ∷ []) in
      rw (more, around) refl
