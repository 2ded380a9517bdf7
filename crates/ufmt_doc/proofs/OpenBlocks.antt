-- The open blocks of a vector, the innermost first.
use Rattle.std.proofs.Common.{◌≡◌, ◌∙◌, ap, sym, ℕ, ◌+◌, ◌-◌, ◌<◌, Bool, List, [], ◌∷◌, ◌++◌, get_or, length, map, reverse, set, take, arith, Option, Result, Ok, Err}
use Rattle.std.proofs.lemmas.List.{length-set, map-append, reverse-append, take_all, take_more, take_more_set}
use Rattle.std.specs.Prelude.{OnOk, ⊤}
use Rattle.ufmt.specs.Document.{Document}
use Rattle.ufmt_doc.specs.declared.reader.open_block.OpenBlock.{OpenBlock}
use Rattle.ufmt_doc.specs.Private.OpenBlock.{Block, block_view, blocks_view, changed, entered, put}

module _ {N : Type 0} (shown : N → List ℕ × Bool) where
  -- a block that is put after the open ones is the innermost
  pub one_more : (blocks : List (OpenBlock N)) (block : OpenBlock N) → blocks_view shown (blocks ++ block ∷ []) ≡ block_view shown block ∷ blocks_view shown blocks
  one_more blocks block = ap reverse (map-append (block_view shown) blocks (block ∷ [])) ∙ reverse-append (map (block_view shown) blocks) (block_view shown block ∷ [])

  -- the last block in the vector is the innermost, and with another one in its place the outer blocks stay
  innermost_replaced : (blocks : List (OpenBlock N)) (count : ℕ) (old new : OpenBlock N) → count ≡ length blocks → 0 < count → old ≡ get_or blocks (count - 1) old
      → (outer : List Block) × (blocks_view shown blocks ≡ block_view shown old ∷ outer)
      × (blocks_view shown (set blocks (count - 1) new) ≡ block_view shown new ∷ outer)
  innermost_replaced blocks count old new counted some is =
      let last = count - 1 in
      let within : last < length blocks = omega arith in
      let whole : blocks ≡ take last blocks ++ old ∷ [] =
      sym (take_all (last + 1) blocks (omega arith)) ∙ take_more blocks last old within ∙ ap (λ b. take last blocks ++ b ∷ []) (sym is) in
      let replaced : set blocks last new ≡ take last blocks ++ new ∷ [] =
      sym (take_all (last + 1) (set blocks last new) (omega (arith, length-set blocks last new))) ∙ take_more_set blocks last new within in
      (blocks_view shown (take last blocks), ap (blocks_view shown) whole ∙ one_more (take last blocks) old, ap (blocks_view shown) replaced ∙ one_more (take last blocks) new)

  -- the innermost block changes
  pub innermost_changes : (change : Block → Block) (blocks : List (OpenBlock N)) (count : ℕ) (old new : OpenBlock N) → count ≡ length blocks → 0 < count
      → old ≡ get_or blocks (count - 1) old → block_view shown new ≡ change (block_view shown old)
      → blocks_view shown (set blocks (count - 1) new) ≡ changed change (blocks_view shown blocks)
  innermost_changes change blocks count old new counted some is changes =
      let r = innermost_replaced blocks count old new counted some is in
      r.2 ∙ ap (λ b. b ∷ r.0) changes ∙ ap (changed change) (sym r.1)

  -- a document comes in the innermost block
  pub innermost_takes : {E : Type 0} (outcome : Result (⊤) E) (d : Document) (whole : Option Document) (blocks : List (OpenBlock N)) (count : ℕ) (old new : OpenBlock N)
      → count ≡ length blocks → 0 < count → old ≡ get_or blocks (count - 1) old → OnOk outcome (block_view shown new ≡ entered d (block_view shown old))
      → OnOk outcome (◌≡◌ {A = Option Document × List Block} (whole, blocks_view shown (set blocks (count - 1) new)) (put d (whole, blocks_view shown blocks)))
  innermost_takes (Ok x) d whole blocks count old new counted some is takes =
      let r = innermost_replaced blocks count old new counted some is in
      ap (λ b. (whole, b)) (r.2 ∙ ap (λ b. b ∷ r.0) takes) ∙ ap (λ b. put d (whole, b)) (sym r.1)
  innermost_takes (Err e) d whole blocks count old new counted some is takes = tt
