-- The mode and depth of entries, by the number of open blocks.
use Rattle.std.proofs.Common.{◌≡◌, refl, ap, subst, ℕ, suc, ◌+◌, ◌-◌, ◌<◌, ◌≤◌, min, arith}
use Rattle.ufmt_core.specs.Layout.{entry_depth, inside, setting}
use Rattle.ufmt_core.specs.declared.layout.Mode.{Mode}
use Rattle.ufmt_core.specs.declared.layout.Mode.TheVariants.{Plain, Pretty}
use Rattle.ufmt_grammar.proofs.FramesClose.{Fits}
use Rattle.ufmt_parser.specs.Taking.{depth_in, setting_in}

entry_depth-in : (mode : Mode) (blocks : ℕ) → 0 < blocks → blocks ≤ 255 → entry_depth mode (depth_in mode (blocks - 1)) ≡ depth_in mode blocks
entry_depth-in Plain blocks some most = refl
entry_depth-in Pretty blocks some most = let depth : min (blocks - 1 + 1) 255 ≡ blocks = omega arith in depth

-- in a block, entries are laid out as in one block more
pub inside-setting_in : (mode : Mode) (blocks : ℕ) → 0 < blocks → blocks ≤ 255 → inside (setting_in mode (blocks - 1)) ≡ setting_in mode blocks
inside-setting_in mode blocks some most = ap (setting mode) (entry_depth-in mode blocks some most)

-- a block fits there
pub block_fits : (mode : Mode) (blocks : ℕ) → 0 < blocks → blocks ≤ 255 → Fits (setting_in mode (blocks - 1)) 1
block_fits Plain blocks some most = tt
block_fits Pretty blocks some most = omega (arith, some, most)

-- the same, from outside of the block
pub inside-of : (mode : Mode) (blocks : ℕ) → blocks < 255 → inside (setting_in mode blocks) ≡ setting_in mode (suc blocks)
inside-of mode blocks few =
    let outside : suc blocks - 1 ≡ blocks = omega arith in
    subst (λ k. inside (setting_in mode k) ≡ setting_in mode (suc blocks)) outside (inside-setting_in mode (suc blocks) (omega arith) (omega arith))
