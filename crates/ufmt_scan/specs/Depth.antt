-- The mode and depth of a document's layout, by how many blocks are open around it.
use Rattle.std.specs.Prelude.{ℕ}
use Rattle.ufmt_core.specs.Layout.{setting}
use Rattle.ufmt_core.specs.declared.layout.Mode.{Mode}
use Rattle.ufmt_core.specs.declared.layout.Mode.TheVariants.{Plain, Pretty}
use Rattle.ufmt_core.specs.declared.layout.Setting.{Setting}

-- the depth of a document in so many blocks
abbrev pub depth_in : Mode → ℕ → ℕ
depth_in Plain blocks = 0
depth_in Pretty blocks = blocks

-- the mode and depth of a document in so many blocks
abbrev pub setting_in : Mode → ℕ → Setting
setting_in mode blocks = setting mode (depth_in mode blocks)
