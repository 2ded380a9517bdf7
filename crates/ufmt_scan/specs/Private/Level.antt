-- The mode and depth of layout at each level of a scan.
use Rattle.std.specs.Prelude.{ℕ, zero, suc, ◌-◌, None}
use Rattle.ufmt_core.specs.Document.{Document}
use Rattle.ufmt_core.specs.Layout.{inside}
use Rattle.ufmt_core.specs.declared.layout.Setting.{Setting}
use Rattle.ufmt_grammar.specs.declared.class.Class.{Class}
use Rattle.ufmt_grammar.specs.Reading.{Parse, read}
use Rattle.ufmt_scan.specs.Depth.{setting_in}
pub use Rattle.ufmt_scan.specs.declared.level.Level.{Level}

-- the mode and depth at which a document is laid out
abbrev pub setting_at : Level → Setting
setting_at level = setting_in level.mode level.open_blocks

-- what reads an entry of a block at this mode and depth. It reads none at `zero`, where blocks have no entries
abbrev pub entry_at : Class → Setting → ℕ → Parse Document
entry_at class s zero = λ t. None
entry_at class s (suc n) = read class (inside s) n

-- how deep blocks with entries may be nested in a document at this level
abbrev pub budget_of : Level → ℕ
budget_of level = 255 - level.open_blocks

-- what reads an entry of a block at this level
abbrev pub entry_of : Level → Parse Document
entry_of level = entry_at level.class (setting_at level) (budget_of level)
