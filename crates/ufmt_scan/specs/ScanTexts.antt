-- The text of each event, as a sink that lays a text out writes it.
use Rattle.std.specs.Prelude.{ℕ, ◌-◌, List, [], ◌∷◌, ◌++◌, codes}
use Rattle.ufmt_core.specs.Layout.{frame, setting, inside, later_lead, trail, lead, line_start}
use Rattle.ufmt_core.specs.declared.layout.Count.TheVariants.{Zero}
use Rattle.ufmt_grammar.specs.Reading.{last_dots}
use Rattle.ufmt_core.specs.declared.layout.Mode.{Mode}
use Rattle.ufmt_core.specs.declared.layout.Mode.TheVariants.{Plain, Pretty}
use Rattle.ufmt_core.specs.declared.layout.Setting.{Setting}
use Rattle.ufmt_scan.specs.Scan.{TextEvent, Leaf, Empty, OnlyDots, Open, FieldName, Colon, Next, Close, Dots}

-- the depth of a block whose entries are at this depth
abbrev pub block_depth : Mode → ℕ → ℕ
block_depth Plain k = k
block_depth Pretty k = k - 1

-- the mode and depth of a block whose entries have this mode and depth
abbrev pub outside : Setting → Setting
outside s = setting s.mode (block_depth s.mode s.depth)

-- the text of an event at this mode and depth
abbrev pub written : Setting → TextEvent → List ℕ
written s (Leaf text) = text
written s (Empty kind) = (frame s.mode kind).opening ++ (frame s.mode kind).closing Zero
written s (OnlyDots name) = name ++ codes " { .. }"
written s (Open kind name) = name ++ ((frame s.mode kind).opening ++ lead (frame s.mode kind) (inside s) Zero)
written s (FieldName text) = text ++ codes ": "
written s Colon = codes ": "
written s Next = trail s.mode ++ later_lead s.mode s.depth
written s (Close kind count) = trail s.mode ++ (line_start s.mode (outside s).depth ++ (frame s.mode kind).closing count)
written s Dots = last_dots (outside s)

-- the mode and depth after an event
abbrev pub setting_after : Setting → TextEvent → Setting
setting_after s (Open kind name) = inside s
setting_after s (Close kind count) = outside s
setting_after s Dots = outside s
setting_after s e = s

-- the text of events, one after another
abbrev pub texts_written : Setting → List TextEvent → List ℕ
texts_written s [] = []
texts_written s (e ∷ es) = written s e ++ texts_written (setting_after s e) es

-- the mode and depth after these events
abbrev pub last_setting : Setting → List TextEvent → Setting
last_setting s [] = s
last_setting s (e ∷ es) = last_setting (setting_after s e) es
