-- A text in the other mode.
use Rattle.std.specs.Prelude.{ℕ, List, Option, option_map}
use Rattle.ufmt.specs.Layout.{layout, setting}
use Rattle.ufmt.specs.Reading.{read_text}
use Rattle.ufmt_core.specs.declared.layout.Mode.{Mode}
use Rattle.ufmt_grammar.specs.declared.class.Class.TheVariants.{Debug}
use Rattle.ufmt_scan.specs.Texts.{other_mode}

-- in this mode, the text of the debug documents that have the given text in the other mode, if there are any
unfoldable pub converted : Mode → List ℕ → Option (List ℕ)
converted mode text = option_map (layout (setting mode 0)) (read_text Debug (other_mode mode) text)
