-- Brackets of which the next byte shows that no block with entries has them.
use Rattle.std.specs.Prelude.{ℕ, ◌==◌, not, if◌then◌else◌, Bool, List}
use Rattle.ufmt.specs.Bytes.{closing_brace, closing_bracket, closing_parenthesis, line_feed, opening_bracket, opening_parenthesis}
use Rattle.ufmt.specs.Leaves.{begins_with}
use Rattle.ufmt_core.specs.declared.layout.Mode.{Mode}
use Rattle.ufmt_core.specs.declared.layout.Mode.TheVariants.{Plain, Pretty}

-- the bracket that closes this one
abbrev pub closing_of : ℕ → ℕ
closing_of bracket = if bracket == opening_parenthesis then closing_parenthesis else if bracket == opening_bracket then closing_bracket else closing_brace

-- whether these bytes after a bracket show it: in a plain text the block is closed there, in a pretty one no line begins
abbrev pub is_without_entries : Mode → ℕ → List ℕ → Bool
is_without_entries Pretty bracket after = begins_with (closing_of bracket) after
is_without_entries Plain bracket after = not (begins_with line_feed after)
