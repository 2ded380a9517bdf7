-- The lines of a text.
use Rattle.std.specs.Prelude.{ℕ, ◌==◌, List}
use Rattle.std.specs.List.{slice_split}
use Rattle.ufmt_core.specs.Bytes.{line_feed}

-- the lines of a text, without the line feeds between them; one more line, which may be empty, follows the last line feed
abbrev pub lines_of : List ℕ → List (List ℕ)
lines_of text = slice_split (λ byte. byte == line_feed) text
