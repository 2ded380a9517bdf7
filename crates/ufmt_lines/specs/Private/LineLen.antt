-- How long the first line of a text is.
use Rattle.std.specs.Prelude.{ℕ, suc, ◌==◌, Bool, if◌then◌else◌, List, [], ◌∷◌}
use Rattle.ufmt.specs.Bytes.{line_feed}

abbrev pub is_line_feed : ℕ → Bool
is_line_feed byte = byte == line_feed

-- how many bytes come before the first line feed, or in all
abbrev pub line_len : List ℕ → ℕ
line_len [] = 0
line_len (c ∷ t) = if is_line_feed c then 0 else suc (line_len t)
