-- The lines that are left of a text, and what cuts one off.
use Rattle.std.specs.Prelude.{◌≡◌, ℕ, List, [], ◌∷◌, Option, None, Some}
use Rattle.ufmt.specs.Lines.{lines_of}

-- the lines of what is left of a text, if anything is
abbrev pub lines_left : Option (List ℕ) → List (List ℕ)
lines_left None = []
lines_left (Some bytes) = lines_of bytes

-- a line was cut off, or no line is left
abbrev pub CutsLine : Option (List ℕ) → Option (List ℕ) → Option (List ℕ) → Type 0
CutsLine left None rest = (lines_left left ≡ []) × (lines_left rest ≡ [])
CutsLine left (Some line) rest = lines_left left ≡ line ∷ lines_left rest
