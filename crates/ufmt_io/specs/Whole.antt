-- What a failed call has written of a text.
use Rattle.std.specs.Prelude.{◌≡◌, ℕ, List, ◌++◌, Option}
use Rattle.std.specs.Io.KnownBytes.{Appends}

-- if the bytes of the output are known: they grew by a prefix of the text, perhaps nothing, perhaps all
abbrev pub AppendsPrefix : Option (List ℕ) → Option (List ℕ) → List ℕ → Type 0
AppendsPrefix old new text = (part rest : List ℕ) × (text ≡ part ++ rest) × Appends old new part
