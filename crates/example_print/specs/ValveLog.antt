-- The line that says the state of a valve.
use Rattle.std.specs.Prelude.{ℕ, List, [], ◌∷◌, Bool, codes, if◌then◌else◌}
use Rattle.ufmt.specs.Document.{leaf}
use Rattle.ufmt.specs.Pieces.{Piece, line_text, shown, text}
use Rattle.ufmt.specs.ValueDocuments.{number}

-- its number, whether it is open, and a line feed
abbrev pub valve_pieces : ℕ → Bool → List Piece
valve_pieces id is_open =
    text (codes "valve ") ∷ shown (number id) ∷ text (codes " open=") ∷ shown (leaf (if is_open then codes "true" else codes "false")) ∷ text (codes "\n") ∷ []

abbrev pub valve_line : ℕ → Bool → List ℕ
valve_line id is_open = line_text (valve_pieces id is_open)
