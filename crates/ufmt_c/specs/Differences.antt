-- What the calls that compare two texts return to C.
use Rattle.std.specs.Prelude.{◌≡◌, ℕ, ◌^◌, ◌-◌, min, ℤ, pos, List, [], ◌∷◌, Option, Some, None, codes}
use Rattle.ufmt.specs.Document.{Document}
use Rattle.ufmt.specs.Pieces.{Piece, line_text, shown, text}
use Rattle.ufmt.specs.ValueDocuments.{number, str}
use Rattle.ufmt_c.specs.Calls.{PutsText}
use Rattle.ufmt_snapshot.specs.Difference.{IsFirstDifference}
use Rattle.ufmt_snapshot.specs.declared.difference.Difference.{Difference}

-- a number as a `ptrdiff_t` has it
abbrev pub signed : ℕ → ℤ
signed n = pos (min (2 ^ 63 - 1) n)

-- 0 if the texts are equal, or else the number of the first line in which they differ, from 1 on
pub data LineOfDifference (given stored : List ℕ) (result : ℤ) : Type 0 where
  equal : given ≡ stored → result ≡ pos 0 → LineOfDifference given stored result
  differ : (d : Difference) → IsFirstDifference given stored d → result ≡ signed d.line → LineOfDifference given stored result

-- a line in quotation marks, or `none` of a text that has fewer lines
abbrev pub told_line : {T : Type 0} → (T → Document) → Option T → Piece
told_line document (Some line) = shown (document line)
told_line document None = text (codes "none")

-- the number of the line, and the line in both texts
abbrev pub message_pieces : Difference → List Piece
message_pieces d =
    text (codes "line ") ∷ shown (number d.line) ∷ text (codes " differs\n given: ") ∷ told_line str d.given ∷ text (codes "\nstored: ") ∷ told_line str d.stored ∷ []

-- nothing is written if the texts are equal, or else a message on that line
pub data TellsDifference (given stored old : List ℕ) (result : ℤ) (new : List ℕ) (detail : ℕ) : Type 0 where
  equal : given ≡ stored → PutsText old [] result new detail → TellsDifference given stored old result new detail
  differ : (d : Difference) → IsFirstDifference given stored d → PutsText old (line_text (message_pieces d)) result new detail
      → TellsDifference given stored old result new detail
