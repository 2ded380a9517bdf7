-- Two texts compared line by line, and the message that says where they differ.
use Rattle.std.specs.Prelude.{◌≡◌, ◌≢◌, ℕ, ◌-◌, ◌<◌, List, [], ◌∷◌, ◌++◌, Option, codes, slice_get, take}
use Rattle.std.specs.Option.{option_copied}
use Rattle.ufmt.specs.Document.{Document}
use Rattle.ufmt.specs.Lines.{lines_of}
use Rattle.ufmt.specs.Pieces.{Piece, line_text, shown, text}
use Rattle.ufmt.specs.ValueDocuments.{named_struct, number, option_document, str}
use Rattle.ufmt_snapshot.specs.declared.difference.Difference.{Difference}

-- the line with this number, from 1 on, if the text has so many
abbrev pub line_at : ℕ → List ℕ → Option (List ℕ)
line_at number bytes = slice_get (lines_of bytes) (number - 1)

-- the texts differ in this line, and in no line before it
pub record IsFirstDifference (given stored : List ℕ) (d : Difference) : Type 0 where
  pub from_one : 0 < d.line
  pub same_before : take (d.line - 1) (lines_of given) ≡ take (d.line - 1) (lines_of stored)
  pub given_line : option_copied d.given ≡ line_at d.line given
  pub stored_line : option_copied d.stored ≡ line_at d.line stored
  pub differ : line_at d.line given ≢ line_at d.line stored

abbrev pub difference_document : Difference → Document
difference_document d = named_struct "Difference"
    (("line", number d.line) ∷ ("given", option_document str d.given) ∷ ("stored", option_document str d.stored) ∷ [])

-- the number of the line, and the line in both texts
abbrev pub difference_pieces : Difference → List Piece
difference_pieces d =
    text (codes "line ") ∷ shown (number d.line) ∷ text (codes " differs\n given: ") ∷ shown (option_document str d.given)
    ∷ text (codes "\nstored: ") ∷ shown (option_document str d.stored) ∷ []

-- the difference, and the whole given text
abbrev pub failure_text : Difference → List ℕ → List ℕ
failure_text d given = line_text (difference_pieces d ++ (text (codes "\nThe given text, to be stored if it is right:\n") ∷ text given ∷ []))

-- the message says the first difference of the texts, and the given one
pub record SaysDifference (given stored message : List ℕ) : Type 0 where
  pub difference : Difference
  pub first : IsFirstDifference given stored difference
  pub said : message ≡ failure_text difference given
