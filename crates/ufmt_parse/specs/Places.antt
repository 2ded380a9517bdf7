-- A place in a text: its line and its column, and a value's text that ends there.
use Rattle.std.specs.Prelude.{◌≡◌, ◌<◌, ◌≤◌, ℕ, ◌+◌, List, [], ◌∷◌, ◌++◌, length, take}
use Rattle.std.specs.Fmt.{char_count}
use Rattle.ufmt_parse.specs.declared.expected.Expected.{Expected}
use Rattle.ufmt.specs.Lines.{lines_of}

-- a place with this text before it is on the last line of that text: both are counted from 1
pub record IsPlaceAfter (before : List ℕ) (line column : ℕ) : Type 0 where
  pub earlier : List (List ℕ)
  pub last : List ℕ
  pub lines : lines_of before ≡ earlier ++ last ∷ []
  pub line_is : line ≡ length earlier + 1
  -- characters of the line before the place
  pub column_is : column ≡ char_count last + 1

-- the text of such a value ends there, and more of the text follows
pub record EndsBefore {T : Type 0} (text_of : T → List ℕ) (is : T → Type 0) (text : List ℕ) (at : ℕ) : Type 0 where
  pub value : T
  pub is_such : is value
  pub before : take at text ≡ text_of value
  pub more : at < length text

-- a text in one piece stops fitting where it begins, and this is expected there
abbrev pub IsPiece : Expected → List ℕ → ℕ → Expected → Type 0
IsPiece kind text at expected = (at ≡ 0) × (expected ≡ kind)

-- a text that begins so stops fitting after this beginning
abbrev pub IsInside : List ℕ → List ℕ → ℕ → Expected → Type 0
IsInside opening text at expected = (u : List ℕ) → text ≡ opening ++ u → length opening ≤ at
