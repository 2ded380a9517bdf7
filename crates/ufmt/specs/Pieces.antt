-- The pieces that `uwrite!` and `pieces!` take, and the text that they print.
use Rattle.std.specs.Prelude.{◌≡◌, ⊤, ℕ, List, [], ◌∷◌, ◌++◌}
use Rattle.ufmt_core.specs.declared.layout.Mode.TheVariants.{Plain, Pretty}
use Rattle.ufmt_core.specs.declared.layout.Setting.{Setting}
use Rattle.ufmt_core.specs.Document.{Document}
use Rattle.ufmt_core.specs.Layout.{layout, setting}
use Rattle.ufmt.specs.declared.column.Column.{Column}
use Rattle.ufmt.specs.Column.{in_column}

-- a piece is a text, a value's document (in the formatter's mode or in pretty mode), a hexadecimal text, or, by mode and depth, a text
-- in a column, or what several pieces print
pub data Piece : Type 0 where
  text : List ℕ → Piece
  shown : Document → Piece
  pretty : Document → Piece
  hex : List ℕ → Piece
  aligned : Column → (Setting → List ℕ) → Piece
  several : (Setting → List ℕ) → Piece

-- what a piece prints at this mode and depth
abbrev pub piece_text : Setting → Piece → List ℕ
piece_text s (text bytes) = bytes
piece_text s (shown d) = layout s d
piece_text s (pretty d) = layout (setting Pretty s.depth) d
piece_text s (hex bytes) = bytes
piece_text s (aligned c bytes) = in_column c (bytes s)
piece_text s (several bytes) = bytes s

-- what pieces print, one after the other
abbrev pub pieces_text : Setting → List Piece → List ℕ
pieces_text s [] = []
pieces_text s (p ∷ ps) = piece_text s p ++ pieces_text s ps

-- pieces in a column, as one
abbrev pub column : Column → List Piece → Piece
column c ps = aligned c (λ s. pieces_text s ps)

-- what pieces print in plain mode, outside every block. Searches don't open it, so they compare lines piece by piece, and not
-- byte by byte
unfoldable pub line_text : List Piece → List ℕ
line_text ps = pieces_text (setting Plain 0) ps

-- as many pieces, each with the same text in plain mode, outside every block
abbrev pub SamePieces : List Piece → List Piece → Type 0
SamePieces [] [] = ⊤
SamePieces [] (p ∷ ps) = ⊥
SamePieces (q ∷ qs) [] = ⊥
SamePieces (q ∷ qs) (p ∷ ps) = (piece_text (setting Plain 0) q ≡ piece_text (setting Plain 0) p) × SamePieces qs ps

-- the pieces of several items, with a text before each
abbrev pub preceded : List ℕ → List (List Piece) → List Piece
preceded between [] = []
preceded between (ps ∷ rest) = text between ∷ (ps ++ preceded between rest)

-- the pieces of several items, with a text between them
abbrev pub separated : List ℕ → List (List Piece) → List Piece
separated between [] = []
separated between (ps ∷ rest) = ps ++ preceded between rest

-- the same as one piece
abbrev pub each : List ℕ → List (List Piece) → Piece
each between items = several (λ s. pieces_text s (separated between items))
