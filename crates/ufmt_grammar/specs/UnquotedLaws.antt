-- The promise about token documents without quoted leaves: their leaves are words and `()`.
use Rattle.std.specs.Prelude.{◌↔◌, ◌≤◌, ⊤}
use Rattle.ufmt_core.specs.Document.{Document, nest}
use Rattle.ufmt_core.specs.Quoted.{IsQuoted}
use Rattle.ufmt_core.specs.EachText.{EachText}
use Rattle.ufmt_grammar.specs.Token.{IsBuiltFrom, IsWord, IsUnquotedLeaf, IsTokenDocument}

-- no leaf of the document is quoted
abbrev pub IsUnquoted : Document → Type 0
IsUnquoted d = EachText (λ name. ⊤) (λ text. ¬ (IsQuoted text)) d

-- an unquoted token document has only words and `()` as leaves, and its blocks with entries are nested at most 255 deep
abbrev pub IsUnquotedToken : Document → Type 0
IsUnquotedToken d = IsBuiltFrom IsWord IsUnquotedLeaf ⊥ d × (nest d ≤ 255)

-- a document without quoted leaves is a token document exactly if it is an unquoted token document
abbrev pub UnquotedAsBefore : Type 0
UnquotedAsBefore = (d : Document) → IsUnquoted d → IsTokenDocument d ↔ IsUnquotedToken d
