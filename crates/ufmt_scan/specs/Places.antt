-- Where a text stops being one of a document.
use Rattle.std.specs.Prelude.{◌≡◌, ◌≤◌, ◌++◌, ℕ, List, length}
use Rattle.ufmt_core.specs.Document.{Document}
use Rattle.ufmt_grammar.specs.declared.class.Class.{Class}
use Rattle.ufmt_grammar.specs.Token.{IsDocument, MayFollow}

-- a place up to which an input was read as a text of a document of the class
pub record ReadsUpTo (class : Class) (text_of : Document → List ℕ) (input : List ℕ) (place : ℕ) : Type 0 where
  pub within : place ≤ length input
  -- of a document's text it is the end
  pub whole : (d : Document) → IsDocument class d → input ≡ text_of d → place ≡ length input
  -- so it is where something comes after a document's text that may follow one
  pub after_document : (d : Document) (rest : List ℕ) → IsDocument class d → MayFollow class rest → input ≡ text_of d ++ rest → place ≡ length (text_of d)
