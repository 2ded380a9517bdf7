-- The documents of a pair of `Tree`s, and of a field.
use Rattle.std.specs.Prelude.{ℕ, Bool, List, String, string_bytes}
use Rattle.std.specs.declared.alloc.Global.{Global}
use Rattle.ufmt.specs.Document.{Document}
use Rattle.ufmt_doc.specs.Doc.{tree_document, Tree}

module _ {N : Type 0} (shown : N → List ℕ × Bool) where
  abbrev pub pair_view : Tree N × Tree N → Document × Document
  pair_view pair = (tree_document shown pair.0, tree_document shown pair.1)

  abbrev pub field_view : String Global × Tree N → List ℕ × Document
  field_view field = (string_bytes field.0, tree_document shown field.1)
