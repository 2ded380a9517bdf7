-- The documents that values of type `Tree` are, also as `Doc` and as `DebugDoc`.
use Rattle.std.specs.Prelude.{ℕ, Bool, List, String, map, string_bytes}
use Rattle.std.specs.declared.alloc.Global.{Global}
pub use Rattle.ufmt_doc.specs.declared.doc.Tree.{Tree}
pub use Rattle.ufmt_doc.specs.declared.doc.struct_name.DebugName.{DebugName}
use Rattle.ufmt_doc.specs.declared.doc.Tree.TheOpen.{Tree-F, Leaf, Listed, SetOf, MapOf, StructOf, TupleOf}
use Rattle.ufmt_doc.specs.declared.doc.Tree.TheFolds.{fold-Tree}
use Rattle.ufmt.specs.Document.{Document, leaf, list_of, set_of, map_of, tuple_of, documents, pairs_of, fields_of}
use Rattle.ufmt_doc.specs.StructNames.{debug_name, named_struct, plain_name}

-- by what names of structs show
module _ {N : Type 0} (shown : N → List ℕ × Bool) where
  -- a leaf, or a block whose entries are documents already
  abbrev pub document_step : Tree-F N Document → Document
  document_step (Leaf text) = leaf (string_bytes text)
  document_step (Listed entries) = list_of (documents entries.items)
  document_step (SetOf entries) = set_of (documents entries.items)
  document_step (MapOf entries) = map_of (pairs_of entries.items)
  document_step (StructOf name fields) = named_struct (shown name) (fields_of (map (λ f. (string_bytes f.0, f.1)) fields.items))
  document_step (TupleOf name fields) = tuple_of (string_bytes name) (documents fields.items)

  -- the document that a `Tree` is
  abbrev pub tree_document : Tree N → Document
  tree_document = fold-Tree N Document document_step

-- the document that a `Doc` is
abbrev pub doc_document : Tree (String Global) → Document
doc_document = tree_document plain_name

-- the document that a `DebugDoc` is
abbrev pub debug_document : Tree DebugName → Document
debug_document = tree_document debug_name
