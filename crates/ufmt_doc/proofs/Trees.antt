-- The document of a `Tree`, by its variants.
use Rattle.std.proofs.Common.{◌≡◌, ℕ, Bool, List, map, ap, sym, ◌∙◌, String, Global}
use Rattle.std.proofs.lemmas.Simd.{map-map}
use Rattle.std.specs.Prelude.{string_bytes}
use Rattle.ufmt.specs.Document.{Document, leaf, list_of, set_of, map_of, tuple_of, documents, pairs_of, fields_of}
use Rattle.ufmt_doc.specs.declared.doc.Tree.TheFolds.{fold-roll-Tree}
use Rattle.ufmt_doc.specs.declared.doc.Tree.TheVariants.{Leaf, Listed, SetOf, MapOf, StructOf, TupleOf, rolls-Leaf, rolls-Listed, rolls-SetOf, rolls-MapOf, rolls-StructOf, rolls-TupleOf}
use Rattle.ufmt_doc.specs.Doc.{document_step, tree_document, Tree}
use Rattle.ufmt_doc.specs.DocViews.{field_view, pair_view}
use Rattle.ufmt_doc.specs.StructNames.{named_struct}

module _ {N : Type 0} (shown : N → List ℕ × Bool) where
  pub tree_document-Leaf : (text : _) → tree_document shown (Leaf text) ≡ leaf (string_bytes text)
  tree_document-Leaf text = ap (tree_document shown) (sym (rolls-Leaf text)) ∙ fold-roll-Tree N Document (document_step shown) _

  pub tree_document-Listed : (entries : _) → tree_document shown (Listed entries) ≡ list_of (documents (map (tree_document shown) entries.items))
  tree_document-Listed entries = ap (tree_document shown) (sym (rolls-Listed entries)) ∙ fold-roll-Tree N Document (document_step shown) _

  pub tree_document-SetOf : (entries : _) → tree_document shown (SetOf entries) ≡ set_of (documents (map (tree_document shown) entries.items))
  tree_document-SetOf entries = ap (tree_document shown) (sym (rolls-SetOf entries)) ∙ fold-roll-Tree N Document (document_step shown) _

  pub tree_document-MapOf : (entries : _) → tree_document shown (MapOf entries) ≡ map_of (pairs_of (map (pair_view shown) entries.items))
  tree_document-MapOf entries = ap (tree_document shown) (sym (rolls-MapOf entries)) ∙ fold-roll-Tree N Document (document_step shown) _

  pub tree_document-StructOf : (name fields : _)
      → tree_document shown (StructOf name fields) ≡ named_struct (shown name) (fields_of (map (field_view shown) fields.items))
  tree_document-StructOf name fields = ap (tree_document shown) (sym (rolls-StructOf name fields)) ∙ fold-roll-Tree N Document (document_step shown) _
      ∙ ap (λ fs. named_struct (shown name) (fields_of fs))
      (map-map (λ (f : String Global × Document). (string_bytes f.0, f.1)) (λ (f : String Global × Tree N). (f.0, tree_document shown f.1)) fields.items)

  pub tree_document-TupleOf : (name fields : _) → tree_document shown (TupleOf name fields) ≡ tuple_of (string_bytes name) (documents (map (tree_document shown) fields.items))
  tree_document-TupleOf name fields = ap (tree_document shown) (sym (rolls-TupleOf name fields)) ∙ fold-roll-Tree N Document (document_step shown) _

-- the document of each variant
pub ruleset trees = (tree_document-Leaf, tree_document-Listed, tree_document-SetOf, tree_document-MapOf, tree_document-StructOf, tree_document-TupleOf)
