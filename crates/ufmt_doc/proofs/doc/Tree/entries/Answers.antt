use Rattle.std.proofs.Common.{inl, inr, ap, refl, ◌∙◌}
use Rattle.ufmt_doc.specs.Doc.{tree_document}
use Rattle.ufmt_doc.proofs.Trees.{tree_document-Listed, tree_document-SetOf, tree_document-TupleOf}
use Rattle.ufmt_doc.proofs.doc.Tree.entries.Goals as goal

pub returns-in-Listed : goal.returns-in-Listed
returns-in-Listed g c =
    let shown = g.N.StructName.shown in
    elim c.in-Listed.is [
      | inl is ↦ rw (ap (tree_document shown) is ∙ tree_document-Listed shown c.in-Listed.entries, c.deref.ensures.value) refl
      | inr (inl is) ↦ rw (ap (tree_document shown) is ∙ tree_document-SetOf shown c.in-Listed.entries, c.deref.ensures.value) refl
      | inr (inr is) ↦ rw (ap (tree_document shown) is.1 ∙ tree_document-TupleOf shown _ c.in-Listed.entries, c.deref.ensures.value) refl
    ]
