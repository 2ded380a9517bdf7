use Rattle.std.proofs.Common.{refl}
use Rattle.ufmt_doc.proofs.StructNames.{fields_part-named_struct}
use Rattle.ufmt_doc.proofs.Trees.{tree_document-StructOf}
use Rattle.ufmt_doc.proofs.doc.Tree.fields.Goals as goal

pub returns-in-StructOf : goal.returns-in-StructOf
returns-in-StructOf g c =
    let shown = g.N.StructName.shown in
    rw (c.in-StructOf.is, tree_document-StructOf shown c.in-StructOf.field-0 c.in-StructOf.fields, fields_part-named_struct (shown c.in-StructOf.field-0) _, c.deref.ensures.value) refl
