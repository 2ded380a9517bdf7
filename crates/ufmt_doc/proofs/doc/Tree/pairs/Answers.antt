use Rattle.std.proofs.Common.{refl}
use Rattle.ufmt_doc.proofs.Trees.{tree_document-MapOf}
use Rattle.ufmt_doc.proofs.doc.Tree.pairs.Goals as goal

pub returns-in-MapOf : goal.returns-in-MapOf
returns-in-MapOf g c = rw (c.in-MapOf.is, tree_document-MapOf g.N.StructName.shown c.in-MapOf.pairs, c.deref.ensures.value) refl
