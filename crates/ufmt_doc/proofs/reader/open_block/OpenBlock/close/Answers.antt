use Rattle.std.proofs.Common.{refl}
use Rattle.ufmt_doc.proofs.Trees.{tree_document-StructOf}
use Rattle.ufmt_doc.proofs.reader.open_block.OpenBlock.close.Goals as goal

pub returns-in-StructOf : goal.returns-in-StructOf
returns-in-StructOf g c = rw (c.in-StructOf.is, tree_document-StructOf g.N.StructName.shown c.read_name.result c.in-StructOf.fields, c.read_name.ensures) refl
