use Rattle.std.proofs.Common.{◌<◌, refl}
use Rattle.std.specs.Prelude.{option_map}
use Rattle.ufmt_doc.specs.Doc.{tree_document}
use Rattle.ufmt_doc.proofs.OpenBlocks.{innermost_takes}
use Rattle.ufmt_doc.proofs.reader.open_blocks.OpenBlocks.put.Goals as goal

pub returns-in-Some : goal.returns-in-Some
returns-in-Some g c =
    let shown = g.N.StructName.shown in
    let blocks = c.args.self.now.blocks in
    let some : 0 < blocks.len = c.last_mut.ensures.variant.0 (rw c.in-Some.is refl) in
    innermost_takes shown c.put.result (tree_document shown c.args.doc) (option_map (tree_document shown) c.args.whole.now) blocks.items blocks.len _ _ blocks.ok.0 some
    c.in-Some.ensures.value c.put.ensures
