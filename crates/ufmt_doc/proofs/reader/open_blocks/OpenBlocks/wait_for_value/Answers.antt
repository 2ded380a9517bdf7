use Rattle.std.proofs.Common.{◌<◌, refl}
use Rattle.ufmt_doc.specs.Private.OpenBlock.{keyed}
use Rattle.ufmt_doc.proofs.OpenBlocks.{innermost_changes}
use Rattle.ufmt_doc.proofs.reader.open_blocks.OpenBlocks.wait_for_value.Goals as goal

pub returns-in-Some : goal.returns-in-Some
returns-in-Some g c =
    let blocks = c.args.self.now.blocks in
    let some : 0 < blocks.len = c.last_mut.ensures.variant.0 (rw c.in-Some.is refl) in
    innermost_changes g.N.StructName.shown keyed blocks.items blocks.len _ _ blocks.ok.0 some c.in-Some.ensures.value c.wait_for_value.ensures
