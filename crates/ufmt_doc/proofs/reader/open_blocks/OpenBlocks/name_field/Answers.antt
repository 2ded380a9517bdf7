use Rattle.std.proofs.Common.{◌<◌, refl, string_bytes}
use Rattle.ufmt_doc.specs.Private.OpenBlock.{field_named}
use Rattle.ufmt_doc.proofs.OpenBlocks.{innermost_changes}
use Rattle.ufmt_doc.proofs.reader.open_blocks.OpenBlocks.name_field.Goals as goal

pub returns-in-Some : goal.returns-in-Some
returns-in-Some g c =
    let blocks = c.args.self.now.blocks in
    let some : 0 < blocks.len = c.last_mut.ensures.variant.0 (rw c.in-Some.is refl) in
    innermost_changes g.N.StructName.shown (field_named (string_bytes c.args.name)) blocks.items blocks.len _ _ blocks.ok.0 some c.in-Some.ensures.value c.name_field.ensures
