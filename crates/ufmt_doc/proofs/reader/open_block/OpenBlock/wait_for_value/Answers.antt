use Rattle.std.proofs.Common.{[], ap}
use Rattle.ufmt_doc.specs.Doc.{tree_document}
use Rattle.ufmt_doc.specs.Private.OpenBlock.{open_map}
use Rattle.ufmt_doc.proofs.LastEntries.{last_entry}
use Rattle.ufmt_doc.proofs.reader.open_block.OpenBlock.wait_for_value.Goals as goal

pub returns-in-SetOf : goal.returns-in-SetOf
returns-in-SetOf g c =
    let entries = c.in-SetOf.entries in
    rw (c.in-SetOf.is, c.new.ensures.items)
    (ap (open_map []) (last_entry (tree_document g.N.StructName.shown) entries.items _ c.pop-key.result entries.len _ entries.ok.0 c.pop-key.ensures.items c.pop-key.ensures.cases))
