use Rattle.std.proofs.Common.{ap, refl, Ok}
use Rattle.std.specs.Prelude.{option_map, ⊤}
use Rattle.ufmt_scan.specs.Scan.{event_now}
use Rattle.ufmt_doc.specs.Doc.{tree_document}
use Rattle.ufmt_doc.proofs.GrowingDocuments.{takes_event}
use Rattle.ufmt_doc.proofs.reader.document_sink.DocumentSinkSink.event.Goals as goal

pub returns-in-Colon : goal.returns-in-Colon
returns-in-Colon g c =
    let old = c.args.self.now in
    let new = record old { blocks = c.wait_for_value.new.self } in
    takes_event g.N.ReadName.says_dots {E = ⊤} g.N.StructName.shown old new (event_now c.args.event) (Ok tt)
    (rw c.in-Colon.is (ap (λ blocks. (option_map (tree_document g.N.StructName.shown) old.whole, blocks)) c.wait_for_value.ensures))

pub returns-in-Next : goal.returns-in-Next
returns-in-Next g c =
    takes_event g.N.ReadName.says_dots {E = ⊤} g.N.StructName.shown c.args.self.now c.args.self.now (event_now c.args.event) (Ok tt) (rw c.in-Next.is refl)

pub returns-in-Leaf : goal.returns-in-Leaf
returns-in-Leaf g c =
    takes_event g.N.ReadName.says_dots g.N.StructName.shown c.args.self.now c.put_leaf.new.self (event_now c.args.event) c.put_leaf.result (rw c.in-Leaf.is c.put_leaf.ensures)

pub returns-in-Empty : goal.returns-in-Empty
returns-in-Empty g c =
    takes_event g.N.ReadName.says_dots g.N.StructName.shown c.args.self.now c.put_empty.new.self (event_now c.args.event) c.put_empty.result (rw c.in-Empty.is c.put_empty.ensures)

pub returns-in-OnlyDots : goal.returns-in-OnlyDots
returns-in-OnlyDots g c =
    takes_event g.N.ReadName.says_dots g.N.StructName.shown c.args.self.now c.put_only_dots.new.self (event_now c.args.event) c.put_only_dots.result (rw c.in-OnlyDots.is c.put_only_dots.ensures)

pub returns-in-Open : goal.returns-in-Open
returns-in-Open g c =
    takes_event g.N.ReadName.says_dots g.N.StructName.shown c.args.self.now c.open.new.self (event_now c.args.event) c.open.result (rw c.in-Open.is c.open.ensures)

pub returns-in-FieldName : goal.returns-in-FieldName
returns-in-FieldName g c =
    takes_event g.N.ReadName.says_dots g.N.StructName.shown c.args.self.now c.name_field.new.self (event_now c.args.event) c.name_field.result (rw c.in-FieldName.is c.name_field.ensures)

pub returns-in-Close : goal.returns-in-Close
returns-in-Close g c =
    takes_event g.N.ReadName.says_dots g.N.StructName.shown c.args.self.now c.close.new.self (event_now c.args.event) c.close.result (rw c.in-Close.is c.close.ensures)

pub returns-in-Dots : goal.returns-in-Dots
returns-in-Dots g c =
    takes_event g.N.ReadName.says_dots g.N.StructName.shown c.args.self.now c.close-in-Dots.new.self (event_now c.args.event) c.close-in-Dots.result (rw c.in-Dots.is c.close-in-Dots.ensures)
