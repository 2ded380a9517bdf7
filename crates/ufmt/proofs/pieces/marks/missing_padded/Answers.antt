use Rattle.std.proofs.Common.{◌∙◌, is_ok}
use Rattle.ufmt.proofs.Columns.{missing_counted}
use Rattle.ufmt.proofs.PaddedWidths.{missing-padded}
use Rattle.ufmt.proofs.pieces.marks.missing_padded.Goals as goal

pub returns-then-pads_of : goal.returns-then-pads_of
returns-then-pads_of g c =
    let counting = c.with_writer-counting in
    let text = g.N.NotationOf.text c.args.value.now in
    let split = c.split_padding-unpadded in
    let counted =
    c.missing_after-missing.ensures
    ∙ missing_counted (text split.result.0) c.args.width (is_ok c.write-printed.result) {old = counting.result} {new = c.write-printed.new.f} {begun = c.new.result}
    counting.ensures.writer c.new.ensures.width c.new.ensures.nothing c.write-printed.ensures in
    rw (c.min.ensures, counted, c.saturating_sub.ensures)
    (missing-padded _ _ c.args.width split.result.1 (split.ensures.length text (c.pads_of.ensures c.if-pads_of.true) c.requires))

pub returns : goal.returns
returns g c =
    let counting = c.with_writer-counting in
    let text = g.N.NotationOf.text c.args.value.now c.args.notation in
    c.missing_after.ensures
    ∙ missing_counted text c.args.width (is_ok c.write-printed-2.result) {old = counting.result} {new = c.write-printed-2.new.f} {begun = c.new.result}
    counting.ensures.writer c.new.ensures.width c.new.ensures.nothing c.write-printed-2.ensures
