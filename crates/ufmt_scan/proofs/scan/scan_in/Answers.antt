use Rattle.std.proofs.Common.{◌∙◌, sym}
use Rattle.ufmt_scan.proofs.ScanWhole.{whole_ended, whole_goes_on, whole_scanned}
use Rattle.ufmt_scan.proofs.scan.scan_in.Goals as goal

pub returns-in_err-scan_document : goal.returns-in_err-scan_document
returns-in_err-scan_document g c = rw (← c.class.ensures, ← c.mode.ensures) (whole_ended g.S.Sink.took g.S.Sink.stopped c.class.result c.mode.result c.args.input.now _ _ (g.met.S.Sink.begun c.args.sink.now) _ _ _
    c.in_err-scan_document.was c.from_residual.ensures.1 c.scan_document.ensures)

pub returns-then-is_empty : goal.returns-then-is_empty
returns-then-is_empty g c = rw (← c.class.ensures, ← c.mode.ensures) (whole_scanned g.S.Sink.took g.S.Sink.stopped c.class.result c.mode.result c.args.input.now (g.met.S.Sink.begun c.args.sink.now)
    c.in_ok-scan_document.field-0.now c.in_ok-scan_document.ensures (sym c.is_empty.ensures ∙ c.if-is_empty.true))

pub returns-else-is_empty : goal.returns-else-is_empty
returns-else-is_empty g c = rw (← c.class.ensures, ← c.mode.ensures) (whole_goes_on g.S.Sink.took g.S.Sink.stopped c.class.result c.mode.result c.args.input.now (g.met.S.Sink.begun c.args.sink.now)
    c.in_ok-scan_document.field-0.now c.in_ok-scan_document.ensures (sym c.is_empty.ensures ∙ c.if-is_empty.false))
