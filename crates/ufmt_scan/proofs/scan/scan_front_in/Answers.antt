use Rattle.ufmt_scan.proofs.FrontScans.{front_ended, front_scanned, front_within}
use Rattle.ufmt_scan.proofs.scan.scan_front_in.Goals as goal

pub returns-in_err-rest : goal.returns-in_err-rest
returns-in_err-rest g c = rw (← c.class.ensures, ← c.mode.ensures) (front_ended g.S.Sink.took g.S.Sink.stopped c.class.result c.mode.result c.args.input.now _ _ (g.met.S.Sink.begun c.args.sink.now) _ _ _
    c.in_err-rest.was c.from_residual.ensures.1 c.scan_document.ensures)

pub overflow_sub-result : goal.overflow_sub-result
overflow_sub-result g c = front_within g.S.Sink.took g.S.Sink.stopped c.class.result c.mode.result c.args.input.now (g.met.S.Sink.begun c.args.sink.now)
    c.in_ok-rest.rest.now c.in_ok-rest.ensures

pub returns : goal.returns
returns g c = rw (← c.class.ensures, ← c.mode.ensures) (front_scanned g.S.Sink.took g.S.Sink.stopped c.class.result c.mode.result c.args.input.now (g.met.S.Sink.begun c.args.sink.now)
    c.in_ok-rest.rest.now c.in_ok-rest.ensures)
