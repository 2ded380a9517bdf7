use Rattle.std.proofs.Common.{sym, true}
use Rattle.ufmt.specs.ValueDocuments.{number}
use Rattle.ufmt.proofs.Printing.{LaysOut-err, WritesRow-next, WritesRow-none, failed, finished, is_map, loop_ended, loop_next, not_opened, opened, pair_texts-of, written}
use Rattle.example_print.proofs.by_hand.PortsuDebug.fmt.Goals as goal

pub returns-in_err-map : goal.returns-in_err-map
returns-in_err-map g c = not_opened is_map _ c.from_residual.ensures.0 c.in_err-map.was c.debug_map.follows.holds-at-none

pub loop-port-init : goal.loop-port-init
loop-port-init g c = record {
  is_open = c.in_ok-map.ensures.is_open;
  row = WritesRow-none _ _ c.in_ok-map.ensures.is_open;
}

pub returns-in_err-entry : goal.returns-in_err-entry
returns-in_err-entry g c =
    rw (sym c.deref-port-items.ensures.value) (LaysOut-err _ c.from_residual-in_err-entry.ensures.0
    (opened is_map c.in_ok-map.ensures.opening (failed (loop_next _ (pair_texts-of (λ p. number p.number) (λ p. g.T.uDebug.document p.user) _)
    c.loop-port.port-index c.loop-port-test.true c.port-item.is c.loop-port.invariant.row c.in_err-entry.ensures.entry) (search))))

pub loop-port-preserved : goal.loop-port-preserved
loop-port-preserved g c = record {
  is_open = c.in_ok-entry.ensures.is_open;
  row = WritesRow-next _ _ c.loop-port.port-index _ true c.loop-port-test.true c.port-item.is c.loop-port.invariant.row c.in_ok-entry.ensures.entry;
}

pub returns : goal.returns
returns g c =
    rw (sym c.deref-port-items.ensures.value)
    (opened is_map c.in_ok-map.ensures.opening (written (loop_ended _ (pair_texts-of (λ p. number p.number) (λ p. g.T.uDebug.document p.user) _)
    c.loop-port.port-index c.loop-port-test.false c.loop-port.invariant.row) (finished c.finish.ensures (search))))
