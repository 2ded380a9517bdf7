use Rattle.std.proofs.Common.{ap, is_ok, sym, true}
use Rattle.ufmt.specs.Builder.{list_view}
use Rattle.ufmt.proofs.Printing.{LaysOut-err, WritesRow-next, WritesRow-none, entry_between, entry_not_begun, failed, finished, is_list, loop_ended, loop_next, not_opened, opened, texts-of, written}
use Rattle.example_print.proofs.by_hand.UsersuDebug.fmt.Goals as goal

pub returns-in_err-list : goal.returns-in_err-list
returns-in_err-list g c = not_opened is_list _ c.from_residual.ensures.0 c.in_err-list.was c.debug_list.follows.holds-at-none

pub loop-port-init : goal.loop-port-init
loop-port-init g c = record {
  is_open = c.in_ok-list.ensures.is_open;
  row = WritesRow-none _ _ c.in_ok-list.ensures.is_open;
}

pub returns-in_err-begin_entry : goal.returns-in_err-begin_entry
returns-in_err-begin_entry g c =
    rw (sym c.deref-port-items.ensures.value) (LaysOut-err _ c.from_residual-in_err-begin_entry.ensures.0
    (opened is_list c.in_ok-list.ensures.opening
    (failed (loop_next _ (texts-of (λ p. g.T.uDebug.document p.user) _)
    c.loop-port.port-index c.loop-port-test.true c.port-item.is c.loop-port.invariant.row
    (entry_not_begun c.in_err-begin_entry.was c.begin_entry.follows.holds-at-none)) (search))))

pub returns-in_err-end_entry : goal.returns-in_err-end_entry
returns-in_err-end_entry g c =
    rw (sym c.deref-port-items.ensures.value) (LaysOut-err _ c.from_residual-in_err-end_entry.ensures.0
    (opened is_list c.in_ok-list.ensures.opening
    (failed (loop_next _ (texts-of (λ p. g.T.uDebug.document p.user) _)
    c.loop-port.port-index c.loop-port-test.true c.port-item.is c.loop-port.invariant.row
    (entry_between (list_view c.loop-port.list) c.loop-port.invariant.is_open.1 (ap list_view (c.begin_entry.follows.holds _
    (ap is_ok c.in_ok-begin_entry.was))) c.in_ok-begin_entry.ensures.lead c.fmt-outcome.ensures c.in_err-end_entry.ensures.end)) (search))))

pub loop-port-preserved : goal.loop-port-preserved
loop-port-preserved g c = record {
  is_open = c.in_ok-end_entry.ensures.is_open;
  row = WritesRow-next _ _ c.loop-port.port-index _ true c.loop-port-test.true c.port-item.is c.loop-port.invariant.row
      (entry_between (list_view c.loop-port.list) c.loop-port.invariant.is_open.1
      (ap list_view (c.begin_entry.follows.holds _ (ap is_ok c.in_ok-begin_entry.was))) c.in_ok-begin_entry.ensures.lead c.fmt-outcome.ensures c.in_ok-end_entry.ensures.end);
}

pub returns : goal.returns
returns g c =
    rw (sym c.deref-port-items.ensures.value)
    (opened is_list c.in_ok-list.ensures.opening
    (written (loop_ended _ (texts-of (λ p. g.T.uDebug.document p.user) _)
    c.loop-port.port-index c.loop-port-test.false c.loop-port.invariant.row) (finished c.finish.ensures (search))))
