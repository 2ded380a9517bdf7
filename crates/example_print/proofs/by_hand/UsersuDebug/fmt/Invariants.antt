use Rattle.std.proofs.Common.{take, true}
use Rattle.ufmt.specs.BuilderView.{IsOpen, WritesRow, entry_text}
use Rattle.ufmt.specs.Builder.{list_view}
use Rattle.example_print.proofs.by_hand.UsersuDebug.fmt.Given as goal

abbrev pub invariant-loop-port : goal.invariant-loop-port
invariant-loop-port g l = record {
  is_open : IsOpen (list_view l.list);
  row : WritesRow g.W.uWrite.seen (list_view l.initial.list) (λ p. entry_text (g.T.uDebug.document p.user))
      (take l.port-index l.port-items) true (list_view l.list);
}
