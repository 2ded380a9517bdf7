use Rattle.std.proofs.Common.{take, true}
use Rattle.ufmt.specs.BuilderView.{IsOpen, WritesRow, pair_text}
use Rattle.ufmt.specs.Builder.{map_view}
use Rattle.ufmt.specs.ValueDocuments.{number}
use Rattle.example_print.proofs.by_hand.PortsuDebug.fmt.Given as goal

abbrev pub invariant-loop-port : goal.invariant-loop-port
invariant-loop-port g l = record {
  is_open : IsOpen (map_view l.map);
  row : WritesRow g.W.uWrite.seen (map_view l.initial.map) (λ p. pair_text (number p.number) (g.T.uDebug.document p.user))
      (take l.port-index l.port-items) true (map_view l.map);
}
