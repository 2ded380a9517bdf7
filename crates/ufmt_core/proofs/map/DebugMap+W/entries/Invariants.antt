use Rattle.std.proofs.Common.{true}
use Rattle.ufmt_core.specs.BuilderView.{WritesRow, pair_text}
use Rattle.ufmt_core.specs.Builder.{map_view}
use Rattle.ufmt_core.proofs.map.DebugMap+W.entries.Given as goal

abbrev pub invariant-loop-key : goal.invariant-loop-key
invariant-loop-key g l = record {
  can : (goal.iterator-loop-key g).can_next l.key-iterator;
  ends : (goal.iterator-loop-key g).is_finite l.key-iterator;
  row : WritesRow g.W.uWrite.seen (map_view l.initial.self)
      (λ x. pair_text (g.K.uDebug.document x.0) (g.V.uDebug.document x.1)) l.yielded true (map_view l.self);
}
