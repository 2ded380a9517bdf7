use Rattle.std.proofs.Common.{true}
use Rattle.ufmt_core.specs.BuilderView.{WritesRow, entry_text}
use Rattle.ufmt_core.specs.Builder.{view_of}
use Rattle.ufmt_core.proofs.formatter.builder.Builder.entries.Given as goal

abbrev pub invariant-loop-entry : goal.invariant-loop-entry
invariant-loop-entry g l = record {
  can : (goal.iterator-loop-entry g).can_next l.entry-iterator;
  ends : (goal.iterator-loop-entry g).is_finite l.entry-iterator;
  row : WritesRow g.W.uWrite.seen (view_of g.K.BlockKind.kind l.initial.self) (λ x. entry_text (g.D.uDebug.document x)) l.yielded true
      (view_of g.K.BlockKind.kind l.self);
}
