use Rattle.std.proofs.Common.{true}
use Rattle.ufmt_core.specs.Formatter.{Prints}
use Rattle.ufmt.specs.Column.{fills}
use Rattle.ufmt.proofs.column.Column.write_each_fill.Given as goal

abbrev pub invariant-loop-fill : goal.invariant-loop-fill
invariant-loop-fill g l = Prints g.W.uWrite.seen l.initial.f (fills l.self l._fill) true l.f
