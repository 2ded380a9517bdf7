use Rattle.std.proofs.Common.{true}
use Rattle.ufmt_core.specs.Layout.{indentation}
use Rattle.ufmt_core.specs.Formatter.{Prints}
use Rattle.ufmt_core.proofs.formatter.Formatter.write_indentation.Given as goal

abbrev pub invariant-loop-indent : goal.invariant-loop-indent
invariant-loop-indent g l = Prints g.W.uWrite.seen l.initial.self (indentation l._indent) true l.self
