use Rattle.std.proofs.Common.{◌*◌, true, replicate}
use Rattle.ufmt_core.specs.Formatter.{Prints}
use Rattle.ufmt.proofs.pad.pad.Given as goal

abbrev pub invariant-loop-piece : goal.invariant-loop-piece
invariant-loop-piece g l = Prints g.W.uWrite.seen l.initial.f (replicate (64 * l._piece) g.row.BYTE) true l.f
