use Rattle.std.proofs.Common.{true, replicate}
use Rattle.ufmt_core.specs.Formatter.{Prints}
use Rattle.ufmt.proofs.hex.HexOptions.write_padding.Given as goal

abbrev pub invariant-loop-pad : goal.invariant-loop-pad
invariant-loop-pad g l = Prints g.W.uWrite.seen l.initial.f (replicate l._pad l.self.pad_char) true l.f
