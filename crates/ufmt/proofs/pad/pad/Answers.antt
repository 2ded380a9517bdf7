use Rattle.std.proofs.Common.{arith}
use Rattle.ufmt_core.proofs.Writing.{Prints-then, Prints-fails, Prints-err}
use Rattle.ufmt.proofs.Columns.{bytes-front, bytes-more, bytes-rest}
use Rattle.ufmt.proofs.pad.pad.Goals as goal

pub returns-in_err-write_str : goal.returns-in_err-write_str
returns-in_err-write_str g c =
    rw (bytes-front g.row.BYTE c.loop-piece._piece c.args.count c.loop-piece-test.true)
    (Prints-err _ c.from_residual.ensures.0
    (Prints-fails _ (Prints-then c.loop-piece.invariant (rw c.part.ensures at c.in_err-write_str.ensures.prints))))

pub loop-piece-preserved : goal.loop-piece-preserved
loop-piece-preserved g c =
    rw (bytes-more g.row.BYTE c.loop-piece._piece) (Prints-then c.loop-piece.invariant (rw c.part.ensures at c.in_ok-write_str.ensures.prints))

pub returns-in_default : goal.returns-in_default
returns-in_default g c = rw (bytes-rest g.row.BYTE c.loop-piece._piece c.args.count (omega arith))
    (Prints-then c.loop-piece.invariant (rw c.part-in_default.ensures at c.write_str-in_default.ensures.prints))
