use Rattle.std.proofs.Common.{arith}
use Rattle.ufmt_core.proofs.Writing.{Prints-then, Prints-fails, Prints-err}
use Rattle.ufmt.proofs.Columns.{fills-front, fills-more}
use Rattle.ufmt.proofs.column.Column.write_each_fill.Goals as goal

pub returns-in_err-write_char : goal.returns-in_err-write_char
returns-in_err-write_char g c =
    rw (fills-front c.args.self.now c.loop-fill._fill c.args.count (omega arith))
    (Prints-err _ c.from_residual.ensures.0 (Prints-fails _ (Prints-then c.loop-fill.invariant c.in_err-write_char.ensures.prints)))

pub loop-fill-preserved : goal.loop-fill-preserved
loop-fill-preserved g c = rw (fills-more c.args.self.now c.loop-fill._fill) (Prints-then c.loop-fill.invariant c.in_ok-write_char.ensures.prints)
