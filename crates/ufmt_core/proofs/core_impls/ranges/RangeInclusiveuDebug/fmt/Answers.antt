use Rattle.std.proofs.Common.{sym}
use Rattle.ufmt_core.proofs.Joined.{LaysOut-nothing, LaysOut-stops, LaysOut-then}
use Rattle.ufmt_core.proofs.Writing.{LaysOut-err}
use Rattle.ufmt_core.proofs.core_impls.ranges.RangeInclusiveuDebug.fmt.Goals as goal

pub returns-in_err-fmt_between : goal.returns-in_err-fmt_between
returns-in_err-fmt_between g c =
    rw (sym c.start.ensures, sym c.end.ensures) (LaysOut-err _ c.from_residual.ensures.0 (LaysOut-stops _ c.in_err-fmt_between.ensures))

pub returns-then-is_spent : goal.returns-then-is_spent
returns-then-is_spent g c =
    rw (sym c.is_spent.ensures, c.if-is_spent.true, sym c.start.ensures, sym c.end.ensures)
    (LaysOut-then c.in_ok-fmt_between.ensures c.write_str.ensures.lays_out)

pub returns-else-is_spent : goal.returns-else-is_spent
returns-else-is_spent g c =
    rw (sym c.is_spent.ensures, c.if-is_spent.false, sym c.start.ensures, sym c.end.ensures)
    (LaysOut-then c.in_ok-fmt_between.ensures (LaysOut-nothing _))
