use Rattle.ufmt_core.proofs.Joined.{LaysOut-stops, LaysOut-then}
use Rattle.ufmt_core.proofs.Writing.{LaysOut-err}
use Rattle.ufmt_core.proofs.core_impls.ranges.fmt_after.Goals as goal

pub returns : goal.returns
returns g c = LaysOut-then c.in_ok-write_str.ensures.lays_out c.fmt.ensures

pub returns-in_err-write_str : goal.returns-in_err-write_str
returns-in_err-write_str g c = LaysOut-err _ c.from_residual.ensures.0 (LaysOut-stops _ c.in_err-write_str.ensures.lays_out)
