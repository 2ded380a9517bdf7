use Rattle.ufmt_core.proofs.Joined.{LaysOut-stops, LaysOut-then}
use Rattle.ufmt_core.proofs.Writing.{LaysOut-err}
use Rattle.ufmt_core.proofs.core_impls.ranges.RangeFromuDebug.fmt.Goals as goal

pub returns : goal.returns
returns g c = LaysOut-then c.in_ok-fmt.ensures c.write_str.ensures.lays_out

pub returns-in_err-fmt : goal.returns-in_err-fmt
returns-in_err-fmt g c = LaysOut-err _ c.from_residual.ensures.0 (LaysOut-stops _ c.in_err-fmt.ensures)
