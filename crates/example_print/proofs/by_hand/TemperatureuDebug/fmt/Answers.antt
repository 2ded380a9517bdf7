use Rattle.ufmt.proofs.Joined.{LaysOut-stops, LaysOut-then}
use Rattle.ufmt.proofs.Printing.{LaysOut-err}
use Rattle.example_print.proofs.by_hand.TemperatureuDebug.fmt.Goals as goal

pub returns-in_err-fmt : goal.returns-in_err-fmt
returns-in_err-fmt g c = LaysOut-err _ c.from_residual.ensures.0 (LaysOut-stops _ c.in_err-fmt.ensures)

pub returns : goal.returns
unfolding lib.Utf8.encode
returns g c = LaysOut-then c.in_ok-fmt.ensures c.write_str.ensures.lays_out
