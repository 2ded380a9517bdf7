use Rattle.ufmt.proofs.Printing.{finished, is_tuple, not_opened, opened}
use Rattle.test_rows.proofs.by_builders.ParensuDebug.fmt.Goals as goal

pub returns-in_err-f : goal.returns-in_err-f
returns-in_err-f g c = not_opened is_tuple _ c.from_residual.ensures.0 c.in_err-f.was c.debug_tuple.follows.holds-at-none

pub returns : goal.returns
returns g c = opened is_tuple c.in_ok-f.ensures.opening (finished c.finish.ensures (search))
