use Rattle.ufmt.proofs.Printing.{finished, is_struct, not_opened, opened}
use Rattle.test_rows.proofs.by_builders.BracesuDebug.fmt.Goals as goal

pub returns-in_err-f : goal.returns-in_err-f
returns-in_err-f g c = not_opened is_struct _ c.from_residual.ensures.0 c.in_err-f.was c.debug_struct.follows.holds-at-none

pub returns : goal.returns
returns g c = opened is_struct c.in_ok-f.ensures.opening (finished c.finish.ensures (search))
