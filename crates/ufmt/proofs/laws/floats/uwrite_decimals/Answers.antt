use Rattle.ufmt_core.proofs.Writing.{Prints-then}
use Rattle.ufmt.proofs.laws.floats.uwrite_decimals.Goals as goal

pub returns-in-Ok : goal.returns-in-Ok
returns-in-Ok g c = Prints-then c.in-Ok.ensures c.print.ensures
