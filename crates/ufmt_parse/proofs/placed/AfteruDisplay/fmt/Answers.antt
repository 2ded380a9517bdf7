use Rattle.ufmt_core.specs.Formatter.{lays_out}
use Rattle.ufmt.proofs.Joined.{LaysOut-nothing}
use Rattle.ufmt_parse.proofs.placed.AfteruDisplay.fmt.Goals as goal

pub returns-in-None : goal.returns-in-None
returns-in-None g c = rw c.in-None.is (LaysOut-nothing _)

pub returns-in-Some : goal.returns-in-Some
returns-in-Some g c = rw c.in-Some.is (lays_out c.print.ensures)
