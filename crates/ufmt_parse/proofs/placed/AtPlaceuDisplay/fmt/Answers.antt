use Rattle.ufmt_core.specs.Formatter.{lays_out}
use Rattle.ufmt_parse.proofs.placed.AtPlaceuDisplay.fmt.Goals as goal

pub returns : goal.returns
returns g c = lays_out c.print.ensures
