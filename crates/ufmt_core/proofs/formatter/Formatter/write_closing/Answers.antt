use Rattle.ufmt_core.proofs.Writing.{Prints-same}
use Rattle.ufmt_core.proofs.formatter.Formatter.write_closing.Goals as goal

pub returns : goal.returns
returns g c = Prints-same c.closing.ensures c.write_both.ensures
