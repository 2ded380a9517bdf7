use Rattle.ufmt_core.specs.Formatter.{lays_out}
use Rattle.ufmt.proofs.Joined.{LaysOut-nothing}
use Rattle.ufmt_parse.proofs.found.ButFounduDisplay.fmt.Goals as goal

pub returns-in-End : goal.returns-in-End
returns-in-End g c = rw c.in-End.is c.write_str.ensures.lays_out

pub returns-in-Word : goal.returns-in-Word
returns-in-Word g c = rw c.in-Word.is (lays_out c.print.ensures)

pub returns-in-Other : goal.returns-in-Other
returns-in-Other g c = rw c.in-Other.is (LaysOut-nothing _)
