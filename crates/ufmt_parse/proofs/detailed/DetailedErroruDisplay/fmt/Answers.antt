use Rattle.ufmt_core.specs.Formatter.{lays_out}
use Rattle.ufmt_parse.proofs.detailed.DetailedErroruDisplay.fmt.Goals as goal

pub returns-in-NotText : goal.returns-in-NotText
returns-in-NotText g c = rw c.in-NotText.is (lays_out c.print.ensures)

pub returns-in-OutOfMemory : goal.returns-in-OutOfMemory
returns-in-OutOfMemory g c = rw c.in-OutOfMemory.is c.write_str.ensures.lays_out
