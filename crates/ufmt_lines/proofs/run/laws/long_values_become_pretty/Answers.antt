use Rattle.ufmt_lines.proofs.LongValues.{long_values}
use Rattle.ufmt_lines.proofs.run.laws.long_values_become_pretty.Goals as goal

pub returns : goal.returns
returns c = long_values
