use Rattle.ufmt_lines.proofs.Groups.{pretty_groups, pretty_rest}
use Rattle.ufmt_lines.proofs.run.laws.lines_are_made_pretty.Goals as goal

pub returns-clause-lines : goal.returns-clause-lines
returns-clause-lines c = pretty_groups

pub returns-clause-rest : goal.returns-clause-rest
returns-clause-rest c = pretty_rest
