use Rattle.ufmt_lines.proofs.Groups.{groups_are_text}
use Rattle.ufmt_lines.proofs.run.laws.groups_are_the_text.Goals as goal

pub returns : goal.returns
returns c = groups_are_text
