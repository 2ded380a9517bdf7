use Rattle.ufmt_lines.proofs.LinesTogether.{cut_at_last}
use Rattle.ufmt_lines.proofs.run.groups.split_last_line.Goals as goal

pub returns-clause-whole : goal.returns-clause-whole
returns-clause-whole c = rw c.split_at.ensures.front (cut_at_last c.args.text.now c.len_through_last.result c.len_through_last.ensures.end).1

pub returns-clause-last : goal.returns-clause-last
returns-clause-last c = rw c.split_at.ensures.back (cut_at_last c.args.text.now c.len_through_last.result c.len_through_last.ensures.end).2
