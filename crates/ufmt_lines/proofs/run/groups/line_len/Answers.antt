use Rattle.std.proofs.Common.{◌∙◌, sym}
use Rattle.ufmt_lines.proofs.FirstBytes.{line_feeds_before}
use Rattle.ufmt_lines.proofs.run.groups.line_len.Goals as goal

pub returns-clause-len : goal.returns-clause-len
returns-clause-len c = c.len_before_first.ensures.place ∙ sym (line_feeds_before c.args.text.now)
