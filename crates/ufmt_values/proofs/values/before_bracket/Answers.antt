use Rattle.std.proofs.Common.{◌∙◌, sym}
use Rattle.ufmt_values.proofs.FirstBytes.{brackets_before}
use Rattle.ufmt_values.proofs.values.before_bracket.Goals as goal

pub returns-clause-len : goal.returns-clause-len
returns-clause-len c = c.len_before_first.ensures.place ∙ sym (brackets_before c.args.text.now)
