use Rattle.ufmt_values.proofs.Unclosed.{past_last}
use Rattle.ufmt_values.proofs.values.closed_len.Goals as goal

pub returns : goal.returns
returns c = past_last c.args.text.now c.len_through_last.result c.len_through_last.ensures.end
