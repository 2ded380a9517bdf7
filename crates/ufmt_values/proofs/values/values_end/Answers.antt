use Rattle.std.proofs.Common.{inr}
use Rattle.ufmt_values.proofs.Unclosed.{further_unclosed}
use Rattle.ufmt_values.proofs.values.values_end.Goals as goal

pub returns-then-end-text : goal.returns-then-end-text
returns-then-end-text c = λ place from. inr (further_unclosed c.args.text.now c.closed_len.result place from c.closed_len.ensures)
