use Rattle.ufmt_core.proofs.LastDigits.{last_digits-halves}
use Rattle.ufmt_core.proofs.unsigned.write_sixteen.Goals as goal

pub returns : goal.returns
returns c = last_digits-halves 8 c.args.n c.args.start c.args.buffer.now c.write_eight.new.buffer c.write_eight-2.new.buffer c.write_eight.ensures c.write_eight-2.ensures
