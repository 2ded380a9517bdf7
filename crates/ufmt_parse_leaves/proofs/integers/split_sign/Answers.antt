use Rattle.ufmt_parse_leaves.proofs.IntegerFronts.{splits_minus}
use Rattle.ufmt_parse_leaves.proofs.integers.split_sign.Goals as goal

pub returns-then-is_signed : goal.returns-then-is_signed
returns-then-is_signed g c = rw (c.split_minus.ensures.minus, c.split_minus.ensures.after) (splits_minus g.T.Integer.int c.args.input.now)
