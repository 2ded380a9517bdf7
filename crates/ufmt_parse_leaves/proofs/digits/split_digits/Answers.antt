use Rattle.std.proofs.Common.{arith}
use Rattle.ufmt_parse_leaves.proofs.DecimalFronts.{few_below}
use Rattle.ufmt_parse_leaves.proofs.digits.split_digits.Goals as goal

pub from_few-requires-then-not-is_ascii_digit : goal.from_few-requires-then-not-is_ascii_digit
from_few-requires-then-not-is_ascii_digit g c =
    few_below c.few.counter c.few.n (omega (arith, c.few.auto.counter-end, c.few_digits-few.ensures)) c.few.invariant.below

pub from_few-requires-then-is_long : goal.from_few-requires-then-is_long
from_few-requires-then-is_long g c =
    few_below c.few.counter c.few.n (omega (arith, c.few.auto.counter-end, c.few_digits-few.ensures)) c.few.invariant.below

pub from_few-requires-else-is_long : goal.from_few-requires-else-is_long
from_few-requires-else-is_long g c =
    few_below c.few.counter c.few.n (omega (arith, c.few.auto.counter-end, c.few_digits-few.ensures)) c.few.invariant.below
