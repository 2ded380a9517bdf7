use native.Mathlib.Omega.{arith}
use Rattle.ufmt_float.proofs.Remainders.{rest_whole, rest_past, rest_next, rest_before}
use Rattle.ufmt_float.proofs.narrow.Division.closest.Goals as goal

pub returns-then-self-odd : goal.returns-then-self-odd
returns-then-self-odd c = let d = c.args.self in rest_whole c.args.m c.args.below d.top d.bottom d.whole d.rest 0 c.requires.scaled c.requires.parts c.requires.small.0 c.requires.low c.requires.high (omega arith) (omega arith)

pub returns-else-self-odd : goal.returns-else-self-odd
returns-else-self-odd c = let d = c.args.self in rest_past c.args.m c.args.below d.top d.bottom d.whole d.rest 0 c.requires.scaled c.requires.parts c.requires.small.0 c.requires.low c.requires.high (omega arith)

pub returns-then-self-odd-2 : goal.returns-then-self-odd-2
returns-then-self-odd-2 c = let d = c.args.self in rest_next c.args.m c.args.below d.top d.bottom d.whole d.rest 0 c.requires.scaled c.requires.parts c.requires.small.0 c.requires.low c.requires.high (omega arith) (omega arith)

pub returns-else-self-odd-2 : goal.returns-else-self-odd-2
returns-else-self-odd-2 c = let d = c.args.self in rest_before c.args.m c.args.below d.top d.bottom d.whole d.rest 0 c.requires.scaled c.requires.parts c.requires.small.0 c.requires.low c.requires.high (omega arith)
