use native.Mathlib.Omega.{arith}
use Rattle.ufmt_float.proofs.Remainders.{found, found_tens, found_next_tens}
use Rattle.ufmt_float.proofs.narrow.Division.decimal.Goals as goal

pub returns-then-ones-self : goal.returns-then-ones-self
returns-then-ones-self c = let d = c.args.self in found_tens c.args.m c.args.below d.top d.bottom d.whole d.rest c.args.power c.requires.scaled c.requires.parts c.requires.small.0 (omega arith)

pub returns-then-ones-self-2 : goal.returns-then-ones-self-2
returns-then-ones-self-2 c = let d = c.args.self in found_next_tens c.args.m c.args.below d.top d.bottom d.whole d.rest c.args.power c.requires.scaled c.requires.parts c.requires.small.0 (omega arith)

pub returns : goal.returns
returns c = let d = c.args.self in found c.args.m c.args.below d.top d.bottom c.args.power c.closest.result c.closest.ensures
