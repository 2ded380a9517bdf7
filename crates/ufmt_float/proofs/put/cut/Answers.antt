use native.Mathlib.Omega.{arith}
use Rattle.ufmt_float.proofs.Puts.{length-cut, cut_less}
use Rattle.ufmt_float.proofs.put.cut.Goals as goal

pub returns-else-n-unit-clause-same : goal.returns-else-n-unit-clause-same
returns-else-n-unit-clause-same c = omega (arith, length-cut c.args.places c.args.n c.args.unit c.ranges.n.fits c.requires.unit.1 c.if-n-unit.false)

pub returns-else-n-unit-clause-less : goal.returns-else-n-unit-clause-less
returns-else-n-unit-clause-less c = cut_less c.args.n c.args.unit c.requires.unit.0
