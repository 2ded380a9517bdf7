use native.Mathlib.Omega.{arith}
use Rattle.ufmt_float.specs.Scale.{unit_top, unit_bottom}
use Rattle.ufmt_float.proofs.Remainders.{few_wholes}
use Rattle.ufmt_float.proofs.Scales.{right_power, right_scale}
use Rattle.ufmt_float.proofs.narrow.narrow_decimal.Goals as goal

pub of_float-requires-clause-fives : goal.of_float-requires-clause-fives
of_float-requires-clause-fives c =
    let n = (right_power c.args.m c.args.exponent c.args.below c.args.power (omega arith) c.requires.sides c.requires.power).narrow (omega arith) (omega arith) in (n.0, n.1)

pub of_float-requires-clause-halves : goal.of_float-requires-clause-halves
of_float-requires-clause-halves c =
    let n = (right_power c.args.m c.args.exponent c.args.below c.args.power (omega arith) c.requires.sides c.requires.power).narrow (omega arith) (omega arith) in (n.2, omega (arith, n.3))

pub of_float-requires-clause-within : goal.of_float-requires-clause-within
of_float-requires-clause-within c = (
  c.requires.float.1,
  few_wholes c.args.m c.args.below (unit_top c.args.exponent c.args.power) (unit_bottom c.args.exponent c.args.power)
      (right_scale c.args.m c.args.exponent c.args.below c.args.power (omega arith) (omega arith) (omega arith) c.requires.sides c.requires.power),
)

pub decimal-requires-clause-scaled : goal.decimal-requires-clause-scaled
decimal-requires-clause-scaled c =
    rw (c.of_float.ensures.top, c.of_float.ensures.bottom) (right_scale c.args.m c.args.exponent c.args.below c.args.power (omega arith) (omega arith) (omega arith) c.requires.sides c.requires.power)
