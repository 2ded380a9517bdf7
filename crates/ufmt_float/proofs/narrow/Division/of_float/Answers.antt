use Rattle.core.specs.Prelude.{◌+◌, ◌-◌, ◌^◌, ◌≤◌}
use native.Mathlib.Omega.{arith}
use native.Mathlib.Nat.{pow-le-pow_right}
use lib.Dec.{lit<}
use Rattle.ufmt_float.proofs.narrow.Division.of_float.Goals as goal

pub returns-clause-small : goal.returns-clause-small
returns-clause-small c =
    let few : 674 + c.args.power - c.args.exponent ≤ 58 = omega arith in
    let small : 2 ^ (674 + c.args.power - c.args.exponent) ≤ 2 ^ 58 = pow-le-pow_right (lit< tt) few in omega (arith, small)
