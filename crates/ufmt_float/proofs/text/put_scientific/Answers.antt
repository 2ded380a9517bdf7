use Rattle.core.specs.Prelude.{◌+◌, ◌-◌}
use native.Mathlib.Omega.{arith}
use Rattle.ufmt_float.proofs.Puts.{length-fixed-le, length-digits, length-exponent_text}
use Rattle.ufmt_float.proofs.text.put_scientific.Goals as goal

pub put_decimal-requires : goal.put_decimal-requires
put_decimal-requires c =
    let places = c.count_digits-places.result - 1 in
    omega (arith, length-digits c.args.digits c.requires.sizes.0, length-exponent_text (c.args.power + places) (omega arith))

pub put_fixed-requires : goal.put_fixed-requires
put_fixed-requires c =
    let places = c.count_digits-places.result - 1 in
    let few = length-digits c.args.digits c.requires.sizes.0 in
    omega (arith, few, length-fixed-le c.args.digits places c.requires.sizes.0, length-exponent_text (c.args.power + places) (omega arith))

pub returns-then-places-eq0-clause-short : goal.returns-then-places-eq0-clause-short
returns-then-places-eq0-clause-short c =
    let places = c.count_digits-places.result - 1 in
    omega (arith, length-digits c.args.digits c.requires.sizes.0, length-exponent_text (c.args.power + places) (omega arith))

pub returns-else-places-eq0-clause-short : goal.returns-else-places-eq0-clause-short
returns-else-places-eq0-clause-short c =
    let places = c.count_digits-places.result - 1 in
    let few = length-digits c.args.digits c.requires.sizes.0 in
    omega (arith, few, length-fixed-le c.args.digits places c.requires.sizes.0, length-exponent_text (c.args.power + places) (omega arith))
