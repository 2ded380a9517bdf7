use Rattle.core.specs.Prelude.{false}
use native.Mathlib.Omega.{arith}
use Rattle.ufmt_float.proofs.Puts.{length-plain, length-digits}
use Rattle.ufmt_float.proofs.text.put_display.Goals as goal

pub put_plain-requires : goal.put_plain-requires
put_plain-requires c = omega (arith, length-plain false c.args.decimal.digits c.args.decimal.power c.requires.sizes.0, length-digits c.args.decimal.digits c.requires.sizes.0)

pub returns-clause-short : goal.returns-clause-short
returns-clause-short c = omega (arith, length-plain false c.args.decimal.digits c.args.decimal.power c.requires.sizes.0, length-digits c.args.decimal.digits c.requires.sizes.0)
