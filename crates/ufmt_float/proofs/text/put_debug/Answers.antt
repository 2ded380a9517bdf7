use mathlib.Core.Path.{sym, ◌∙◌}
use native.Mathlib.Omega.{arith}
use Rattle.ufmt_float.proofs.Puts.{length-debug}
use Rattle.ufmt_float.proofs.text.put_debug.Goals as goal

pub put_plain-requires : goal.put_plain-requires
put_plain-requires c = omega (arith, length-debug c.args.decimal.digits c.args.decimal.power c.requires.sizes.0 (sym c.is_plain.ensures ∙ c.if-is_plain.true))

pub returns-then-is_plain-clause-short : goal.returns-then-is_plain-clause-short
returns-then-is_plain-clause-short c = omega (arith, length-debug c.args.decimal.digits c.args.decimal.power c.requires.sizes.0 (sym c.is_plain.ensures ∙ c.if-is_plain.true))
