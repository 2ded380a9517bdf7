use mathlib.Core.Path.{◌∙◌}
use native.Mathlib.Omega.{arith}
use Rattle.ufmt_float.proofs.FivePowers.{without_bit, with_bit, bits_fit}
use Rattle.ufmt_float.proofs.powers.with_bit.Goals as goal

pub overflow_mul-result : goal.overflow_mul-result
overflow_mul-result c = rw (c.requires.low, c.requires.power) (record { fits = bits_fit c.args.n c.args.unit c.requires.few c.requires.unit.0 (omega arith) })

pub returns-then-n-unit-eq0 : goal.returns-then-n-unit-eq0
returns-then-n-unit-eq0 c = c.requires.low ∙ without_bit c.args.n c.args.unit c.requires.unit.0 (omega arith)

pub returns-else-n-unit-eq0 : goal.returns-else-n-unit-eq0
returns-else-n-unit-eq0 c = rw (c.requires.low, c.requires.power) (with_bit c.args.n c.args.unit c.requires.unit.0 (omega arith))
