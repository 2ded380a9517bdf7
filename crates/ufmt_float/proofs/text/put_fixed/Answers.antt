use native.Mathlib.Omega.{arith}
use Rattle.ufmt_float.proofs.Puts.{length-fixed}
use Rattle.ufmt_float.proofs.text.put_fixed.Goals as goal

pub put_last_digits-whole-requires : goal.put_last_digits-whole-requires
put_last_digits-whole-requires c = omega (arith, length-fixed c.args.digits c.args.places)
