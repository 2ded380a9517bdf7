use Rattle.core.specs.Prelude.{nat_lt}
use native.Mathlib.Omega.{arith}
use Rattle.ufmt_float.proofs.Puts.{length-exponent, length-sign}
use Rattle.ufmt_float.proofs.text.put_exponent.Goals as goal

pub put_decimal-end-requires : goal.put_decimal-end-requires
put_decimal-end-requires c = omega (arith, length-exponent c.exponent_size.result (omega arith))

pub put_sign-end-requires : goal.put_sign-end-requires
put_sign-end-requires c = omega (arith, length-exponent c.exponent_size.result (omega arith), length-sign (nat_lt c.args.power 400))

pub put_byte-requires : goal.put_byte-requires
put_byte-requires c = omega (arith, length-exponent c.exponent_size.result (omega arith), length-sign (nat_lt c.args.power 400))
