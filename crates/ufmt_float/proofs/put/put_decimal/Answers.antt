use mathlib.Core.Path.{sym, subst}
use native.Mathlib.Omega.{arith}
use Rattle.core.proofs.fmt.DigitsParse.{decimal_digit}
use Rattle.ufmt_float.specs.Put.{IsPut}
use Rattle.ufmt_float.proofs.Puts.{one_digit, decimal-last_digits}
use Rattle.ufmt_float.proofs.put.put_decimal.Goals as goal

pub put_byte-requires : goal.put_byte-requires
put_byte-requires c = omega (arith, one_digit c.args.n (omega arith), c.requires)

pub returns-then-n-lt10 : goal.returns-then-n-lt10
returns-then-n-lt10 c =
    subst (λ text. IsPut text c.args.end c.args.buffer.now c.put_byte.result c.put_byte.new.buffer) (sym (decimal_digit c.args.n (omega arith))) c.put_byte.ensures

pub returns : goal.returns
returns c = rw (decimal-last_digits c.args.n c.ranges.n.fits, ← c.count_digits-count.ensures.count) c.put_last_digits.ensures.written
