use Rattle.ufmt.proofs.ZeroPadding.{sign_if}
use Rattle.ufmt.proofs.number.notation.ZerosToNotation.write_integer.Goals as goal

pub returns : goal.returns
returns g c z sign magnitude = rw (← sign_if z c.args.is_minus sign, magnitude) c.write_zeros.ensures
