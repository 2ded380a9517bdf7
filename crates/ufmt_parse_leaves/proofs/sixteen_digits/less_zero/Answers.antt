use Rattle.ufmt_parse_leaves.proofs.PackedDigits.{digits_less_zero}
use Rattle.ufmt_parse_leaves.proofs.sixteen_digits.less_zero.Goals as goal

pub returns : goal.returns
returns c = digits_less_zero c.args.bytes c.fits-bytes.0 c.fits-bytes.1
