use Rattle.ufmt_parse_leaves.proofs.PackedDigits.{none_above}
use Rattle.ufmt_parse_leaves.proofs.sixteen_digits.are_digits.Goals as goal

pub returns : goal.returns
returns c = none_above c.args.values c.fits-values.0
