use Rattle.ufmt.proofs.ZeroPadding.{IsZeroPadded-zero_padded}
use Rattle.ufmt.proofs.laws.numbers.zeros_reach_width.Goals as goal

pub returns : goal.returns
returns c = IsZeroPadded-zero_padded
