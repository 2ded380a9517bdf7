use Rattle.ufmt_fixed.proofs.Roundings.{nearest_closest}
use Rattle.ufmt_fixed.proofs.laws.nearest_is_closest.Goals as goal

pub returns : goal.returns
returns c = nearest_closest
