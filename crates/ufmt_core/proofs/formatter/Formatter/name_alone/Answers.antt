use Rattle.ufmt_core.proofs.Alike.{leaf_alike}
use Rattle.ufmt_core.proofs.formatter.Formatter.name_alone.Goals as goal

pub returns-clause-alike : goal.returns-clause-alike
returns-clause-alike g c = leaf_alike c.write_str.ensures.lays_out
