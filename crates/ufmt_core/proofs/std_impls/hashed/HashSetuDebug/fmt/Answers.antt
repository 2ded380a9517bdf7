use Rattle.std.proofs.Common.{◌∙◌}
use Rattle.std.proofs.lemmas.Iterator.Consumers.{YieldsList-from_rest}
use Rattle.ufmt_core.proofs.Items.{AlwaysYields-items}
use Rattle.ufmt_core.proofs.std_impls.hashed.HashSetuDebug.fmt.Goals as goal

pub returns : goal.returns
returns g c = c.fmt_set.ensures _ (λ it gives. AlwaysYields-items g.T.uDebug.document _ (YieldsList-from_rest _ (gives ∙ c.iter.ensures.rest)))
