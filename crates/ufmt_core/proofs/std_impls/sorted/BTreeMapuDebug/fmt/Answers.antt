use Rattle.std.proofs.Common.{◌∙◌}
use Rattle.std.proofs.lemmas.Iterator.Consumers.{YieldsList-from_rest}
use Rattle.ufmt_core.proofs.Items.{AlwaysYields-items}
use Rattle.ufmt_core.proofs.std_impls.sorted.BTreeMapuDebug.fmt.Goals as goal

pub returns : goal.returns
returns g c = c.fmt_map.ensures _ (λ it gives. AlwaysYields-items (λ e. (g.K.uDebug.document e.0, g.V.uDebug.document e.1)) _
    (YieldsList-from_rest _ (gives ∙ c.iter.ensures.rest)))
