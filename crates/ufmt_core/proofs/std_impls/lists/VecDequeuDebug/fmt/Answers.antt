use Rattle.std.proofs.Common.{◌∙◌, ap}
use Rattle.std.proofs.lemmas.Iterator.Consumers.{YieldsList-from_deque}
use Rattle.std.specs.VecDeque.Iter.{deque_iter_rest}
use Rattle.ufmt_core.proofs.Items.{AlwaysYields-items}
use Rattle.ufmt_core.proofs.std_impls.lists.VecDequeuDebug.fmt.Goals as goal

pub returns : goal.returns
returns g c = c.fmt_list.ensures _ (λ it gives. AlwaysYields-items g.T.uDebug.document _ (YieldsList-from_deque _ (ap deque_iter_rest gives ∙ c.iter.ensures.rest)))
