use Rattle.std.proofs.Common.{◌≡◌, ◌++◌, length}
use Rattle.ufmt_parse.proofs.std_impls.queues_and_slices.linked.Given as goal

-- the values that are left, and those of the list, are the values
abbrev pub invariant-values : goal.invariant-values
invariant-values g l = l.left.items ++ l.list ≡ l.fn.values.items

abbrev pub decreases-values : goal.decreases-values
decreases-values g l = length l.left.items
