use Rattle.std.proofs.Common.{◌≡◌, ◌++◌, length}
use Rattle.ufmt_parser.proofs.ascending.ascending_set.Given as goal

-- the keys that are left, and those of the set, are the keys
abbrev pub invariant-keys : goal.invariant-keys
invariant-keys g l = l.left.items ++ l.set.keys ≡ l.fn.keys.items

abbrev pub decreases-keys : goal.decreases-keys
decreases-keys g l = length l.left.items
