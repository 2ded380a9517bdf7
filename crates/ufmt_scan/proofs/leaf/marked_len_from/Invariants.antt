use Rattle.std.proofs.Common.{◌≡◌, ◌≤◌, ◌+◌, ◌-◌, drop, length}
use Rattle.ufmt_scan.specs.Private.MarkedBytes.{marked_len}
use Rattle.ufmt_scan.proofs.leaf.marked_len_from.Given as goal

abbrev pub invariant-bytes : goal.invariant-bytes
invariant-bytes l = (marked_len l.class l.input ≡ l.end + marked_len l.class (drop l.end l.input)) × (l.end ≤ length l.input)

abbrev pub decreases-bytes : goal.decreases-bytes
decreases-bytes l = length l.input - l.end
