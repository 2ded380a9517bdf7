use Rattle.std.proofs.Common.{◌≡◌, ◌≤◌, ◌+◌, ◌-◌, drop, length}
use Rattle.ufmt_scan.specs.Private.MarkedBytes.{marked_len}
use Rattle.ufmt_scan.proofs.leaf.marked_len.Given as goal

abbrev pub invariant-eights : goal.invariant-eights
invariant-eights l = (marked_len l.class l.input ≡ l.end + marked_len l.class (drop l.end l.input)) × (l.end ≤ length l.input)

abbrev pub decreases-eights : goal.decreases-eights
decreases-eights l = length l.input - l.end
