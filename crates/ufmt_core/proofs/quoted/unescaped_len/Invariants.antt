use Rattle.std.proofs.Common.{◌≡◌, ◌≤◌, ◌+◌, ◌-◌, drop, length}
use Rattle.ufmt_core.specs.Quoted.{unescaped_len}
use Rattle.ufmt_core.proofs.quoted.unescaped_len.Given as goal

abbrev pub invariant-fours : goal.invariant-fours
invariant-fours l = (unescaped_len l.bytes ≡ l.end + unescaped_len (drop l.end l.bytes)) × (l.end ≤ length l.bytes)

abbrev pub decreases-fours : goal.decreases-fours
decreases-fours l = length l.bytes - l.end
