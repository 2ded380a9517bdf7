use Rattle.std.proofs.Common.{◌≡◌, ◌≤◌, ◌+◌, ◌-◌, drop, length}
use Rattle.ufmt_core.specs.Quoted.{unescaped_len}
use Rattle.ufmt_core.proofs.quoted.unescaped_len_from.Given as goal

abbrev pub invariant-bytes : goal.invariant-bytes
invariant-bytes l = (unescaped_len l.bytes ≡ l.end + unescaped_len (drop l.end l.bytes)) × (l.end ≤ length l.bytes)

abbrev pub decreases-bytes : goal.decreases-bytes
decreases-bytes l = length l.bytes - l.end
