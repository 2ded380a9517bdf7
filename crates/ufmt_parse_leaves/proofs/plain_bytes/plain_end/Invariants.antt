use Rattle.std.proofs.Common.{◌≡◌, ◌-◌, ◌≤◌, length, take, true}
use Rattle.ufmt_parse_leaves.specs.Spelling.{all_plain}
use Rattle.ufmt_parse_leaves.proofs.plain_bytes.plain_end.Given as goal

-- what comes before is plain
abbrev pub invariant-bytes : goal.invariant-bytes
invariant-bytes l = (l.end ≤ length l.fn.input) × (all_plain (take l.end l.fn.input) ≡ true)

abbrev pub decreases-bytes : goal.decreases-bytes
decreases-bytes l = length l.input - l.end
