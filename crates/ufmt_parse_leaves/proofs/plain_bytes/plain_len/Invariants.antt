use Rattle.std.proofs.Common.{◌≡◌, ◌-◌, ◌≤◌, length, take, true}
use Rattle.ufmt_parse_leaves.specs.Spelling.{all_plain}
use Rattle.ufmt_parse_leaves.proofs.plain_bytes.plain_len.Given as goal

-- what comes before is plain
abbrev pub invariant-vectors : goal.invariant-vectors
invariant-vectors l = (l.end ≤ length l.fn.input) × (all_plain (take l.end l.fn.input) ≡ true)

abbrev pub decreases-vectors : goal.decreases-vectors
decreases-vectors l = length l.input - l.end
