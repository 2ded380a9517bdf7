-- The set has none of the bytes before.
use Rattle.std.proofs.Common.{◌≡◌, ◌<◌, ◌≤◌, ◌-◌, ℕ, false, length, slice_index}
use Rattle.ufmt_values.proofs.search.len_before_first.Given as goal

abbrev pub invariant-vectors : goal.invariant-vectors
invariant-vectors g l = (l.at ≤ length l.text) × ((k : ℕ) → k < l.at → g.S.ByteSet.has (slice_index l.text k) ≡ false)

abbrev pub decreases-vectors : goal.decreases-vectors
decreases-vectors g l = length l.text - l.at
