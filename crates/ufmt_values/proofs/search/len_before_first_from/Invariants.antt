-- The set has none of the bytes before.
use Rattle.std.proofs.Common.{◌≡◌, ◌<◌, ◌≤◌, ◌-◌, ℕ, false, length, slice_index}
use Rattle.ufmt_values.proofs.search.len_before_first_from.Given as goal

abbrev pub invariant-bytes : goal.invariant-bytes
invariant-bytes g l = (l.at ≤ length l.text) × ((k : ℕ) → k < l.at → g.S.ByteSet.has (slice_index l.text k) ≡ false)

abbrev pub decreases-bytes : goal.decreases-bytes
decreases-bytes g l = length l.text - l.at
