-- The set has none of the bytes from here on.
use Rattle.std.proofs.Common.{◌≡◌, ◌<◌, ◌≤◌, ℕ, false, length, slice_index}
use Rattle.ufmt_values.proofs.search.len_through_last_before.Given as goal

abbrev pub invariant-bytes : goal.invariant-bytes
invariant-bytes g l = (l.end ≤ length l.text) × ((k : ℕ) → l.end ≤ k → k < length l.text → g.S.ByteSet.has (slice_index l.text k) ≡ false)

abbrev pub decreases-bytes : goal.decreases-bytes
decreases-bytes g l = l.end
