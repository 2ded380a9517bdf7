-- The set has none of the bytes from here on.
use Rattle.std.proofs.Common.{◌≡◌, ◌<◌, ◌≤◌, ℕ, false, length, slice_index}
use Rattle.ufmt_values.proofs.search.len_through_last.Given as goal

abbrev pub invariant-vectors : goal.invariant-vectors
invariant-vectors g l = (l.end ≤ length l.text) × ((k : ℕ) → l.end ≤ k → k < length l.text → g.S.ByteSet.has (slice_index l.text k) ≡ false)

abbrev pub decreases-vectors : goal.decreases-vectors
decreases-vectors g l = l.end
