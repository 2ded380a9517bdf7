use Rattle.std.proofs.Common.{◌≡◌, ◌+◌, ◌≤◌, length, drop}
use Rattle.ufmt_core.proofs.copying.copy_longer.Given as goal

abbrev pub invariant-loop-start : goal.invariant-loop-start
invariant-loop-start l = record {
  within : l.start + 16 ≤ length l.bytes;
  same_length : length l.target ≡ length l.bytes;
  copied : drop l.start l.target ≡ drop l.start l.bytes;
}

abbrev pub decreases-loop-start : goal.decreases-loop-start
decreases-loop-start l = l.start
