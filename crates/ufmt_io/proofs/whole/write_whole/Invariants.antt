-- What was written is a prefix of the bytes.
use Rattle.std.proofs.Common.{◌≡◌, ◌-◌, ◌≤◌, false, length, take}
use Rattle.std.specs.Io.KnownBytes.{Appends}
use Rattle.ufmt_io.specs.Watched.{device_of, has_failed, has_given_up}
use Rattle.ufmt_io.proofs.whole.write_whole.Given as goal

abbrev pub invariant-loop-written : goal.invariant-loop-written
invariant-loop-written g l = record {
  within : l.written ≤ length l.bytes;
  works : has_failed l.output ≡ false;
  goes_on : has_given_up l.output ≡ has_given_up l.initial.output;
  so_far : Appends (g.W.Write.contents (device_of l.initial.output)) (g.W.Write.contents (device_of l.output)) (take l.written l.bytes);
}

abbrev pub decreases-loop-written : goal.decreases-loop-written
decreases-loop-written g l = length l.bytes - l.written
