-- The filled part of the vector is what was read.
use Rattle.std.proofs.Common.{◌≡◌, ◌^◌, ◌-◌, ◌≤◌, false, take, vec_len}
use Rattle.std.specs.Io.KnownBytes.{Consumes}
use Rattle.ufmt_io.specs.Watched.{device_of, has_failed, has_given_up}
use Rattle.ufmt_io.proofs.whole.read_to_end.Given as goal

abbrev pub invariant-loop-text : goal.invariant-loop-text
invariant-loop-text g l = record {
  within : l.filled ≤ vec_len l.text;
  works : has_failed l.input ≡ false;
  goes_on : has_given_up l.input ≡ has_given_up l.initial.input;
  so_far : Consumes (g.R.Read.remaining (device_of l.initial.input)) (g.R.Read.remaining (device_of l.input)) (take l.filled l.text.items);
}

abbrev pub decreases-loop-text : goal.decreases-loop-text
decreases-loop-text g l = 2 ^ 64 - l.filled
