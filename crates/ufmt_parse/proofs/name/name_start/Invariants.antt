-- The bytes from the start on are of a name.
use Rattle.std.proofs.Common.{◌≡◌, ◌<◌, ◌≤◌, ℕ, length, slice_index, true}
use Rattle.ufmt_parse.specs.NamesBefore.{is_identifier_byte}
use Rattle.ufmt_parse.proofs.name.name_start.Given as goal

abbrev pub invariant-bytes : goal.invariant-bytes
invariant-bytes l = record {
  within : l.start ≤ length l.text;
  run : (k : ℕ) → l.start ≤ k → k < length l.text → is_identifier_byte (slice_index l.text k) ≡ true;
}

abbrev pub decreases-bytes : goal.decreases-bytes
decreases-bytes l = l.start
