use Rattle.std.proofs.Common.{◌≡◌, ◌+◌, ◌*◌, ◌++◌, length, take}
use Rattle.std.specs.List.{flat_map}
use Rattle.ufmt.specs.Dump.{byte_digits}
use Rattle.ufmt.proofs.dump.put_digits.Given as goal

abbrev pub invariant-loop-byte : goal.invariant-loop-byte
invariant-loop-byte l = record {
  place : l.end ≡ l.start + 2 * l.byte-index;
  same_length : length l.buffer ≡ length l.initial.buffer;
  written : take l.end l.buffer ≡ take l.start l.initial.buffer ++ flat_map byte_digits (take l.byte-index l.bytes);
}
