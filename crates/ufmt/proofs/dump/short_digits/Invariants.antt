use Rattle.std.proofs.Common.{◌≡◌, ◌+◌, ◌*◌, ◌≤◌, ◌++◌, length, take}
use Rattle.std.specs.Slice.Iter.{chunks_rest, chunks_size}
use Rattle.ufmt.proofs.Dumps.{spaced}
use Rattle.ufmt.proofs.dump.short_digits.Given as goal

abbrev pub invariant-loop-bytes : goal.invariant-loop-bytes
invariant-loop-bytes l = record {
  can_next : goal.iterator-loop-bytes.can_next l.bytes-iterator;
  is_finite : goal.iterator-loop-bytes.is_finite l.bytes-iterator;
  size : chunks_size l.bytes-iterator ≡ l.group;
  room : l.end + 3 * length (chunks_rest l.bytes-iterator) ≤ 96;
  written : take l.end l.buffer ++ spaced l.group (chunks_rest l.bytes-iterator) ≡ spaced l.group l.row;
}
