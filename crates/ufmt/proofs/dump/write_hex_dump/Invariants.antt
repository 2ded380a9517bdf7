use Rattle.std.proofs.Common.{◌≡◌, ◌+◌, length}
use Rattle.std.specs.Slice.Iter.{chunks_rest, chunks_size}
use Rattle.ufmt.specs.Dump.{bytes_per_row, chunks, dump_text, rows_text}
use Rattle.ufmt.proofs.LeftToWrite.{LeavesText}
use Rattle.ufmt.proofs.dump.write_hex_dump.Given as goal

abbrev pub invariant-loop-row : goal.invariant-loop-row
invariant-loop-row g l = record {
  can_next : (goal.iterator-loop-row g).can_next l.row-iterator;
  is_finite : (goal.iterator-loop-row g).is_finite l.row-iterator;
  size : chunks_size l.row-iterator ≡ bytes_per_row l.fn.dump;
  place : l.before + length (chunks_rest l.row-iterator) ≡ length l.fn.bytes;
  left : LeavesText g.W.uWrite.seen l.initial.writer (dump_text l.fn.dump l.fn.bytes)
      l.writer (rows_text l.fn.dump l.before (chunks (bytes_per_row l.fn.dump) (chunks_rest l.row-iterator)));
}
