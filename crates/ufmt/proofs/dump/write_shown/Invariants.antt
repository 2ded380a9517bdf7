use Rattle.std.proofs.Common.{◌≡◌, map}
use Rattle.std.specs.Slice.Iter.{chunks_rest, chunks_size}
use Rattle.ufmt.specs.Dump.{shown_byte}
use Rattle.ufmt.proofs.LeftToWrite.{LeavesText}
use Rattle.ufmt.proofs.dump.write_shown.Given as goal

abbrev pub invariant-loop-part : goal.invariant-loop-part
invariant-loop-part g l = record {
  can_next : (goal.iterator-loop-part g).can_next l.part-iterator;
  is_finite : (goal.iterator-loop-part g).is_finite l.part-iterator;
  size : chunks_size l.part-iterator ≡ 64;
  left : LeavesText g.W.uWrite.seen l.initial.writer (map shown_byte l.fn.row) l.writer (map shown_byte (chunks_rest l.part-iterator));
}
