use Rattle.std.proofs.Common.{drop}
use Rattle.ufmt.proofs.Dumps.{digits_from}
use Rattle.ufmt.proofs.LeftToWrite.{LeavesText}
use Rattle.ufmt.proofs.dump.HexDump.write_digits.Given as goal

abbrev pub invariant-loop-byte : goal.invariant-loop-byte
invariant-loop-byte g l =
    LeavesText g.W.uWrite.seen l.initial.writer (digits_from l.group l.group l.row) l.writer (digits_from l.group l.left (drop l.byte-index l.row))
