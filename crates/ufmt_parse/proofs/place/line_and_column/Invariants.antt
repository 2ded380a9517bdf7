use Rattle.std.proofs.Common.{◌+◌, ◌≤◌, take}
use Rattle.ufmt_parse.specs.Places.{IsPlaceAfter}
use Rattle.ufmt_parse.proofs.place.line_and_column.Given as goal

abbrev pub invariant-loop-byte : goal.invariant-loop-byte
invariant-loop-byte l = record {
  line : l.line ≤ l.byte-index + 1;
  column : l.column ≤ l.byte-index + 1;
  place : IsPlaceAfter (take l.byte-index l.before) l.line l.column;
}
