use Rattle.std.proofs.Common.{◌≡◌, ◌-◌, ◌<◌, drop, length, take}
use Rattle.std.specs.Option.{option_copied}
use Rattle.ufmt.specs.Lines.{lines_of}
use Rattle.ufmt_snapshot.specs.Private.LinesLeft.{lines_left}
use Rattle.ufmt_snapshot.proofs.difference.first_difference.Given as goal

abbrev pub invariant-loop-given_rest : goal.invariant-loop-given_rest
invariant-loop-given_rest l = record {
  from_one : 0 < l.line;
  same_before : take (l.line - 1) (lines_of l.fn.given) ≡ take (l.line - 1) (lines_of l.fn.stored);
  given_rest : drop (l.line - 1) (lines_of l.fn.given) ≡ lines_left (option_copied l.given_left);
  stored_rest : drop (l.line - 1) (lines_of l.fn.stored) ≡ lines_left (option_copied l.stored_left);
}

abbrev pub decreases-loop-given_rest : goal.decreases-loop-given_rest
decreases-loop-given_rest l = length (lines_left (option_copied l.given_left))
