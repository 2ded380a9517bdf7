-- The bytes from the start on are of a name.
use Rattle.std.proofs.Common.{◌≡◌, ◌≤◌}
use Rattle.ufmt_values.specs.Values.{run_start}
use Rattle.ufmt_values.proofs.values.run_start.Given as goal

abbrev pub invariant-bytes : goal.invariant-bytes
invariant-bytes l = record {
  run : run_start l.text l.low l.fn.end ≡ run_start l.text l.low l.start;
  low : l.low ≤ l.start;
  before : l.start ≤ l.fn.end;
}

abbrev pub decreases-bytes : goal.decreases-bytes
decreases-bytes l = l.start
