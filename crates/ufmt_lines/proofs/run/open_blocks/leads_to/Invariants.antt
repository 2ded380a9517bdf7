-- An entry of the outer value begins at the place.
use Rattle.std.proofs.Common.{◌-◌, ◌≤◌, length}
use Rattle.ufmt_lines.specs.Private.OpenBlocks.{IsReached}
use Rattle.ufmt_lines.proofs.run.open_blocks.leads_to.Given as goal

abbrev pub invariant-entries : goal.invariant-entries
invariant-entries l = record {
  within : l.at ≤ length l.text;
  reached : IsReached l.text l.outer l.at;
}

abbrev pub decreases-entries : goal.decreases-entries
decreases-entries l = length l.text - l.at
