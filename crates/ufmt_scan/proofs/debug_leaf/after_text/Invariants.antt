-- The quotes are still open after what was passed.
use Rattle.std.proofs.Common.{◌≤◌, ◌∷◌, length, false}
use Rattle.ufmt_grammar.specs.Leaves.{between, outside}
use Rattle.ufmt_scan.specs.Private.Fronts.{Passes}
use Rattle.ufmt_scan.proofs.debug_leaf.after_text.Given as goal

abbrev pub invariant-stretches : goal.invariant-stretches
invariant-stretches l = record {
  passes : Passes outside (l.quote ∷ l.inside) (between l.quote) l.rest false;
  within : length l.rest ≤ length l.inside;
}

abbrev pub decreases-stretches : goal.decreases-stretches
decreases-stretches l = length l.rest
