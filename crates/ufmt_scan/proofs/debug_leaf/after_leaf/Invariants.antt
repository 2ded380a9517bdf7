-- What was passed belongs to the leaf, and whether a name may have it is known.
use Rattle.std.proofs.Common.{length}
use Rattle.ufmt_grammar.specs.Leaves.{beginning, outside}
use Rattle.ufmt_scan.specs.Private.Fronts.{Passes}
use Rattle.ufmt_scan.proofs.debug_leaf.after_leaf.Given as goal

abbrev pub invariant-pieces : goal.invariant-pieces
invariant-pieces l = Passes beginning l.input outside l.rest l.is_named

abbrev pub decreases-pieces : goal.decreases-pieces
decreases-pieces l = length l.rest
