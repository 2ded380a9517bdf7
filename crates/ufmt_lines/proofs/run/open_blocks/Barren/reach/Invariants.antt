-- Places were only forgotten.
use Rattle.std.proofs.Common.{◌-◌, List, ℕ}
use Rattle.ufmt_lines.specs.Private.OpenBlocks.{IsBarren}
use Rattle.ufmt_lines.proofs.run.open_blocks.Barren.reach.Given as goal

abbrev pub invariant-places : goal.invariant-places
invariant-places l = (text : List ℕ) → IsBarren text l.initial.self → IsBarren text l.self

abbrev pub decreases-places : goal.decreases-places
decreases-places l = 256 - l.self.first
