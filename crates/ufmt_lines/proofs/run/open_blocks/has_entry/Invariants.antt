-- Bytes of a name were passed.
use Rattle.std.proofs.Common.{◌≡◌, length}
use Rattle.ufmt_lines.specs.Private.OpenBlocks.{has_entry}
use Rattle.ufmt_lines.proofs.run.open_blocks.has_entry.Given as goal

abbrev pub invariant-bytes : goal.invariant-bytes
invariant-bytes l = has_entry l.text ≡ has_entry l.left

abbrev pub decreases-bytes : goal.decreases-bytes
decreases-bytes l = length l.left
