-- Whether a block begins is the same of what is left.
use Rattle.std.proofs.Common.{◌≡◌, false, length}
use Rattle.ufmt_lines.specs.Private.OpenBlocks.{begins_block}
use Rattle.ufmt_lines.proofs.run.open_blocks.begins_block.Given as goal

abbrev pub invariant-bytes : goal.invariant-bytes
invariant-bytes l = begins_block false l.text ≡ begins_block l.named l.left

abbrev pub decreases-bytes : goal.decreases-bytes
decreases-bytes l = length l.left
