-- What was taken before each entry, and how much is left.
use Rattle.std.proofs.Common.{◌≡◌, ◌≤◌, length}
use Rattle.ufmt_parser.specs.Taking.{setting_in}
use Rattle.ufmt_parser.proofs.BracketedBlocks.{TakenSoFar}
use Rattle.ufmt_parser.proofs.blocks.parse_some.Given as goal

abbrev pub invariant-entries : goal.invariant-entries
invariant-entries g l = record {
  so_far : TakenSoFar (g.P.EntryParser.fit l.fn.parser.open_blocks) (g.P.EntryParser.text l.by (setting_in g.M.ParseMode.mode l.fn.parser.open_blocks))
      g.M.ParseMode.mode l.kind l.fn.parser.open_blocks l.entries.items l.parser.rest.now l.fn.parser.rest.now;
  blocks : l.parser.open_blocks ≡ l.fn.parser.open_blocks;
  shrinks : length l.parser.rest.now ≤ length l.fn.parser.rest.now;
}

abbrev pub decreases-entries : goal.decreases-entries
decreases-entries g l = length l.parser.rest.now
