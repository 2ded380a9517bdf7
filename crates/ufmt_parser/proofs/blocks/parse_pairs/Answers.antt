use Rattle.ufmt_parser.specs.Taking.{open_blocks}
use Rattle.ufmt_parser.proofs.ListedPairs.{map_taken}
use Rattle.ufmt_parser.proofs.ListedValues.{document_begins_entry}
use Rattle.ufmt_parser.proofs.WholeBlocks.{begins_longer}
use Rattle.ufmt_parser.proofs.blocks.parse_pairs.Goals as goal

pub parse_entries-requires-clause-begin : goal.parse_entries-requires-clause-begin
parse_entries-requires-clause-begin g c = λ blocks s e ((is, (built, deep)), value). begins_longer (document_begins_entry s (g.T.uDebug.document e.0) built) _

pub returns-clause-takes : goal.returns-clause-takes
returns-clause-takes g c = map_taken g.K.ParsesBy.is_value g.P.ParsesBy.is_value g.T.uDebug.document g.U.uDebug.document (open_blocks c.args.parser.now) g.M.ParseMode.mode
    c.parse_entries.ensures.takes
