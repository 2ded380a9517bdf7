use Rattle.ufmt_parser.specs.Taking.{open_blocks}
use Rattle.ufmt_parser.proofs.ListedValues.{document_begins_entry, set_taken}
use Rattle.ufmt_parser.proofs.blocks.parse_keys.Goals as goal

pub parse_entries-requires-clause-begin : goal.parse_entries-requires-clause-begin
parse_entries-requires-clause-begin g c = λ blocks s e fits. document_begins_entry s (g.T.uDebug.document e) fits.1.0

pub returns-clause-takes : goal.returns-clause-takes
returns-clause-takes g c =
    set_taken g.P.ParsesBy.is_value g.T.uDebug.document (open_blocks c.args.parser.now) g.M.ParseMode.mode c.parse_entries.ensures.takes
