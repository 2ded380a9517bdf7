use Rattle.std.proofs.Common.{map}
use Rattle.std.specs.List.{All}
use Rattle.std.specs.List.Sorted.{IsStrictlySortedBy}
use Rattle.std.specs.Map.{keys_of}
use Rattle.ufmt.specs.Document.{map_of, pairs_of}
use Rattle.ufmt_parser.specs.Blocks.{entry_documents, IsEntry}
use Rattle.ufmt_parser.proofs.Clauses.{none_clause, only_clause, taken_clause}
use Rattle.ufmt_parse.proofs.std_impls.sorted.BTreeMapuParse.parse_from.Goals as goal

pub returns-clause-taken : goal.returns-clause-taken
returns-clause-taken g c =
    taken_clause g.M.ParseMode.mode (λ found. All (IsEntry g.K.uParse.is_value g.V.uParse.is_value) found.entries × IsStrictlySortedBy g.K.Ord.cmp (keys_of found.entries))
    (λ found. map_of (pairs_of (map (entry_documents g.K.uDebug.document g.V.uDebug.document) found.entries)))
    c.args.parser.now c.parse_map.new.parser c.parse_map.result c.parse_map.ensures.takes

pub returns-clause-only : goal.returns-clause-only
returns-clause-only g c =
    only_clause g.M.ParseMode.mode (λ found. All (IsEntry g.K.uParse.is_value g.V.uParse.is_value) found.entries × IsStrictlySortedBy g.K.Ord.cmp (keys_of found.entries))
    (λ found. map_of (pairs_of (map (entry_documents g.K.uDebug.document g.V.uDebug.document) found.entries)))
    c.args.parser.now c.parse_map.new.parser c.parse_map.result c.parse_map.ensures.takes

pub returns-clause-none : goal.returns-clause-none
returns-clause-none g c =
    none_clause g.M.ParseMode.mode (λ found. All (IsEntry g.K.uParse.is_value g.V.uParse.is_value) found.entries × IsStrictlySortedBy g.K.Ord.cmp (keys_of found.entries))
    (λ found. map_of (pairs_of (map (entry_documents g.K.uDebug.document g.V.uDebug.document) found.entries)))
    c.args.parser.now c.parse_map.new.parser c.parse_map.result c.parse_map.ensures.takes
