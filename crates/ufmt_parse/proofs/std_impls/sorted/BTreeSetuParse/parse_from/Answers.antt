use Rattle.std.proofs.Common.{map}
use Rattle.std.specs.List.{All}
use Rattle.std.specs.List.Sorted.{IsStrictlySortedBy}
use Rattle.ufmt.specs.Document.{documents, set_of}
use Rattle.ufmt_parser.proofs.Clauses.{none_clause, only_clause, taken_clause}
use Rattle.ufmt_parse.proofs.std_impls.sorted.BTreeSetuParse.parse_from.Goals as goal

pub returns-clause-taken : goal.returns-clause-taken
returns-clause-taken g c =
    taken_clause g.M.ParseMode.mode (λ set. All g.T.uParse.is_value set.keys × IsStrictlySortedBy g.T.Ord.cmp set.keys)
    (λ set. set_of (documents (map g.T.uDebug.document set.keys)))
    c.args.parser.now c.parse_set.new.parser c.parse_set.result c.parse_set.ensures.takes

pub returns-clause-only : goal.returns-clause-only
returns-clause-only g c =
    only_clause g.M.ParseMode.mode (λ set. All g.T.uParse.is_value set.keys × IsStrictlySortedBy g.T.Ord.cmp set.keys)
    (λ set. set_of (documents (map g.T.uDebug.document set.keys)))
    c.args.parser.now c.parse_set.new.parser c.parse_set.result c.parse_set.ensures.takes

pub returns-clause-none : goal.returns-clause-none
returns-clause-none g c =
    none_clause g.M.ParseMode.mode (λ set. All g.T.uParse.is_value set.keys × IsStrictlySortedBy g.T.Ord.cmp set.keys)
    (λ set. set_of (documents (map g.T.uDebug.document set.keys)))
    c.args.parser.now c.parse_set.new.parser c.parse_set.result c.parse_set.ensures.takes
