use Rattle.std.proofs.Common.{◌≡◌, length, map}
use Rattle.std.specs.List.{All}
use Rattle.ufmt.specs.Document.{documents, list_of}
use Rattle.ufmt_parser.proofs.Clauses.{none_clause, only_clause, taken_clause}
use Rattle.ufmt_parse.proofs.std_impls.vectors.ArrayuParse.parse_from.Goals as goal

pub returns-clause-taken : goal.returns-clause-taken
returns-clause-taken g c =
    taken_clause g.M.ParseMode.mode (λ values. All g.T.uParse.is_value values × (length values ≡ g.row.N))
    (λ values. list_of (documents (map g.T.uDebug.document values)))
    c.args.parser.now c.parse_array.new.parser c.parse_array.result c.parse_array.ensures.takes

pub returns-clause-only : goal.returns-clause-only
returns-clause-only g c =
    only_clause g.M.ParseMode.mode (λ values. All g.T.uParse.is_value values × (length values ≡ g.row.N))
    (λ values. list_of (documents (map g.T.uDebug.document values)))
    c.args.parser.now c.parse_array.new.parser c.parse_array.result c.parse_array.ensures.takes

pub returns-clause-none : goal.returns-clause-none
returns-clause-none g c =
    none_clause g.M.ParseMode.mode (λ values. All g.T.uParse.is_value values × (length values ≡ g.row.N))
    (λ values. list_of (documents (map g.T.uDebug.document values)))
    c.args.parser.now c.parse_array.new.parser c.parse_array.result c.parse_array.ensures.takes
