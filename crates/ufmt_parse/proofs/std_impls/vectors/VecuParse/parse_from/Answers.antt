use Rattle.std.proofs.Common.{map}
use Rattle.std.specs.List.{All}
use Rattle.ufmt.specs.Document.{documents, list_of}
use Rattle.ufmt_parser.proofs.Clauses.{none_clause, only_clause, taken_clause}
use Rattle.ufmt_parser.proofs.Views.{viewed}
use Rattle.ufmt_parse.proofs.std_impls.vectors.VecuParse.parse_from.Goals as goal

pub returns-clause-taken : goal.returns-clause-taken
returns-clause-taken g c =
    taken_clause g.M.ParseMode.mode (λ values. All g.T.uParse.is_value values.items)
    (λ values. list_of (documents (map g.T.uDebug.document values.items)))
    c.args.parser.now c.parse_list.new.parser c.parse_list.result (viewed (λ values. values.items) c.parse_list.ensures.takes)

pub returns-clause-only : goal.returns-clause-only
returns-clause-only g c =
    only_clause g.M.ParseMode.mode (λ values. All g.T.uParse.is_value values.items)
    (λ values. list_of (documents (map g.T.uDebug.document values.items)))
    c.args.parser.now c.parse_list.new.parser c.parse_list.result (viewed (λ values. values.items) c.parse_list.ensures.takes)

pub returns-clause-none : goal.returns-clause-none
returns-clause-none g c =
    none_clause g.M.ParseMode.mode (λ values. All g.T.uParse.is_value values.items)
    (λ values. list_of (documents (map g.T.uDebug.document values.items)))
    c.args.parser.now c.parse_list.new.parser c.parse_list.result (viewed (λ values. values.items) c.parse_list.ensures.takes)
