use Rattle.std.proofs.Common.{map, Ok, Err}
use Rattle.std.specs.List.{All}
use Rattle.ufmt.specs.Document.{documents, list_of}
use Rattle.ufmt_parser.proofs.Clauses.{none_clause, only_clause, taken_clause}
use Rattle.ufmt_parser.proofs.Views.{viewed, viewed_as}
use Rattle.ufmt_parse.proofs.std_impls.queues_and_slices.LinkedListuParse.parse_from.Goals as goal

pub returns-in-Ok-linked-clause-taken : goal.returns-in-Ok-linked-clause-taken
returns-in-Ok-linked-clause-taken g c =
    taken_clause g.M.ParseMode.mode (λ list. All g.T.uParse.is_value list)
    (λ list. list_of (documents (map g.T.uDebug.document list)))
    c.args.parser.now c.parse_list.new.parser (Ok c.in-Ok-linked.list) (viewed_as (λ list. list) c.in-Ok-linked.ensures c.in-Ok.ensures.takes)

pub returns-in-Ok-linked-clause-only : goal.returns-in-Ok-linked-clause-only
returns-in-Ok-linked-clause-only g c =
    only_clause g.M.ParseMode.mode (λ list. All g.T.uParse.is_value list)
    (λ list. list_of (documents (map g.T.uDebug.document list)))
    c.args.parser.now c.parse_list.new.parser (Ok c.in-Ok-linked.list) (viewed_as (λ list. list) c.in-Ok-linked.ensures c.in-Ok.ensures.takes)

pub returns-in-Err-clause-none : goal.returns-in-Err-clause-none
returns-in-Err-clause-none g c =
    none_clause g.M.ParseMode.mode (λ list. All g.T.uParse.is_value list)
    (λ list. list_of (documents (map g.T.uDebug.document list)))
    c.args.parser.now c.parse_list.new.parser (Err c.in-Err.fault) (viewed (λ list. list) c.in-Err.ensures.takes)
