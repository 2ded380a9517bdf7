use Rattle.std.proofs.Common.{map, Ok, Err}
use Rattle.std.specs.Cow.{cow_slice_items}
use Rattle.std.specs.List.{All}
use Rattle.std.specs.declared.borrow.CowSlice.TheVariants.{Owned}
use Rattle.ufmt.specs.Document.{documents, list_of}
use Rattle.ufmt_parser.proofs.Clauses.{none_clause, only_clause, taken_clause}
use Rattle.ufmt_parser.proofs.Views.{viewed}
use Rattle.ufmt_parse.proofs.std_impls.queues_and_slices.CowSliceuParse.parse_from.Goals as goal

pub returns-clause-taken : goal.returns-clause-taken
returns-clause-taken g c =
    taken_clause g.M.ParseMode.mode (λ slice. All g.T.uParse.is_value (cow_slice_items slice))
    (λ slice. list_of (documents (map g.T.uDebug.document (cow_slice_items slice))))
    c.args.parser.now c.parse_list.new.parser (Ok (Owned c.in-Ok.value)) (viewed cow_slice_items c.in-Ok.ensures.takes)

pub returns-clause-only : goal.returns-clause-only
returns-clause-only g c =
    only_clause g.M.ParseMode.mode (λ slice. All g.T.uParse.is_value (cow_slice_items slice))
    (λ slice. list_of (documents (map g.T.uDebug.document (cow_slice_items slice))))
    c.args.parser.now c.parse_list.new.parser (Ok (Owned c.in-Ok.value)) (viewed cow_slice_items c.in-Ok.ensures.takes)

pub returns-in-Err-clause-none : goal.returns-in-Err-clause-none
returns-in-Err-clause-none g c =
    none_clause g.M.ParseMode.mode (λ slice. All g.T.uParse.is_value (cow_slice_items slice))
    (λ slice. list_of (documents (map g.T.uDebug.document (cow_slice_items slice))))
    c.args.parser.now c.parse_list.new.parser (Err c.in-Err.fault) (viewed cow_slice_items c.in-Err.ensures.takes)
