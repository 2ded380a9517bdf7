use Rattle.std.proofs.Common.{Ok, Err, to_z-of_z}
use Rattle.ufmt.specs.FixedPoint.{fixed}
use Rattle.ufmt.specs.declared.decimal.Decimal.{Decimal}
use Rattle.ufmt_parser.specs.Taking.{open_blocks, rest}
use Rattle.ufmt_parser.specs.declared.parser.Fault.TheVariants.{NotText}
use Rattle.ufmt_parser.proofs.Clauses.{none_clause, only_clause, taken_clause, taken_shrinks}
use Rattle.ufmt_parse.proofs.DecimalsTaken.{IsDecimal, decimal_document, decimal_refused, decimal_taken}
use Rattle.ufmt_parse.proofs.decimal.DecimaluParse.parse_from.Goals as goal

pub returns-in-None-clause-none : goal.returns-in-None-clause-none
returns-in-None-clause-none g c =
    rw c.refuse.ensures.fault (none_clause g.M.ParseMode.mode IsDecimal decimal_document c.args.parser.now c.refuse.new.self (Err NotText)
    (decimal_refused (open_blocks c.args.parser.now) (rest c.args.parser.now) _ (rw c.rest.ensures.rest at c.in-None.ensures)))

pub returns-in-Some-clause-taken : goal.returns-in-Some-clause-taken
returns-in-Some-clause-taken g c =
    let is = rw c.rest.ensures.rest at c.in-Some.ensures in
    let d : Decimal = record { value = c.in-Some.value; places = c.in-Some.places } in
    rw (to_z-of_z is.0.0) (taken_clause g.M.ParseMode.mode IsDecimal decimal_document c.args.parser.now c.skip_to.new.self (Ok d)
    (rw c.skip_to.ensures.rest (decimal_taken (open_blocks c.args.parser.now) (rest c.args.parser.now) _ d c.rest.ensures.counted is.0 is.1 is.2)))

pub returns-in-Some-clause-only : goal.returns-in-Some-clause-only
returns-in-Some-clause-only g c =
    let is = rw c.rest.ensures.rest at c.in-Some.ensures in
    let d : Decimal = record { value = c.in-Some.value; places = c.in-Some.places } in
    only_clause g.M.ParseMode.mode IsDecimal decimal_document c.args.parser.now c.skip_to.new.self (Ok d)
    (rw c.skip_to.ensures.rest (decimal_taken (open_blocks c.args.parser.now) (rest c.args.parser.now) _ d c.rest.ensures.counted is.0 is.1 is.2))

pub returns-in-Some-clause-shrinks : goal.returns-in-Some-clause-shrinks
returns-in-Some-clause-shrinks g c =
    let is = rw c.rest.ensures.rest at c.in-Some.ensures in
    taken_shrinks (fixed c.in-Some.places c.in-Some.value) (rest c.args.parser.now) (rest c.skip_to.new.self) (rw c.skip_to.ensures.rest is.1)
