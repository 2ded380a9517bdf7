use Rattle.std.proofs.Common.{Ok, Err}
use Rattle.std.specs.Char.{IsScalar}
use Rattle.ufmt.specs.Quoted.{quoted_char}
use Rattle.ufmt.specs.ValueDocuments.{character}
use Rattle.ufmt_parser.specs.Taking.{open_blocks, rest}
use Rattle.ufmt_parser.specs.declared.parser.Fault.TheVariants.{NotText}
use Rattle.ufmt_parser.proofs.Clauses.{none_clause, only_clause, taken_clause, taken_shrinks}
use Rattle.ufmt_parse_leaves.proofs.QuotedTaken.{char_taken, char_refused}
use Rattle.ufmt_parse.proofs.core_impls.characters.CharuParse.parse_from.Goals as goal

pub returns-in-None-clause-none : goal.returns-in-None-clause-none
returns-in-None-clause-none g c =
    rw c.refuse.ensures.fault (none_clause g.M.ParseMode.mode IsScalar character c.args.parser.now c.refuse.new.self (Err NotText)
    (char_refused (open_blocks c.args.parser.now) (rest c.args.parser.now) _ (rw c.rest.ensures.rest at c.in-None.ensures)))

pub returns-in-Some-clause-taken : goal.returns-in-Some-clause-taken
returns-in-Some-clause-taken g c =
    let is = rw c.rest.ensures.rest at c.in-Some.ensures in
    taken_clause g.M.ParseMode.mode IsScalar character c.args.parser.now c.skip_to.new.self (Ok c.in-Some.front.0)
    (rw c.skip_to.ensures.rest (char_taken (open_blocks c.args.parser.now) (rest c.args.parser.now) _ c.in-Some.front.0 c.rest.ensures.counted is.0 is.1))

pub returns-in-Some-clause-only : goal.returns-in-Some-clause-only
returns-in-Some-clause-only g c =
    let is = rw c.rest.ensures.rest at c.in-Some.ensures in
    only_clause g.M.ParseMode.mode IsScalar character c.args.parser.now c.skip_to.new.self (Ok c.in-Some.front.0)
    (rw c.skip_to.ensures.rest (char_taken (open_blocks c.args.parser.now) (rest c.args.parser.now) _ c.in-Some.front.0 c.rest.ensures.counted is.0 is.1))

pub returns-in-Some-clause-shrinks : goal.returns-in-Some-clause-shrinks
returns-in-Some-clause-shrinks g c = taken_shrinks (quoted_char c.in-Some.front.0) _ _ (returns-in-Some-clause-taken g c).0
