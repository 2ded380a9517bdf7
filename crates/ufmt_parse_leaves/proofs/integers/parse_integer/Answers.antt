use Rattle.std.proofs.Common.{◌<◌, Ok, Err}
use Rattle.ufmt_core.specs.Decimal.{decimal}
use Rattle.ufmt_core.specs.Document.{leaf}
use Rattle.ufmt_parser.specs.Taking.{open_blocks, rest}
use Rattle.ufmt_parser.specs.declared.parser.Fault.TheVariants.{NotText}
use Rattle.ufmt_parser.proofs.Clauses.{none_clause, only_clause, taken_clause, taken_shrinks}
use Rattle.ufmt_parse_leaves.proofs.IntegerFronts.{integer_taken, integer_refused, magnitude_refused}
use Rattle.ufmt_parse_leaves.proofs.integers.parse_integer.Goals as goal

pub returns-in-None-clause-none : goal.returns-in-None-clause-none
returns-in-None-clause-none g c =
    let splits = rw c.rest.ensures.rest at c.split_sign-negative.ensures in
    rw c.refuse_outside.ensures.fault (none_clause g.M.ParseMode.mode g.T.Integer.in_range (λ v. leaf (decimal (g.T.Integer.int v))) c.args.parser.now c.refuse_outside.new.parser (Err NotText)
    (magnitude_refused g.T.Integer.in_range g.T.Integer.int (open_blocks c.args.parser.now) (rest c.args.parser.now) _ _ splits (λ n. n < g.N.Magnitude.bound) _
    (rw c.in-None.is at c.split_magnitude.ensures) c.prove_fits.ensures))

pub returns-in-None-from_magnitude-clause-none : goal.returns-in-None-from_magnitude-clause-none
returns-in-None-from_magnitude-clause-none g c =
    let splits = rw c.rest.ensures.rest at c.split_sign-negative.ensures in
    rw c.refuse_outside-in-None-from_magnitude.ensures.fault (none_clause g.M.ParseMode.mode g.T.Integer.in_range (λ v. leaf (decimal (g.T.Integer.int v))) c.args.parser.now c.refuse_outside-in-None-from_magnitude.new.parser (Err NotText)
    (integer_refused g.T.Integer.in_range g.T.Integer.int (open_blocks c.args.parser.now) (rest c.args.parser.now) _ _ splits _ _ _ c.in-Some.ensures.0
    c.in-None-from_magnitude.ensures))

pub returns-in-Some-from_magnitude-clause-taken : goal.returns-in-Some-from_magnitude-clause-taken
returns-in-Some-from_magnitude-clause-taken g c =
    let splits = rw c.rest.ensures.rest at c.split_sign-negative.ensures in
    let value = c.in-Some-from_magnitude.ensures in
    taken_clause g.M.ParseMode.mode g.T.Integer.in_range (λ v. leaf (decimal (g.T.Integer.int v))) c.args.parser.now c.skip_to.new.self (Ok c.in-Some-from_magnitude.value)
    (rw (c.skip_to.ensures.rest) (integer_taken g.T.Integer.in_range g.T.Integer.int (open_blocks c.args.parser.now) (rest c.args.parser.now) _ _ splits _ _ _
    c.rest.ensures.counted c.in-Some.ensures.0 value.0 value.1))

pub returns-in-Some-from_magnitude-clause-only : goal.returns-in-Some-from_magnitude-clause-only
returns-in-Some-from_magnitude-clause-only g c =
    let splits = rw c.rest.ensures.rest at c.split_sign-negative.ensures in
    let value = c.in-Some-from_magnitude.ensures in
    only_clause g.M.ParseMode.mode g.T.Integer.in_range (λ v. leaf (decimal (g.T.Integer.int v))) c.args.parser.now c.skip_to.new.self (Ok c.in-Some-from_magnitude.value)
    (rw (c.skip_to.ensures.rest) (integer_taken g.T.Integer.in_range g.T.Integer.int (open_blocks c.args.parser.now) (rest c.args.parser.now) _ _ splits _ _ _
    c.rest.ensures.counted c.in-Some.ensures.0 value.0 value.1))

pub returns-in-Some-from_magnitude-clause-shrinks : goal.returns-in-Some-from_magnitude-clause-shrinks
returns-in-Some-from_magnitude-clause-shrinks g c =
    taken_shrinks (decimal (g.T.Integer.int c.in-Some-from_magnitude.value)) _ _ (returns-in-Some-from_magnitude-clause-taken g c).0
