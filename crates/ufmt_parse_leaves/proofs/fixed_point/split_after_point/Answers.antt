use Rattle.std.proofs.Common.{arith}
use Rattle.ufmt_parse_leaves.proofs.PlaceFronts.{after_digits-le, no_places_there, places_complete, too_large}
use Rattle.ufmt_parse_leaves.proofs.fixed_point.split_after_point.Goals as goal

pub returns-in_err-magnitude : goal.returns-in_err-magnitude
returns-in_err-magnitude c = rw c.from_residual.ensures (too_large c.args.whole c.args.digits.now c.in_err-magnitude.ensures)

pub overflow_sub-digits : goal.overflow_sub-digits
overflow_sub-digits c = rw c.in_ok-magnitude.ensures.2 (after_digits-le c.args.digits.now)

pub returns-in_err-places : goal.returns-in_err-places
returns-in_err-places c =
    rw c.from_residual-in_err-places.ensures
    (no_places_there c.args.whole c.args.digits.now (rw c.in_ok-magnitude.ensures.2 at c.in_err-places.ensures))

pub returns : goal.returns
returns c =
    let found = c.in_ok-magnitude.ensures in
    let places = c.in_ok-places.ensures in
    places_complete c.args.whole c.args.digits.now _ _ _ found.0 found.1 found.2 places.0 (omega (arith, places.0, places.1)) (omega arith)
