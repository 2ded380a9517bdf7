use Rattle.std.proofs.Common.{to_z-of_z}
use Rattle.ufmt_parse_leaves.proofs.FixedFronts.{no_number, no_value, no_whole, number_found}
use Rattle.ufmt_parse_leaves.proofs.fixed_point.split_fixed.Goals as goal

pub returns-in_err-whole : goal.returns-in_err-whole
returns-in_err-whole c =
    rw c.from_residual.ensures (no_whole c.args.input.now (rw c.split_minus-negative.ensures.after at c.in_err-whole.ensures))

pub returns-in_err-magnitude : goal.returns-in_err-magnitude
returns-in_err-magnitude c =
    rw c.from_residual-in_err-magnitude.ensures
    (no_number c.args.input.now _ _ (rw c.split_minus-negative.ensures.after at c.in_ok-whole.ensures).0 c.in_err-magnitude.ensures)

pub returns-in_err-value : goal.returns-in_err-value
returns-in_err-value c =
    rw c.from_residual-in_err-value.ensures
    (no_value c.args.input.now _ _ (rw c.split_minus-negative.ensures.after at c.in_ok-whole.ensures).0 _ _ _ c.in_ok-magnitude.ensures
    (rw c.split_minus-negative.ensures.minus at c.in_err-value.ensures))

pub returns : goal.returns
returns c =
    let front = (rw c.split_minus-negative.ensures.after at c.in_ok-whole.ensures).0 in
    let value = rw c.split_minus-negative.ensures.minus at c.in_ok-value.ensures in
    rw (to_z-of_z value.0) (number_found c.args.input.now _ _ front _ _ _ c.in_ok-magnitude.ensures c.in_ok-value.value value.0 value.1)
