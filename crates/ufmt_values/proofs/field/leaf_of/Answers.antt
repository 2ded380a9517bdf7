use Rattle.ufmt_values.proofs.FieldSearch.{value_shape}
use Rattle.ufmt_values.proofs.FieldTurns.{fields_come, no_brace, no_space, struct_unnamed}
use Rattle.ufmt_values.proofs.field.leaf_of.Goals as goal

pub returns-in_err-after : goal.returns-in_err-after
returns-in_err-after c = λ d rest is.
    rw c.from_residual.ensures (struct_unnamed c.args.class c.args.name.now c.args.text.now d rest (value_shape c.args.class c.args.text.now d rest is) c.in_err-after.ensures)

pub returns-in_err-inside : goal.returns-in_err-inside
returns-in_err-inside c = λ d rest is.
    rw c.from_residual-in_err-inside.ensures
    (no_brace c.args.class c.args.name.now c.args.text.now d rest c.in_ok-after.field-0-0.now c.in_ok-after.after.now c.in_ok-after.ensures (value_shape c.args.class c.args.text.now d rest is)
    c.in_err-inside.ensures)

pub returns-in_err-fields : goal.returns-in_err-fields
returns-in_err-fields c = λ d rest is.
    rw c.from_residual-in_err-fields.ensures
    (no_space c.args.class c.args.name.now c.args.text.now d rest c.in_ok-after.field-0-0.now c.in_ok-after.after.now c.in_ok-after.ensures c.in_ok-inside.inside.now c.in_ok-inside.ensures
    (value_shape c.args.class c.args.text.now d rest is) c.in_err-fields.ensures)

pub returns : goal.returns
returns c = λ d rest is.
    c.leaf_among.ensures _
    (fields_come c.args.class c.args.name.now c.args.text.now d rest c.in_ok-after.field-0-0.now c.in_ok-after.after.now c.in_ok-after.ensures c.in_ok-inside.inside.now c.in_ok-inside.ensures
    (value_shape c.args.class c.args.text.now d rest is) c.in_ok-fields.fields.now c.in_ok-fields.ensures)
