use Rattle.std.proofs.Common.{◌∙◌, sym, refl, true, false}
use Rattle.ufmt_values.proofs.FieldTurns.{answer_is, field_read, further, next_smaller, no_colon, no_further, no_name, no_value_read}
use Rattle.ufmt_values.proofs.field.leaf_among.Goals as goal

pub returns-in_err-field : goal.returns-in_err-field
returns-in_err-field c = λ answer comes.
    rw c.from_residual.ensures (no_name c.args.class c.args.name.now c.fields.rest.now answer (c.fields.invariant answer comes) c.in_err-field.ensures)

pub returns-in_err-value : goal.returns-in_err-value
returns-in_err-value c = λ answer comes.
    rw c.from_residual-in_err-value.ensures
    (no_colon c.args.class c.args.name.now c.fields.rest.now answer (c.fields.invariant answer comes) c.in_ok-field.field.now c.in_ok-field.after.now c.in_ok-field.ensures c.in_err-value.ensures)

pub returns-in_err-front : goal.returns-in_err-front
returns-in_err-front c = λ answer comes.
    rw c.from_residual-in_err-front.ensures
    (no_value_read c.args.class c.args.name.now c.fields.rest.now answer (c.fields.invariant answer comes) c.in_ok-field.field.now c.in_ok-field.after.now c.in_ok-value.value.now
    c.in_ok-field.ensures c.in_ok-value.ensures (c.in_err-front.ensures.none refl))

pub returns-then-front : goal.returns-then-front
returns-then-front c = λ answer comes.
    let read = field_read c.args.class c.args.name.now c.fields.rest.now answer (c.fields.invariant answer comes) c.in_ok-field.field.now c.in_ok-field.after.now c.in_ok-value.value.now
    c.in_ok-field.ensures c.in_ok-value.ensures c.in_ok-front.front c.in_ok-front.ensures.some in
    rw (c.split_at.ensures.front, c.split_at.ensures.back)
    (answer_is c.args.class c.args.name.now c.in_ok-field.field.now c.in_ok-value.value.now c.in_ok-front.front answer read (sym c.eq.ensures ∙ c.if-eq.true) true c.if-front.true)

pub returns-else-front : goal.returns-else-front
returns-else-front c = λ answer comes.
    let read = field_read c.args.class c.args.name.now c.fields.rest.now answer (c.fields.invariant answer comes) c.in_ok-field.field.now c.in_ok-field.after.now c.in_ok-value.value.now
    c.in_ok-field.ensures c.in_ok-value.ensures c.in_ok-front.front c.in_ok-front.ensures.some in
    answer_is c.args.class c.args.name.now c.in_ok-field.field.now c.in_ok-value.value.now c.in_ok-front.front answer read (sym c.eq.ensures ∙ c.if-eq.true) false c.if-front.false

pub returns-in_err-rest : goal.returns-in_err-rest
returns-in_err-rest c = λ answer comes.
    let read = field_read c.args.class c.args.name.now c.fields.rest.now answer (c.fields.invariant answer comes) c.in_ok-field.field.now c.in_ok-field.after.now c.in_ok-value.value.now
    c.in_ok-field.ensures c.in_ok-value.ensures c.in_ok-front.front c.in_ok-front.ensures.some in
    rw c.from_residual-in_err-rest.ensures
    (no_further c.args.class c.args.name.now c.in_ok-field.field.now c.in_ok-value.value.now c.in_ok-front.front answer read (sym c.eq.ensures ∙ c.if-eq.false)
    (rw c.split_at.ensures.back at c.in_err-rest.ensures))

pub fields-smaller : goal.fields-smaller
fields-smaller c =
    next_smaller c.args.class c.fields.rest.now c.in_ok-field.field.now c.in_ok-field.after.now c.in_ok-value.value.now c.in_ok-front.front.len c.in_ok-field.ensures c.in_ok-value.ensures
    c.in_ok-rest.rest.now (rw c.split_at.ensures.back at c.in_ok-rest.ensures)

pub fields-preserved : goal.fields-preserved
fields-preserved c = λ answer comes.
    let read = field_read c.args.class c.args.name.now c.fields.rest.now answer (c.fields.invariant answer comes) c.in_ok-field.field.now c.in_ok-field.after.now c.in_ok-value.value.now
    c.in_ok-field.ensures c.in_ok-value.ensures c.in_ok-front.front c.in_ok-front.ensures.some in
    further c.args.class c.args.name.now c.in_ok-field.field.now c.in_ok-value.value.now c.in_ok-front.front answer read (sym c.eq.ensures ∙ c.if-eq.false) c.in_ok-rest.rest.now
    (rw c.split_at.ensures.back at c.in_ok-rest.ensures)
