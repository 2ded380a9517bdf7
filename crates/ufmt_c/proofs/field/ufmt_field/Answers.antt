use Rattle.std.proofs.Common.{rules, sym}
use Rattle.ufmt_c.specs.Fields.{FindsField}
use Rattle.ufmt_c.proofs.field.ufmt_field.Goals as goal

pub returns-in-Some-find_field-clause-field : goal.returns-in-Some-find_field-clause-field
returns-in-Some-find_field-clause-field c class utf8 =
    let found = c.in-Some-find_field.ensures in
    let within = found.place.within in
    rw (← c.in-Some.ensures.1, ← c.in-Some-text_of.ensures.1)
    (FindsField.field c.in-Some-find_field.field.text.now (sym found.field) (search (rules, within)))
