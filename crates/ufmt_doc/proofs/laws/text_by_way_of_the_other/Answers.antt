use Rattle.ufmt.specs.Layout.{setting}
use Rattle.ufmt_doc.proofs.ReadForms.{converted_form, other_other}
use Rattle.ufmt_doc.proofs.laws.text_by_way_of_the_other.Goals as goal

pub returns-clause-found : goal.returns-clause-found
returns-clause-found c = converted_form c.args.class (setting c.args.mode 0) _ _ _ (rw (c.other_mode.ensures, other_other) at c.in_ok-other.ensures.ok)

pub returns-clause-other : goal.returns-clause-other
returns-clause-other c = rw (c.other_mode.ensures, other_other) at c.in_ok-other.ensures.ok

pub returns-clause-back : goal.returns-clause-back
returns-clause-back c = rw c.as_bytes.ensures.value at c.in_ok-again.ensures.ok
