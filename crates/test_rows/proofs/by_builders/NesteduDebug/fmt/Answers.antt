use Rattle.ufmt.proofs.Printing.{LaysOut-err, entry, failed, finished, is_struct, not_opened, opened, written}
use Rattle.test_rows.proofs.by_builders.NesteduDebug.fmt.Goals as goal

pub returns-in_err-nested : goal.returns-in_err-nested
returns-in_err-nested g c = not_opened is_struct _ c.from_residual.ensures.0 c.in_err-nested.was c.debug_struct.follows.holds-at-none

pub returns-in_err-field : goal.returns-in_err-field
returns-in_err-field g c = LaysOut-err _ c.from_residual-in_err-field.ensures.0 (opened is_struct c.in_ok-nested.ensures.opening (failed (entry c.in_err-field.ensures.entry) (search)))

pub returns-in_err-field-2 : goal.returns-in_err-field-2
returns-in_err-field-2 g c = LaysOut-err _ c.from_residual-in_err-field-2.ensures.0 (opened is_struct c.in_ok-nested.ensures.opening (written (entry c.in_ok-field.ensures.entry) (failed (entry c.in_err-field-2.ensures.entry) (search))))

pub returns : goal.returns
returns g c = opened is_struct c.in_ok-nested.ensures.opening (written (entry c.in_ok-field.ensures.entry) (written (entry c.in_ok-field-2.ensures.entry) (finished c.finish.ensures (search))))
