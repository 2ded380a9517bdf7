use Rattle.ufmt.proofs.Printing.{LaysOut-err, entry, failed, finished, is_tuple, not_opened, opened, written}
use Rattle.test_rows.proofs.by_builders.TupleuDebug.fmt.Goals as goal

pub returns-in_err-tuple : goal.returns-in_err-tuple
returns-in_err-tuple g c = not_opened is_tuple _ c.from_residual.ensures.0 c.in_err-tuple.was c.debug_tuple.follows.holds-at-none

pub returns-in_err-field : goal.returns-in_err-field
returns-in_err-field g c = LaysOut-err _ c.from_residual-in_err-field.ensures.0 (opened is_tuple c.in_ok-tuple.ensures.opening (failed (entry c.in_err-field.ensures.entry) (search)))

pub returns-in_err-field-2 : goal.returns-in_err-field-2
returns-in_err-field-2 g c = LaysOut-err _ c.from_residual-in_err-field-2.ensures.0 (opened is_tuple c.in_ok-tuple.ensures.opening (written (entry c.in_ok-field.ensures.entry) (failed (entry c.in_err-field-2.ensures.entry) (search))))

pub returns : goal.returns
returns g c = opened is_tuple c.in_ok-tuple.ensures.opening (written (entry c.in_ok-field.ensures.entry) (written (entry c.in_ok-field-2.ensures.entry) (finished c.finish.ensures (search))))
