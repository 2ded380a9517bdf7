use Rattle.ufmt.proofs.Printing.{LaysOut-err, entry, failed, finished, is_tuple, not_opened, opened, written}
use Rattle.test_rows.proofs.by_builders.YuDebug.fmt.Goals as goal

pub returns-in_err-f-in-W : goal.returns-in_err-f-in-W
returns-in_err-f-in-W g c = rw c.in-W.is (not_opened is_tuple _ c.from_residual.ensures.0 c.in_err-f-in-W.was c.debug_tuple.follows.holds-at-none)

pub returns-in_ok-f-in-W : goal.returns-in_ok-f-in-W
returns-in_ok-f-in-W g c = rw c.in-W.is (opened is_tuple c.in_ok-f-in-W.ensures.opening (finished c.finish.ensures (search)))

pub returns-in_err-tuple-in-Z : goal.returns-in_err-tuple-in-Z
returns-in_err-tuple-in-Z g c = rw c.in-Z.is (not_opened is_tuple _ c.from_residual-in_err-tuple-in-Z.ensures.0 c.in_err-tuple-in-Z.was c.debug_tuple-in-Z.follows.holds-at-none)

pub returns-in_err-field-in-Z : goal.returns-in_err-field-in-Z
returns-in_err-field-in-Z g c = rw c.in-Z.is (LaysOut-err _ c.from_residual-in_err-field-in-Z.ensures.0 (opened is_tuple c.in_ok-tuple-in-Z.ensures.opening (failed (entry c.in_err-field-in-Z.ensures.entry) (search))))

pub returns-in_ok-field-in-Z : goal.returns-in_ok-field-in-Z
returns-in_ok-field-in-Z g c = rw c.in-Z.is (opened is_tuple c.in_ok-tuple-in-Z.ensures.opening (written (entry c.in_ok-field-in-Z.ensures.entry) (finished c.finish-in-Z.ensures (search))))
