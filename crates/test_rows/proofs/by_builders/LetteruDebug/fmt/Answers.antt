use Rattle.ufmt.proofs.Printing.{LaysOut-err, entry, failed, finished, is_struct, is_tuple, not_opened, opened, written}
use Rattle.test_rows.proofs.by_builders.LetteruDebug.fmt.Goals as goal

pub returns-in_err-f-in-A : goal.returns-in_err-f-in-A
returns-in_err-f-in-A g c = rw c.in-A.is (not_opened is_tuple _ c.from_residual.ensures.0 c.in_err-f-in-A.was c.debug_tuple.follows.holds-at-none)

pub returns-in_ok-f-in-A : goal.returns-in_ok-f-in-A
returns-in_ok-f-in-A g c = rw c.in-A.is (opened is_tuple c.in_ok-f-in-A.ensures.opening (finished c.finish.ensures (search)))

pub returns-in_err-tuple-in-B : goal.returns-in_err-tuple-in-B
returns-in_err-tuple-in-B g c = rw c.in-B.is (not_opened is_tuple _ c.from_residual-in_err-tuple-in-B.ensures.0 c.in_err-tuple-in-B.was c.debug_tuple-in-B.follows.holds-at-none)

pub returns-in_err-field-in-B : goal.returns-in_err-field-in-B
returns-in_err-field-in-B g c = rw c.in-B.is (LaysOut-err _ c.from_residual-in_err-field-in-B.ensures.0 (opened is_tuple c.in_ok-tuple-in-B.ensures.opening (failed (entry c.in_err-field-in-B.ensures.entry) (search))))

pub returns-in_err-field-in-B-2 : goal.returns-in_err-field-in-B-2
returns-in_err-field-in-B-2 g c = rw c.in-B.is (LaysOut-err _ c.from_residual-in_err-field-in-B-2.ensures.0 (opened is_tuple c.in_ok-tuple-in-B.ensures.opening (written (entry c.in_ok-field-in-B.ensures.entry) (failed (entry c.in_err-field-in-B-2.ensures.entry) (search)))))

pub returns-in_ok-field-in-B-2 : goal.returns-in_ok-field-in-B-2
returns-in_ok-field-in-B-2 g c = rw c.in-B.is (opened is_tuple c.in_ok-tuple-in-B.ensures.opening (written (entry c.in_ok-field-in-B.ensures.entry) (written (entry c.in_ok-field-in-B-2.ensures.entry) (finished c.finish-in-B.ensures (search)))))

pub returns-in_err-builder-in-C : goal.returns-in_err-builder-in-C
returns-in_err-builder-in-C g c = rw c.in-C.is (not_opened is_struct _ c.from_residual-in_err-builder-in-C.ensures.0 c.in_err-builder-in-C.was c.debug_struct.follows.holds-at-none)

pub returns-in_err-field-in-C : goal.returns-in_err-field-in-C
returns-in_err-field-in-C g c = rw c.in-C.is (LaysOut-err _ c.from_residual-in_err-field-in-C.ensures.0 (opened is_struct c.in_ok-builder-in-C.ensures.opening (failed (entry c.in_err-field-in-C.ensures.entry) (search))))

pub returns-in_err-field-in-C-2 : goal.returns-in_err-field-in-C-2
returns-in_err-field-in-C-2 g c = rw c.in-C.is (LaysOut-err _ c.from_residual-in_err-field-in-C-2.ensures.0 (opened is_struct c.in_ok-builder-in-C.ensures.opening (written (entry c.in_ok-field-in-C.ensures.entry) (failed (entry c.in_err-field-in-C-2.ensures.entry) (search)))))

pub returns-in_ok-field-in-C-2 : goal.returns-in_ok-field-in-C-2
returns-in_ok-field-in-C-2 g c = rw c.in-C.is (opened is_struct c.in_ok-builder-in-C.ensures.opening (written (entry c.in_ok-field-in-C.ensures.entry) (written (entry c.in_ok-field-in-C-2.ensures.entry) (finished c.finish-in-C.ensures (search)))))
