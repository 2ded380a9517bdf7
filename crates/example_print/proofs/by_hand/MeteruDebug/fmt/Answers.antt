use Rattle.ufmt.proofs.Printing.{LaysOut-err, WritesAll-fails, WritesAll-none, WritesAll-then, dotted, dotted_failed, dotted_not_opened}
use Rattle.example_print.proofs.by_hand.MeteruDebug.fmt.Goals as goal

pub returns-in_err-meter : goal.returns-in_err-meter
returns-in_err-meter g c = dotted_not_opened _ c.from_residual.ensures.0 c.in_err-meter.was c.debug_struct.follows.holds-at-none

pub returns-in_err-field : goal.returns-in_err-field
returns-in_err-field g c =
    LaysOut-err _ c.from_residual-in_err-field.ensures.0
    (dotted_failed c.in_ok-meter.ensures.opening (WritesAll-fails c.in_err-field.ensures.entry) (search))

pub returns : goal.returns
returns g c =
    dotted c.in_ok-meter.ensures.opening (WritesAll-then c.in_ok-field.ensures.entry (WritesAll-none _ c.in_ok-field.ensures.is_open))
    c.finish_non_exhaustive.ensures (search)
