use Rattle.ufmt_core.proofs.Alike.{tuple_alike}
use Rattle.ufmt_core.proofs.Printing.{completed, is_tuple, not_opened, opened}
use Rattle.ufmt_core.proofs.formatter.Formatter.tuple_of.Goals as goal

pub returns-in_err-builder : goal.returns-in_err-builder
returns-in_err-builder g c =
    let l = not_opened is_tuple _ c.from_residual.ensures.0 c.in_err-builder.was c.debug_tuple.follows.holds-at-none in
    record { lays_out = l; alike = tuple_alike l }

pub returns : goal.returns
returns g c =
    let l = opened is_tuple c.in_ok-builder.ensures.opening (completed c.finish.ensures (search)) in
    record { lays_out = l; alike = tuple_alike l }
