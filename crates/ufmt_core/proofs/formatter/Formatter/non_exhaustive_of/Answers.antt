use Rattle.ufmt_core.proofs.Alike.{non_exhaustive_alike}
use Rattle.ufmt_core.proofs.Printing.{LaysOut-err, dotted, dotted_failed, dotted_not_opened}
use Rattle.ufmt_core.proofs.formatter.Formatter.non_exhaustive_of.Goals as goal

pub returns-in_err-builder : goal.returns-in_err-builder
returns-in_err-builder g c =
    let l = dotted_not_opened _ c.from_residual.ensures.0 c.in_err-builder.was c.debug_struct.follows.holds-at-none in
    record { lays_out = l; alike = non_exhaustive_alike l }

pub returns-in_err-write : goal.returns-in_err-write
returns-in_err-write g c =
    let l = LaysOut-err _ c.from_residual-in_err-write.ensures.0 (dotted_failed c.in_ok-builder.ensures.opening c.in_err-write.ensures (search)) in
    record { lays_out = l; alike = non_exhaustive_alike l }

pub returns : goal.returns
returns g c =
    let l = dotted c.in_ok-builder.ensures.opening c.in_ok-write.ensures c.finish_non_exhaustive.ensures (search) in
    record { lays_out = l; alike = non_exhaustive_alike l }
