use Rattle.ufmt_core.proofs.Alike.{struct_alike}
use Rattle.ufmt_core.proofs.Printing.{completed, is_struct, not_opened, opened}
use Rattle.ufmt_core.proofs.formatter.Formatter.struct_of.Goals as goal

pub returns-in_err-builder : goal.returns-in_err-builder
returns-in_err-builder g c =
    let l = not_opened is_struct _ c.from_residual.ensures.0 c.in_err-builder.was c.debug_struct.follows.holds-at-none in
    record { lays_out = l; alike = struct_alike l }

pub returns : goal.returns
returns g c =
    let l = opened is_struct c.in_ok-builder.ensures.opening (completed c.finish.ensures (search)) in
    record { lays_out = l; alike = struct_alike l }
