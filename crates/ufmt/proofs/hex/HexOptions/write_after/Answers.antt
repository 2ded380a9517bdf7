use Rattle.ufmt_core.proofs.Writing.{Prints-then, Prints-fails, Prints-err}
use Rattle.ufmt.proofs.Padding.{padded-placed}
use Rattle.ufmt.proofs.hex.HexOptions.write_after.Goals as goal

pub returns-in_err-write_padding : goal.returns-in_err-write_padding
returns-in_err-write_padding g c =
    let split = c.split_missing-before in
    rw (padded-placed c.args.prefix.now c.args.self.now c.args.payload.now c.missing.result split.result.0 split.result.1 c.missing.ensures split.ensures.before split.ensures.after)
    (Prints-err _ c.from_residual.ensures.0 (Prints-fails _ c.in_err-write_padding.ensures))

pub returns-in_err-write_prefix : goal.returns-in_err-write_prefix
returns-in_err-write_prefix g c =
    let split = c.split_missing-before in
    rw (padded-placed c.args.prefix.now c.args.self.now c.args.payload.now c.missing.result split.result.0 split.result.1 c.missing.ensures split.ensures.before split.ensures.after)
    (Prints-err _ c.from_residual-in_err-write_prefix.ensures.0 (Prints-then c.in_ok-write_padding.ensures (Prints-fails _ c.in_err-write_prefix.ensures)))

pub returns-in_err-write_padding-2 : goal.returns-in_err-write_padding-2
returns-in_err-write_padding-2 g c =
    let split = c.split_missing-before in
    rw (padded-placed c.args.prefix.now c.args.self.now c.args.payload.now c.missing.result split.result.0 split.result.1 c.missing.ensures split.ensures.before split.ensures.after)
    (Prints-err _ c.from_residual-in_err-write_padding-2.ensures.0
    (Prints-then c.in_ok-write_padding.ensures (Prints-then c.in_ok-write_prefix.ensures (Prints-fails _ c.in_err-write_padding-2.ensures))))

pub returns : goal.returns
returns g c =
    let split = c.split_missing-before in
    rw (padded-placed c.args.prefix.now c.args.self.now c.args.payload.now c.missing.result split.result.0 split.result.1 c.missing.ensures split.ensures.before split.ensures.after)
    (Prints-then c.in_ok-write_padding.ensures (Prints-then c.in_ok-write_prefix.ensures
    (Prints-then c.in_ok-write_padding-2.ensures c.write_str.ensures.prints)))
