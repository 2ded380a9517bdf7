use Rattle.ufmt_core.proofs.Writing.{Writes-fails, Writes-then}
use Rattle.ufmt.proofs.Dumps.{missing_width}
use Rattle.ufmt.proofs.LeftToWrite.{Writes-err}
use Rattle.ufmt.proofs.dump.HexDump.write_missing.Goals as goal

pub returns-in_err-write_spaces : goal.returns-in_err-write_spaces
returns-in_err-write_spaces g c =
    let per_row = c.bytes_per_row-per_row in
    let group = c.bytes_per_group-group in
    let within = rw (← per_row.ensures.value) at c.requires.within in
    rw (← group.ensures.value, ← per_row.ensures.value, missing_width group.result per_row.result c.args.length group.ensures.some c.requires.some within)
    (Writes-err _ c.from_residual.ensures.0 (Writes-fails _ c.in_err-write_spaces.ensures))

pub returns-in_err-write_spaces-2 : goal.returns-in_err-write_spaces-2
returns-in_err-write_spaces-2 g c =
    let per_row = c.bytes_per_row-per_row in
    let group = c.bytes_per_group-group in
    let within = rw (← per_row.ensures.value) at c.requires.within in
    rw (← group.ensures.value, ← per_row.ensures.value, missing_width group.result per_row.result c.args.length group.ensures.some c.requires.some within)
    (Writes-err _ c.from_residual-in_err-write_spaces-2.ensures.0 (Writes-then c.in_ok-write_spaces.ensures (Writes-fails _ c.in_err-write_spaces-2.ensures)))

pub returns : goal.returns
returns g c =
    let per_row = c.bytes_per_row-per_row in
    let group = c.bytes_per_group-group in
    let within = rw (← per_row.ensures.value) at c.requires.within in
    rw (← group.ensures.value, ← per_row.ensures.value, missing_width group.result per_row.result c.args.length group.ensures.some c.requires.some within)
    (Writes-then c.in_ok-write_spaces.ensures (Writes-then c.in_ok-write_spaces-2.ensures c.write_spaces-3.ensures))
