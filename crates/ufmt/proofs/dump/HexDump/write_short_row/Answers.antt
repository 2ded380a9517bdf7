use Rattle.ufmt_core.proofs.Writing.{Writes-fails, Writes-then}
use Rattle.ufmt.proofs.LeftToWrite.{Writes-err}
use Rattle.ufmt.proofs.dump.HexDump.write_short_row.Goals as goal

pub returns-in_err-write_offset : goal.returns-in_err-write_offset
returns-in_err-write_offset g c = Writes-err _ c.from_residual.ensures.0 (Writes-fails _ c.in_err-write_offset.ensures)

pub returns-in_err-write_str : goal.returns-in_err-write_str
returns-in_err-write_str g c =
    let digits = rw (c.short_digits.ensures, c.bytes_per_group.ensures.value) at c.in_err-write_str.ensures in
    Writes-err _ c.from_residual-in_err-write_str.ensures.0 (Writes-then c.in_ok-write_offset.ensures (Writes-fails _ digits))

pub returns-in_err-write_text : goal.returns-in_err-write_text
returns-in_err-write_text g c =
    let digits = rw (c.short_digits.ensures, c.bytes_per_group.ensures.value) at c.in_ok-write_str.ensures in
    Writes-err _ c.from_residual-in_err-write_text.ensures.0
    (Writes-then c.in_ok-write_offset.ensures (Writes-then digits (Writes-fails _ c.in_err-write_text.ensures)))

pub returns : goal.returns
returns g c =
    let digits = rw (c.short_digits.ensures, c.bytes_per_group.ensures.value) at c.in_ok-write_str.ensures in
    Writes-then c.in_ok-write_offset.ensures (Writes-then digits (Writes-then c.in_ok-write_text.ensures c.write_str-2.ensures))
