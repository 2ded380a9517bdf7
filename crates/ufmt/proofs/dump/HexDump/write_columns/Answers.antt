use Rattle.ufmt_core.proofs.Writing.{Writes-fails, Writes-then}
use Rattle.ufmt.proofs.LeftToWrite.{Writes-err}
use Rattle.ufmt.proofs.dump.HexDump.write_columns.Goals as goal

pub returns-in_err-write_offset : goal.returns-in_err-write_offset
returns-in_err-write_offset g c = Writes-err _ c.from_residual.ensures.0 (Writes-fails _ c.in_err-write_offset.ensures)

pub returns-in_err-write_digits : goal.returns-in_err-write_digits
returns-in_err-write_digits g c =
    Writes-err _ c.from_residual-in_err-write_digits.ensures.0 (Writes-then c.in_ok-write_offset.ensures (Writes-fails _ c.in_err-write_digits.ensures))

pub returns-in_err-write_text : goal.returns-in_err-write_text
returns-in_err-write_text g c = Writes-err _ c.from_residual-in_err-write_text.ensures.0
    (Writes-then c.in_ok-write_offset.ensures (Writes-then c.in_ok-write_digits.ensures (Writes-fails _ c.in_err-write_text.ensures)))

pub returns : goal.returns
returns g c = Writes-then c.in_ok-write_offset.ensures
    (Writes-then c.in_ok-write_digits.ensures (Writes-then c.in_ok-write_text.ensures c.write_str.ensures))
