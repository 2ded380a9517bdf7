use Rattle.std.proofs.lemmas.List.{drop-replicate}
use Rattle.ufmt_core.proofs.Writing.{Writes-fails, Writes-then}
use Rattle.ufmt.proofs.LeftToWrite.{Writes-err}
use Rattle.ufmt.proofs.dump.write_padded.Goals as goal

pub returns-in_err-write_str : goal.returns-in_err-write_str
returns-in_err-write_str g c = rw (← c.digits_text-digits.ensures, ← drop-replicate, ← c.text_from.ensures)
    (Writes-err _ c.from_residual.ensures.0 (Writes-fails _ c.in_err-write_str.ensures))

pub returns : goal.returns
returns g c = rw (← c.digits_text-digits.ensures, ← drop-replicate, ← c.text_from.ensures) (Writes-then c.in_ok-write_str.ensures c.write_str-3.ensures)
