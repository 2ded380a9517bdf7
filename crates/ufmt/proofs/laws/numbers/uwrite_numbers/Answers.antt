use Rattle.ufmt_core.proofs.Writing.{Prints-then, Prints-fails}
use Rattle.ufmt.proofs.PiecesInARow.{Prints-last}
use Rattle.ufmt.proofs.laws.numbers.uwrite_numbers.Goals as goal

pub returns-in-Ok-fmt_radix : goal.returns-in-Ok-fmt_radix
returns-in-Ok-fmt_radix g c = Prints-then c.in-Ok.ensures (Prints-then c.in-Ok-fmt_radix.ensures (Prints-last c.fmt_zeros.ensures))

pub returns-in-Err-fmt_radix : goal.returns-in-Err-fmt_radix
returns-in-Err-fmt_radix g c = Prints-then c.in-Ok.ensures (Prints-fails _ c.in-Err-fmt_radix.ensures)
