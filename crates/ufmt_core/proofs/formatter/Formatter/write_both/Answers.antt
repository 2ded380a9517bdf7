use Rattle.ufmt_core.proofs.Writing.{Prints-then}
use Rattle.ufmt_core.proofs.formatter.Formatter.write_both.Goals as goal

pub returns : goal.returns
returns g c = Prints-then c.in_ok-write_piece.ensures c.write_piece-2.ensures
