use Rattle.ufmt_core.specs.Formatter.{prints_layout}
use Rattle.ufmt.proofs.PiecesInARow.{Prints-last}
use Rattle.ufmt.proofs.pieces.marks.DisplayMark.print_value.Goals as goal

pub returns : goal.returns
returns g c = Prints-last (prints_layout c.fmt.ensures)
