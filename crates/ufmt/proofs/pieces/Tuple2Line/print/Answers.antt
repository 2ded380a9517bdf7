use Rattle.ufmt.proofs.Lines.{Prints-both, Prints-first_fails}
use Rattle.ufmt.proofs.PiecesInARow.{Prints-err}
use Rattle.ufmt.proofs.pieces.Tuple2Line.print.Goals as goal

pub returns-in_err-print : goal.returns-in_err-print
returns-in_err-print g c = Prints-err _ c.from_residual.ensures.0
    (Prints-first_fails (g.A.Line.pieces c.args.self.now.0) (g.B.Line.pieces c.args.self.now.1) c.in_err-print.ensures)

pub returns : goal.returns
returns g c = Prints-both (g.A.Line.pieces c.args.self.now.0) (g.B.Line.pieces c.args.self.now.1) c.in_ok-print.ensures c.print-2.ensures
