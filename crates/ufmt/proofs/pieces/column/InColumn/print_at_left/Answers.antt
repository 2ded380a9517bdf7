use Rattle.ufmt.proofs.Columns.{Prints-left, left_fails}
use Rattle.ufmt.proofs.PiecesInARow.{Prints-err}
use Rattle.ufmt.proofs.pieces.column.InColumn.print_at_left.Goals as goal

pub returns-in_err-print_value : goal.returns-in_err-print_value
returns-in_err-print_value g c =
    let self = c.args.self.now in
    Prints-err {new = c.print_value.new.f} _ c.from_residual.ensures.0 (left_fails self.column (g.M.Mark.pieces self.mark c.args.value.now) c.requires
    {new = c.print_value.new.f} c.in_err-print_value.ensures)

pub returns : goal.returns
returns g c =
    let self = c.args.self.now in
    Prints-left self.column (g.M.Mark.pieces self.mark c.args.value.now) c.requires {mid = c.print_value.new.f} {new = c.write_fills.new.f}
    c.missing-missing.result c.missing-missing.ensures c.in_ok-print_value.ensures c.write_fills.ensures
