use Rattle.ufmt.proofs.Columns.{Prints-column, fills_fail, pieces_fail}
use Rattle.ufmt.proofs.PiecesInARow.{Prints-err}
use Rattle.ufmt.proofs.pieces.column.InColumnMark.print_value.Goals as goal

pub returns-in_err-write_fills : goal.returns-in_err-write_fills
returns-in_err-write_fills g c =
    let self = c.args.self.now in
    Prints-err {new = c.write_fills.new.f} _ c.from_residual.ensures.0 (fills_fail self.column (g.M.Mark.pieces self.mark c.args.value.now) c.missing-missing.result c.missing-missing.ensures
    {new = c.write_fills.new.f} (rw c.fills_before-before.ensures at c.in_err-write_fills.ensures))

pub returns-in_err-print_value : goal.returns-in_err-print_value
returns-in_err-print_value g c =
    let self = c.args.self.now in
    Prints-err {new = c.print_value.new.f} _ c.from_residual-in_err-print_value.ensures.0
    (pieces_fail self.column (g.M.Mark.pieces self.mark c.args.value.now) c.missing-missing.result c.missing-missing.ensures
    {mid = c.write_fills.new.f} {new = c.print_value.new.f} (rw c.fills_before-before.ensures at c.in_ok-write_fills.ensures) c.in_err-print_value.ensures)

pub returns : goal.returns
returns g c =
    let self = c.args.self.now in
    Prints-column self.column (g.M.Mark.pieces self.mark c.args.value.now) c.missing-missing.result c.missing-missing.ensures
    {mid = c.write_fills.new.f} {next = c.print_value.new.f} {new = c.write_fills-2.new.f}
    (rw c.fills_before-before.ensures at c.in_ok-write_fills.ensures) c.in_ok-print_value.ensures
    (rw c.fills_before-before.ensures at c.write_fills-2.ensures)
