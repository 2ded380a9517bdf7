use Rattle.ufmt.proofs.Lines.{Leaves-next, Leaves-none, item_fails, text_fails}
use Rattle.ufmt.proofs.PiecesInARow.{Prints-err}
use Rattle.ufmt.proofs.pieces.Each.print_rest.Goals as goal

pub returns-in_err-write_str : goal.returns-in_err-write_str
returns-in_err-write_str g c =
    Prints-err _ c.from_residual.ensures.0 (text_fails _
    (g.M.Mark.pieces c.args.self.now.mark) c.args.rest.now c.loop-item.item-index c.item-item.result c.loop-item-test.true c.item-item.is c.loop-item.invariant c.in_err-write_str.ensures.prints)

pub returns-in_err-print_value : goal.returns-in_err-print_value
returns-in_err-print_value g c =
    Prints-err _ c.from_residual-in_err-print_value.ensures.0
    (item_fails _ (g.M.Mark.pieces c.args.self.now.mark) c.args.rest.now c.loop-item.item-index c.item-item.result c.loop-item-test.true c.item-item.is c.loop-item.invariant c.in_ok-write_str.ensures.prints c.in_err-print_value.ensures)

pub loop-item-preserved : goal.loop-item-preserved
loop-item-preserved g c = Leaves-next _ (g.M.Mark.pieces c.args.self.now.mark) c.args.rest.now c.loop-item.item-index c.item-item.result c.loop-item-test.true c.item-item.is c.loop-item.invariant c.in_ok-write_str.ensures.prints c.in_ok-print_value.ensures

pub returns : goal.returns
returns g c = Leaves-none _ (g.M.Mark.pieces c.args.self.now.mark) c.args.rest.now c.loop-item.item-index c.loop-item-test.false c.loop-item.invariant
