use Rattle.std.proofs.Common.{◌≡◌, ◌∷◌, map}
use Rattle.ufmt.specs.Pieces.{preceded}
use Rattle.ufmt.proofs.Lines.{Prints-both, Prints-first_fails}
use Rattle.ufmt.proofs.PiecesInARow.{Prints-err, Prints-last}
use Rattle.ufmt.proofs.pieces.EachLine.print.Goals as goal

pub returns-in_err-print_value-in-Some : goal.returns-in_err-print_value-in-Some
returns-in_err-print_value-in-Some g c =
    let whole : c.args.self.now.items.now ≡ c.in-Some.first.now ∷ c.in-Some.rest.now = c.in-Some.ensures.cases.0 in
    rw whole (Prints-last (Prints-err _ c.from_residual.ensures.0
    (Prints-first_fails (g.M.Mark.pieces c.args.self.now.mark c.in-Some.first.now) _ c.in_err-print_value-in-Some.ensures)))

pub returns-in_ok-print_value-in-Some : goal.returns-in_ok-print_value-in-Some
returns-in_ok-print_value-in-Some g c =
    let whole : c.args.self.now.items.now ≡ c.in-Some.first.now ∷ c.in-Some.rest.now = c.in-Some.ensures.cases.0 in
    let h = g.M.Mark.pieces c.args.self.now.mark in
    rw whole (Prints-last (Prints-both (h c.in-Some.first.now)
    (preceded c.args.self.now.between.now (map h c.in-Some.rest.now)) c.in_ok-print_value-in-Some.ensures c.print_rest.ensures))
