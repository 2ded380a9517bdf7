use Rattle.std.proofs.Common.{◌++◌}
use Rattle.ufmt_core.specs.Layout.{gap, line_start}
use Rattle.ufmt_core.specs.Formatter.{depth_of}
use Rattle.ufmt_core.proofs.Writing.{Prints-err, Prints-fails, Prints-same, Prints-then_at}
use Rattle.ufmt_core.proofs.formatter.Formatter.write_lead.Goals as goal

pub returns : goal.returns
returns g c =
    Prints-same (c.lead.ensures (depth_of c.args.self.now))
    (Prints-then_at (λ s. gap s.mode c.args.kind c.args.count ++ line_start s.mode s.depth) c.in_ok-write_piece.ensures
    (Prints-then_at (λ s. line_start s.mode s.depth) (Prints-same c.gap.ensures c.in_ok-write_piece-2.ensures) c.write_line_start.ensures))

pub returns-in_err-write_piece-2 : goal.returns-in_err-write_piece-2
returns-in_err-write_piece-2 g c =
    Prints-err _ c.from_residual-in_err-write_piece-2.ensures.0
    (Prints-same (c.lead.ensures (depth_of c.args.self.now))
    (Prints-then_at (λ s. gap s.mode c.args.kind c.args.count ++ line_start s.mode s.depth) c.in_ok-write_piece.ensures
    (Prints-fails _ (Prints-same c.gap.ensures c.in_err-write_piece-2.ensures))))
