use Rattle.std.proofs.Common.{◌++◌, ap, sym}
use Rattle.ufmt_core.specs.Layout.{frame, line_start}
use Rattle.ufmt_core.specs.Formatter.{depth_of, mode_of}
use Rattle.ufmt_core.proofs.Counts.{if_any-is}
use Rattle.ufmt_core.proofs.Writing.{Prints-same, Prints-then_at}
use Rattle.ufmt_core.proofs.formatter.Formatter.write_ending.Goals as goal

pub returns-in_ok-write_line_start-in-One : goal.returns-in_ok-write_line_start-in-One
returns-in_ok-write_line_start-in-One g c =
    let start = if_any-is c.args.count (line_start (mode_of c.args.self.now) (depth_of c.args.self.now)) c.in-One.is in
    Prints-same (ap (λ t. t ++ (frame (mode_of c.args.self.now) c.args.kind).closing c.args.count) (sym start))
    (Prints-then_at (λ s. (frame s.mode c.args.kind).closing c.args.count) c.in_ok-write_line_start-in-One.ensures c.write_closing-in-One.ensures)
