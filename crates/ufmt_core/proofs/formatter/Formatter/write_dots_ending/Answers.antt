use Rattle.std.proofs.Common.{sym}
use Rattle.ufmt_core.specs.Layout.{Struct, ending, frame}
use Rattle.ufmt_core.specs.Formatter.{setting_of}
use Rattle.ufmt_core.proofs.Counts.{dots_ending-is}
use Rattle.ufmt_core.proofs.Writing.{Prints-same, Prints-then_at}
use Rattle.ufmt_core.proofs.formatter.Formatter.write_dots_ending.Goals as goal

pub returns-in_ok-write_dots_line-in-One : goal.returns-in_ok-write_dots_line-in-One
returns-in_ok-write_dots_line-in-One g c =
    Prints-same (sym (dots_ending-is (setting_of c.args.self.now) c.args.count c.in-One.is))
    (Prints-then_at (λ s. ending (frame s.mode Struct) s c.args.count) c.in_ok-write_dots_line-in-One.ensures c.write_ending.ensures)
