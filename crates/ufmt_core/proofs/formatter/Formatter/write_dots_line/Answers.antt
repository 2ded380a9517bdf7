use Rattle.std.proofs.Common.{◌++◌, ap, codes, sym, ◌∙◌}
use Rattle.ufmt_core.specs.Layout.{dots_line, indentation, inside}
use Rattle.ufmt_core.specs.Formatter.{setting_of}
use Rattle.ufmt_core.proofs.Writing.{Prints-same, Prints-then}
use Rattle.ufmt_core.proofs.formatter.Formatter.write_dots_line.Goals as goal

pub returns-in_ok-write_indentation-in-Pretty : goal.returns-in_ok-write_indentation-in-Pretty
returns-in_ok-write_indentation-in-Pretty g c =
    Prints-same (ap (λ s. indentation s.depth ++ codes "..\n") c.inside.ensures
    ∙ ap (λ mode. dots_line mode (inside (setting_of c.args.self.now)).depth) (sym c.in-Pretty.is))
    (Prints-then c.in_ok-write_indentation-in-Pretty.ensures c.write_str-in-Pretty.ensures.prints)
