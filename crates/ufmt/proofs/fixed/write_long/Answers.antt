use Rattle.std.proofs.Common.{◌++◌, ◌∙◌, ap, replicate}
use Rattle.ufmt_core.proofs.Writing.{Prints-same, Prints-then}
use Rattle.ufmt.proofs.fixed.write_long.Goals as goal

pub returns : goal.returns
returns g c =
    let parts = c.parts-zeros in
    Prints-same (ap (λ text. text ++ replicate parts.result.1 48) c.text_from.ensures ∙ parts.ensures.text ∙ c.of-text.ensures)
    (Prints-then c.in_ok-write_str.ensures.prints c.pad.ensures)
