use mathlib.Core.Path.{refl, sym}
use Rattle.ufmt_float.proofs.Puts.{plain_near}
use Rattle.ufmt_float.proofs.text.is_plain.Goals as goal

pub returns-then-ends_near_point : goal.returns-then-ends_near_point
returns-then-ends_near_point c =
    let near = c.if-ends_near_point.ensures refl in
    sym (plain_near c.args.digits c.args.power c.requires.0 near.0 near.1)
