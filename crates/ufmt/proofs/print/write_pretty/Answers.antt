use Rattle.std.proofs.lemmas.Grind.{common_steps}
use native.Mathlib.Omega.{arith}
use Rattle.ufmt_core.specs.Formatter.{prints_layout}
use Rattle.ufmt.proofs.print.write_pretty.Goals as goal

pub returns : goal.returns
returns g c = let p = prints_layout c.fmt_pretty.ensures in grind (arith, common_steps)
