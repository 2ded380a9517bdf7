use native.Mathlib.Omega.{arith}
use Rattle.std.proofs.lemmas.Grind.{common_steps}
use Rattle.ufmt_float.proofs.Choices.{taken_off}
use Rattle.ufmt_float.proofs.choice.is_above_start.Goals as goal

pub returns-in-Less-clause-yes : goal.returns-in-Less-clause-yes
returns-in-Less-clause-yes g c = let e = taken_off c.args.m c.args.below (g.R.Ratio.top c.args.ratio.now) c.requires.small.0 c.requires.small.2 in grind (arith, common_steps)

pub returns-in-Equal-clause-yes : goal.returns-in-Equal-clause-yes
returns-in-Equal-clause-yes g c = let e = taken_off c.args.m c.args.below (g.R.Ratio.top c.args.ratio.now) c.requires.small.0 c.requires.small.2 in grind (arith, common_steps)

pub returns-in-Equal-clause-no : goal.returns-in-Equal-clause-no
returns-in-Equal-clause-no g c = let e = taken_off c.args.m c.args.below (g.R.Ratio.top c.args.ratio.now) c.requires.small.0 c.requires.small.2 in grind (arith, common_steps)

pub returns-in-Greater-clause-no : goal.returns-in-Greater-clause-no
returns-in-Greater-clause-no g c = let e = taken_off c.args.m c.args.below (g.R.Ratio.top c.args.ratio.now) c.requires.small.0 c.requires.small.2 in grind (arith, common_steps)
