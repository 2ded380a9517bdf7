use Rattle.std.proofs.Common.{rules}
use Rattle.ufmt_c.specs.Differences.{LineOfDifference}
use Rattle.ufmt_c.proofs.difference.ufmt_first_difference.Goals as goal

pub returns-in-Some-first_difference-clause-texts : goal.returns-in-Some-first_difference-clause-texts
returns-in-Some-first_difference-clause-texts c given stored =
    LineOfDifference.differ c.in-Some-first_difference.difference (search rules) (search rules)
