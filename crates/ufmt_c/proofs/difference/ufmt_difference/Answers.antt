use Rattle.std.proofs.Common.{rules}
use Rattle.ufmt_c.specs.Differences.{TellsDifference}
use Rattle.ufmt_c.proofs.difference.ufmt_difference.Goals as goal

pub returns-in-Some-first_difference-clause-texts : goal.returns-in-Some-first_difference-clause-texts
returns-in-Some-first_difference-clause-texts c given stored =
    TellsDifference.differ c.in-Some-first_difference.difference (search rules) (search rules)
