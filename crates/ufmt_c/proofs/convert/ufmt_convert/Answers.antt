use Rattle.std.proofs.Common.{rules}
use Rattle.ufmt_c.proofs.convert.ufmt_convert.Goals as goal

pub returns-clause-converts : goal.returns-clause-converts
returns-clause-converts c choices =
    rw (← c.in-Some.ensures.1, ← c.in-Some-to_mode.ensures.1) (search rules)
