use Rattle.std.proofs.Common.{rules}
use Rattle.ufmt_c.proofs.message.MessageLine.print.Goals as goal

pub returns-in-Some-stored : goal.returns-in-Some-stored
returns-in-Some-stored g c = rw (c.in-Some.is, c.in-Some-stored.is) (search rules)

pub returns-in-None-stored : goal.returns-in-None-stored
returns-in-None-stored g c = rw (c.in-Some.is, c.in-None-stored.is) (search rules)

pub returns-in-Some-stored-2 : goal.returns-in-Some-stored-2
returns-in-Some-stored-2 g c = rw (c.in-None.is, c.in-Some-stored-2.is) (search rules)

pub returns-in-None-stored-2 : goal.returns-in-None-stored-2
returns-in-None-stored-2 g c = rw (c.in-None.is, c.in-None-stored-2.is) (search rules)
