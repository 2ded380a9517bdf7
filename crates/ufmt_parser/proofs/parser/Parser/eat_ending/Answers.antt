use Rattle.ufmt_parser.proofs.Strips.{shorter, was_there, was_not_there}
use Rattle.ufmt_parser.proofs.parser.Parser.eat_ending.Goals as goal

pub returns-in-Some-clause-eats : goal.returns-in-Some-clause-eats
returns-in-Some-clause-eats g c = was_there _ _ _ _ (rw c.mode.ensures at c.strip_ending.ensures) c.in-Some.is

pub returns-in-Some-clause-shrinks : goal.returns-in-Some-clause-shrinks
returns-in-Some-clause-shrinks g c = shorter _ _ _ _ c.strip_ending.ensures c.in-Some.is

pub returns-in-None-clause-eats : goal.returns-in-None-clause-eats
returns-in-None-clause-eats g c = was_not_there _ _ _ (rw c.mode.ensures at c.strip_ending.ensures) c.in-None.is
