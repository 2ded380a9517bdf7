use Rattle.ufmt_parser.proofs.Taken.{constant_taken}
use Rattle.ufmt_parser.proofs.fields.UnitFieldParsers.parse_rest.Goals as goal

pub returns-then-eat_ending-clause-takes : goal.returns-then-eat_ending-clause-takes
returns-then-eat_ending-clause-takes g c = constant_taken _ c.if-eat_ending.ensures.eats (tt, tt)
