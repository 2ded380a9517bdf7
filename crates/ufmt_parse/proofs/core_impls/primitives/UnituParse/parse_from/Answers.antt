use Rattle.std.proofs.Common.{arith}
use Rattle.ufmt_grammar.proofs.ClassLeaves.{unit_leaf}
use Rattle.ufmt_grammar.specs.declared.class.Class.TheVariants.{Debug}
use Rattle.ufmt_parse.proofs.core_impls.primitives.UnituParse.parse_from.Goals as goal

-- `()` is a leaf of a debug document
pub returns-then-eat-clause-taken : goal.returns-then-eat-clause-taken
returns-then-eat-clause-taken g c = (c.if-eat.ensures.eats, (unit_leaf Debug, omega (arith, c.eat.ensures.counted)))
