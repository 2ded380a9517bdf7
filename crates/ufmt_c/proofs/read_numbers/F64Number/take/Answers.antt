use Rattle.std.proofs.Common.{true, arith}
use lib.Ieee.{binary64}
use Rattle.ufmt_core.specs.FloatText.{float_text, is_float_text}
use Rattle.ufmt_grammar.proofs.FloatLeaves.{float_is_leaf}
use Rattle.ufmt_c.proofs.read_numbers.F64Number.take.Goals as goal

pub returns-clause-leaves : goal.returns-clause-leaves
returns-clause-leaves c = λ n is. (float_is_leaf binary64 true n (float_text binary64 true n) is (is_float_text binary64 true n is), omega arith)
