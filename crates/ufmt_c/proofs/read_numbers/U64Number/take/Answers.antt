use Rattle.std.proofs.Common.{pos}
use Rattle.ufmt_c.proofs.ReadNumbers.{digits_are_leaf}
use Rattle.ufmt_c.proofs.read_numbers.U64Number.take.Goals as goal

pub returns-clause-leaves : goal.returns-clause-leaves
returns-clause-leaves c = λ n is. digits_are_leaf (pos n)
