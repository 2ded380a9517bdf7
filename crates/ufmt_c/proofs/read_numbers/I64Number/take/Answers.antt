use Rattle.ufmt_c.proofs.ReadNumbers.{digits_are_leaf}
use Rattle.ufmt_c.proofs.read_numbers.I64Number.take.Goals as goal

pub returns-clause-leaves : goal.returns-clause-leaves
returns-clause-leaves c = λ n is. digits_are_leaf n
