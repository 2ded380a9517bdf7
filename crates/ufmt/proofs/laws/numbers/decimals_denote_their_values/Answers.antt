use Rattle.ufmt.proofs.DecimalsAreLeaves.{fixed_is_leaf}
use Rattle.ufmt.proofs.FixedPoint.{fixed-denotes, fixed-determines, fixed-number}
use Rattle.ufmt.proofs.laws.numbers.decimals_denote_their_values.Goals as goal

pub returns-clause-denoted : goal.returns-clause-denoted
returns-clause-denoted c = fixed-denotes

pub returns-clause-one_number : goal.returns-clause-one_number
returns-clause-one_number c = fixed-number

pub returns-clause-one_decimal : goal.returns-clause-one_decimal
returns-clause-one_decimal c = fixed-determines

pub returns-clause-debug_leaf : goal.returns-clause-debug_leaf
returns-clause-debug_leaf c = fixed_is_leaf
