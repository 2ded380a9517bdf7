use Rattle.ufmt_core.proofs.WrittenDigits.{IsWrittenFrom}
use Rattle.ufmt.specs.Radix.{digits_in}
use Rattle.ufmt.proofs.radix.digits.write_digits.Given as goal

abbrev pub invariant-loop-rest : goal.invariant-loop-rest
invariant-loop-rest g l = IsWrittenFrom (digits_in g.row.BASE l.upper_case) (g.N.Digits.value l.fn.n) (g.N.Digits.value l.left) l.start l.buffer

abbrev pub decreases-loop-rest : goal.decreases-loop-rest
decreases-loop-rest g l = g.N.Digits.value l.left
