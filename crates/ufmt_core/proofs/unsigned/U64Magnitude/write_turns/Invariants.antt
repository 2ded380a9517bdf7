use Rattle.ufmt_core.proofs.LastDigits.{IsCutFrom}
use Rattle.ufmt_core.proofs.unsigned.U64Magnitude.write_turns.Given as goal

abbrev pub invariant-loop-left : goal.invariant-loop-left
invariant-loop-left l = IsCutFrom 8 l.self l.left l.start l.buffer

abbrev pub decreases-loop-left : goal.decreases-loop-left
decreases-loop-left l = l.left
