use Rattle.std.proofs.Common.{arith}
use Rattle.ufmt_core.proofs.LastDigits.{IsCutFrom-none, IsCutFrom-more}
use Rattle.ufmt_core.proofs.unsigned.U128Magnitude.write_turns.Goals as goal

pub loop-left-init : goal.loop-left-init
loop-left-init c = IsCutFrom-none 16 c.args.self c.args.buffer.now c.requires

pub loop-left-preserved : goal.loop-left-preserved
loop-left-preserved c = IsCutFrom-more c.write_sixteen.new.buffer c.loop-left.invariant (omega (arith, c.loop-left-test.true))
    (omega arith) c.write_sixteen.ensures
