use Rattle.std.proofs.Common.{arith}
use Rattle.ufmt_core.proofs.LastDigits.{IsCutFrom-none, IsCutFrom-more}
use Rattle.ufmt_core.proofs.unsigned.U32Magnitude.write_turns.Goals as goal

pub loop-left-init : goal.loop-left-init
loop-left-init c = IsCutFrom-none 2 c.args.self c.args.buffer.now c.requires

pub loop-left-preserved : goal.loop-left-preserved
loop-left-preserved c =
    let turn = c.write_turn-left in
    rw turn.ensures.left (IsCutFrom-more turn.new.buffer c.loop-left.invariant (omega (arith, c.loop-left-test.true)) (omega arith) turn.ensures.written)
