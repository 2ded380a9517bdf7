use Rattle.std.proofs.Common.{◌≡◌, ◌-◌, ◌*◌, ◌/◌, ◌%◌, arith}
use Rattle.ufmt_core.proofs.LastDigits.{IsCutFrom-none, IsCutFrom-more}
use Rattle.ufmt_core.proofs.unsigned.U64Magnitude.write_turns.Goals as goal

pub loop-left-init : goal.loop-left-init
loop-left-init c = IsCutFrom-none 8 c.args.self c.args.buffer.now c.requires

pub loop-left-preserved : goal.loop-left-preserved
loop-left-preserved c =
    let left = c.loop-left.left in
    let last : left - 100000000 * (left / 100000000) ≡ left % 100000000 = omega arith in
    IsCutFrom-more c.write_eight.new.buffer c.loop-left.invariant (omega (arith, c.loop-left-test.true)) (omega arith) (rw last at c.write_eight.ensures)
