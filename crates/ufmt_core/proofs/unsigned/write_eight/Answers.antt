use Rattle.std.proofs.Common.{◌+◌, ◌∙◌, arith}
use Rattle.ufmt_core.proofs.LastDigits.{last_digits-turn}
use Rattle.ufmt_core.proofs.unsigned.write_eight.Goals as goal

-- the digits that each turn leaves come before those that it writes
pub returns : goal.returns
returns c =
    let at = c.args.start in
    let turn = c.write_turn-left in
    let turn-2 = c.write_turn-left-2 in
    let turn-3 = c.write_turn-left-3 in
    let first =
    last_digits-turn 6 c.args.n turn.result (at + 6) (at + 8) c.args.buffer.now turn.new.buffer
    turn.ensures.left (omega arith) turn.ensures.written in
    let second =
    last_digits-turn 4 turn.result turn-2.result (at + 4) (at + 6) turn.new.buffer turn-2.new.buffer
    turn-2.ensures.left (omega arith) turn-2.ensures.written in
    let third =
    last_digits-turn 2 turn-2.result turn-3.result (at + 2) (at + 4) turn-2.new.buffer turn-3.new.buffer
    turn-3.ensures.left (omega arith) turn-3.ensures.written in
    c.write_pair.ensures ∙ third ∙ second ∙ first
