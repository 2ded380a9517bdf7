use Rattle.std.proofs.Common.{pos, ◌∙◌, arith}
use Rattle.ufmt_core.proofs.DecimalTexts.{decimal-in_base, IsAscii-decimal}
use Rattle.ufmt_core.proofs.LastDigits.{decimal_nonempty, digits_left}
use Rattle.ufmt_core.proofs.NumeralTexts.{length-text-le}
use Rattle.ufmt_core.proofs.unsigned.decimal_text.Goals as goal

pub write_turns-first-requires : goal.write_turns-first-requires
write_turns-first-requires g c =
    omega (arith, length-text-le decimal-in_base g.row.N (g.M.Magnitude.value c.args.n) c.requires.few.0 c.requires.room, c.told-buffer)

pub write_first-start-requires-clause-room : goal.write_first-start-requires-clause-room
write_first-start-requires-clause-room g c =
    let turns = c.write_turns-first in
    omega (
      arith,
      length-text-le decimal-in_base g.row.N (g.M.Magnitude.value c.args.n) c.requires.few.0 c.requires.room,
      digits_left _ _ turns.result.1 turns.new.buffer turns.ensures.written (omega (arith, turns.ensures.within)),
      c.told-buffer,
    )

pub end_of-requires : goal.end_of-requires
end_of-requires g c =
    let turns = c.write_turns-first in
    let first = c.write_first-start in (
      omega (arith, c.requires.few.1),
      (
        c.requires.few.1,
        (
          omega (arith, first.ensures.start, decimal_nonempty turns.result.0, turns.ensures.within, c.told-buffer),
          rw (first.ensures.written, turns.ensures.written) (IsAscii-decimal (pos (g.M.Magnitude.value c.args.n))),
        ),
      ),
    )

pub returns : goal.returns
returns g c = c.end_of.ensures ∙ c.write_first-start.ensures.written ∙ c.write_turns-first.ensures.written
