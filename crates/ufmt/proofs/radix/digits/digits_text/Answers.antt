use Rattle.std.proofs.Common.{ap, length, length-drop, arith}
use Rattle.ufmt_core.proofs.NumeralTexts.{length-text-le, text-nonempty, IsAscii-text}
use Rattle.ufmt.proofs.RadixTexts.{byte-ascii, digits-in_base}
use Rattle.ufmt.proofs.radix.digits.digits_text.Goals as goal

pub write_digits-start-requires-clause-room : goal.write_digits-start-requires-clause-room
write_digits-start-requires-clause-room g c =
    omega (
      arith,
      length-text-le (digits-in_base g.row.BASE c.requires.two c.args.upper_case) (length c.args.buffer.now) (g.N.Digits.value c.args.n)
          c.requires.not_empty c.requires.room,
    )

pub end_of-requires-clause-within : goal.end_of-requires-clause-within
end_of-requires-clause-within g c =
    let start = c.write_digits-start in
    omega (
      arith,
      text-nonempty (digits-in_base g.row.BASE c.requires.two c.args.upper_case) (g.N.Digits.value c.args.n),
      ap length start.ensures.written,
      length-drop start.result start.new.buffer,
    )

pub end_of-requires-clause-ascii : goal.end_of-requires-clause-ascii
end_of-requires-clause-ascii g c =
    rw c.write_digits-start.ensures.written (IsAscii-text (digits-in_base g.row.BASE c.requires.two c.args.upper_case)
    (λ digit low. byte-ascii c.args.upper_case digit (omega (arith, low, c.requires.sixteen))) (g.N.Digits.value c.args.n))
