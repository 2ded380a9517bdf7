use Rattle.std.proofs.Common.{pos, length, ap, ◌∙◌, arith}
use Rattle.ufmt_core.specs.Decimal.{decimal}
use Rattle.ufmt_core.proofs.LastDigits.{decimal_nonempty, digits_left}
use Rattle.ufmt_core.proofs.WrittenDigits.{put_sign}
use Rattle.ufmt_core.proofs.signed.write_decimal.Goals as goal

pub write_first_after_sign-digits-requires-clause-room : goal.write_first_after_sign-digits-requires-clause-room
write_first_after_sign-digits-requires-clause-room g c =
    let turns = c.write_turns-first in
    omega (
      arith,
      ap (λ m. length (decimal (pos m))) c.magnitude.ensures,
      digits_left _ _ turns.result.1 turns.new.buffer turns.ensures.written (omega (arith, turns.ensures.within)),
      decimal_nonempty turns.result.0,
      c.requires,
    )

pub returns : goal.returns
returns g c =
    let turns = c.write_turns-first in
    let digits = c.write_first_after_sign-digits in
    let fits = ap (λ m. length (decimal (pos m))) c.magnitude.ensures in
    let left = digits_left _ _ turns.result.1 turns.new.buffer turns.ensures.written (omega (arith, turns.ensures.within)) in
    let signed = put_sign (g.S.Signed.value c.args.z) _ digits.result digits.new.buffer c.magnitude.ensures
    (omega (arith, fits, c.requires)) (omega (arith, left, digits.ensures.start)) (digits.ensures.written ∙ turns.ensures.written) c.is_negative.result c.is_negative.ensures in
    rw c.from.ensures (record { start = omega (arith, signed.starts); written = signed.written })
