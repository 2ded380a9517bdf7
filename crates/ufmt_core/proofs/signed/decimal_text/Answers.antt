use Rattle.std.proofs.Common.{◌-◌, nat_abs, ◌∙◌, arith}
use Rattle.ufmt_core.proofs.DecimalTexts.{decimal-in_base, length-magnitude-le, IsAscii-decimal}
use Rattle.ufmt_core.proofs.LastDigits.{decimal_nonempty}
use Rattle.ufmt_core.proofs.NumeralTexts.{length-text-le}
use Rattle.ufmt_core.proofs.signed.decimal_text.Goals as goal

pub write_decimal-start-requires : goal.write_decimal-start-requires
write_decimal-start-requires g c =
    omega (arith, length-text-le decimal-in_base (g.row.N - 1) (nat_abs (g.S.Signed.value c.args.z)) (omega arith) c.requires.room)

pub end_of-requires : goal.end_of-requires
end_of-requires g c =
    let text = c.write_decimal-start in
    let z = g.S.Signed.value c.args.z in (
      omega (arith, c.requires.few.1),
      (
        c.requires.few.1,
        (
          omega (arith, text.ensures.start, decimal_nonempty (nat_abs z), length-magnitude-le z, c.told-buffer),
          rw text.ensures.written (IsAscii-decimal z),
        ),
      ),
    )

pub returns : goal.returns
returns g c = c.end_of.ensures ∙ c.write_decimal-start.ensures.written
