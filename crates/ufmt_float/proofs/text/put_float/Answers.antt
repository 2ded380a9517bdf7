use Rattle.core.specs.Prelude.{◌^◌, ◌<◌}
use mathlib.Core.Path.{sym, subst}
use native.Mathlib.Omega.{arith}
use Rattle.core.specs.Str.{IsAscii}
use Rattle.ufmt_float.proofs.AsciiTexts.{decimal_ascii}
use Rattle.ufmt_float.proofs.Puts.{length-sign, more_room, put_before, put_at_end}
use Rattle.ufmt_float.proofs.FloatTexts.{finite_text}
use Rattle.ufmt_float.proofs.text.put_float.Goals as goal

pub put_sign-requires-in-Zero : goal.put_sign-requires-in-Zero
put_sign-requires-in-Zero g c = omega (arith, length-sign c.in-Zero.negative, more_room c.args.debug)

pub put_sign-requires-in-Finite : goal.put_sign-requires-in-Finite
put_sign-requires-in-Finite g c = omega (arith, length-sign c.in-Finite.negative, more_room c.args.debug)

pub returns-in-Finite-clause-text : goal.returns-in-Finite-clause-text
returns-in-Finite-clause-text g c =
    let d = c.decimal_of in
    let number = c.put_number-end-in-Finite in
    let sign = c.put_sign-in-Finite in
    let whole = put_before _ _ _ _ _ _ _ _ number.ensures.text sign.ensures in
    finite_text g.F.Float.format c.args.debug (g.F.Float.value c.args.x) c.in-Finite.negative c.in-Finite.significand c.in-Finite.exponent d.result.digits d.result.power _
    c.in-Finite.ensures d.ensures.shortest (put_at_end _ _ _ _ whole)

pub returns-in-Zero-clause-ascii : goal.returns-in-Zero-clause-ascii
returns-in-Zero-clause-ascii g c =
    let whole = put_before _ _ _ _ _ _ _ _ c.put_number-end.ensures.text c.put_sign-in-Zero.ensures in
    subst IsAscii (sym (put_at_end _ _ _ _ whole)) (decimal_ascii c.in-Zero.negative c.args.debug 0 400 (omega arith) (omega arith))

pub returns-in-Finite-clause-ascii : goal.returns-in-Finite-clause-ascii
returns-in-Finite-clause-ascii g c =
    let d = c.decimal_of in
    let few : d.result.digits < 10 ^ 17 = omega arith in
    let within : d.result.power < 1000 = omega arith in
    let whole = put_before _ _ _ _ _ _ _ _ c.put_number-end-in-Finite.ensures.text c.put_sign-in-Finite.ensures in
    subst IsAscii (sym (put_at_end _ _ _ _ whole)) (decimal_ascii c.in-Finite.negative c.args.debug d.result.digits d.result.power few within)
