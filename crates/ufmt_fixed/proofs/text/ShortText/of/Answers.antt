use Rattle.core.specs.Prelude.{◌*◌, ◌^◌, ◌++◌}
use mathlib.Core.Path.{sym, subst, ap, ◌∙◌, refl}
use native.Mathlib.Omega.{arith}
use lib.Pow.{pow_pos}
use Rattle.core.specs.Fmt.{sign_text}
use Rattle.core.specs.Str.{IsAscii}
use Rattle.std.proofs.lemmas.Str.{IsAscii-append}
use Rattle.ufmt_float.proofs.Puts.{length-sign, put_before}
use Rattle.ufmt_fixed.specs.Text.{fixed_digits}
use Rattle.ufmt_fixed.proofs.Puts.{put_last}
use Rattle.ufmt_fixed.proofs.Texts.{short_length, IsAscii-fixed, IsAscii-sign}
use Rattle.ufmt_fixed.proofs.Values.{text_of_value}
use Rattle.ufmt_fixed.proofs.text.ShortText.of.Goals as goal

pub put_fixed-start-requires : goal.put_fixed-start-requires
put_fixed-start-requires g c =
    let d = c.in_ok-digits in
    (omega (arith, short_length c.args.decimals d.digits d.ensures.few.1 d.ensures.few.0), omega arith)

pub put_sign-start-requires : goal.put_sign-start-requires
put_sign-start-requires g c =
    let d = c.in_ok-digits in
    let put = c.put_fixed-start.ensures in (
      omega (arith, short_length c.args.decimals d.digits d.ensures.few.1 d.ensures.few.0, length-sign c.in-Finite.negative, put.place),
      omega (arith, put.place, put.same),
    )

pub invariant_of-result : goal.invariant_of-result
invariant_of-result g c =
    let d = c.in_ok-digits in
    let sign = sign_text c.in-Finite.negative in
    let text = fixed_digits c.args.decimals d.digits in
    let whole = put_before sign text _ _ _ _ _ _ c.put_fixed-start.ensures c.put_sign-start.ensures in (
      omega (arith, c.put_fixed-start.ensures.place, c.put_sign-start.ensures.place),
      subst IsAscii (sym (put_last (sign ++ text) _ _ 48 _ refl whole)) (IsAscii-append sign text (IsAscii-sign c.in-Finite.negative) (IsAscii-fixed c.args.decimals d.digits)),
    )

pub returns : goal.returns
returns g c =
    let d = c.in_ok-digits in
    let f = c.in-Finite in
    let sign = sign_text f.negative in
    let text = fixed_digits c.args.decimals d.digits in
    let whole = put_before sign text _ _ _ _ _ _ c.put_fixed-start.ensures c.put_sign-start.ensures in
    put_last (sign ++ text) _ _ 48 _ refl whole ∙ ap (λ n. sign ++ fixed_digits c.args.decimals n) d.ensures.digits
    ∙ sym (text_of_value (g.F.Float.value c.args.x) f.negative (f.significand * 2 ^ f.twos) (2 ^ f.halves) c.args.decimals (pow_pos f.halves) f.ensures.0)
