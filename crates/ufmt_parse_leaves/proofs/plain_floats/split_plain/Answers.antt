use Rattle.std.proofs.Common.{refl, ◌∙◌, sym, ap, subst, ◌++◌, nat_abs, true}
use mir.Facts.{to_z-of_z}
use Rattle.std.specs.Int.{is_negative}
use Rattle.ufmt_core.specs.FloatText.{float_text}
use Rattle.ufmt_parse_leaves.specs.Values.{IsFloatOf}
use Rattle.ufmt_parse_leaves.proofs.PlainFloats.{text_above, text_below}
use Rattle.ufmt_parse_leaves.proofs.plain_floats.split_plain.Goals as goal
use Rattle.ufmt_parse_leaves.proofs.plain_floats.split_plain.Goals.{then-negative, else-negative}

pub returns : goal.returns
returns g c =
    let f = g.F.Float-2.format in
    let size = g.F.Float-2.value c.in_ok-size.size in
    let plain = c.if-not-is_plain.ensures refl in
    let printed = c.if-not-is_printed.ensures refl in
    let above = c.in_ok-size.ensures in
    let ends = c.if-not-ends_float.ensures refl in
    let number = sym (to_z-of_z c.in_ok-number.ensures.0.0) in
    let digits = ap nat_abs number ∙ sym c.unsigned_abs-digits.ensures.value in
    let sign = ap is_negative number ∙ sym c.is_negative-negative.ensures in
    let begins = c.in_ok-number.ensures.1 in
    elim c.if-negative.branch [
      | then-negative w ↦ (
          let is = ap g.F.Float-2.value w.value-is ∙ w.negated-value.ensures in
          let float = subst (IsFloatOf f) is c.prove_float.ensures in
          let text = text_below f _ _ printed.0 printed.1 plain printed.3 c.in_ok-number.number size (sign ∙ w.if-negative.true) digits above.0 above.1 printed.2 float in
          (c.prove_float.ensures, begins ∙ ap (λ t. t ++ c.in_ok-number.after.now) (text ∙ ap (float_text f true) (sym is)), ends)
          )
      | else-negative w ↦ (
          let is = ap g.F.Float-2.value w.value-is in
          let float = subst (IsFloatOf f) is c.prove_float.ensures in
          let text = text_above f _ _ printed.0 printed.1 plain printed.3 c.in_ok-number.number size (sign ∙ w.if-negative.false) digits above.0 above.1 printed.2 float in
          (c.prove_float.ensures, begins ∙ ap (λ t. t ++ c.in_ok-number.after.now) (text ∙ ap (float_text f true) (sym is)), ends)
          )
    ]
