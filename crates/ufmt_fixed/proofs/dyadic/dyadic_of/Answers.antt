use Rattle.core.specs.Prelude.{◌%◌}
use mathlib.Core.Path.{sym, subst, ◌∙◌}
use mathlib.Core.Logic.{inl, inr}
use native.Mathlib.Nat.{eq-zero-or-pos}
use Rattle.ufmt_float.proofs.FloatParts.{only_nan, found_infinite, found_zero, found_small, found_large}
use Rattle.ufmt_fixed.specs.Dyadic.{IsDyadicOf}
use Rattle.ufmt_fixed.proofs.Values.{finite_dyadic, zero_dyadic}
use Rattle.ufmt_fixed.proofs.dyadic.dyadic_of.Goals as goal

pub returns-then-not-is_number : goal.returns-then-not-is_number
returns-then-not-is_number g c = only_nan (g.F.Float.value c.args.x) (sym c.is_number.ensures ∙ cc)

pub returns-then-size-INFINITY : goal.returns-then-size-INFINITY
returns-then-size-INFINITY g c =
    found_infinite g.F.Float.format _ c.pattern-pattern.result c.pattern-pattern.ensures.same c.is_number.result c.is_number.ensures (cc) c.SIGN.result c.SIGN-2.result (c.SIGN.ensures ∙ g.met.F.Float.sign_is) (c.SIGN-2.ensures ∙ g.met.F.Float.sign_is)
    c.INFINITY.result (c.INFINITY.ensures ∙ g.met.F.Float.infinity_is) c.if-size-INFINITY.true

pub returns-then-size-HIDDEN : goal.returns-then-size-HIDDEN
returns-then-size-HIDDEN g c =
    let large = found_large g.F.Float.format _ c.pattern-pattern.result c.pattern-pattern.ensures.same c.is_number.result c.is_number.ensures (cc) c.SIGN.result c.SIGN-2.result (c.SIGN.ensures ∙ g.met.F.Float.sign_is) (c.SIGN-2.ensures ∙ g.met.F.Float.sign_is)
    c.INFINITY.result c.HIDDEN.result c.HIDDEN-then-size-HIDDEN.result c.HIDDEN-then-size-HIDDEN-2.result c.HIDDEN-then-size-HIDDEN-3.result
    (c.INFINITY.ensures ∙ g.met.F.Float.infinity_is) (c.HIDDEN.ensures ∙ g.met.F.Float.hidden_is) (c.HIDDEN-then-size-HIDDEN.ensures ∙ g.met.F.Float.hidden_is) (c.HIDDEN-then-size-HIDDEN-2.ensures ∙ g.met.F.Float.hidden_is) (c.HIDDEN-then-size-HIDDEN-3.ensures ∙ g.met.F.Float.hidden_is)
    c.if-size-INFINITY.false c.if-size-HIDDEN.true in
    subst (IsDyadicOf (g.F.Float.value c.args.x)) (sym c.finite.ensures) (finite_dyadic g.F.Float.format (g.F.Float.value c.args.x) _ _ _ large)

pub returns : goal.returns
returns g c =
    let size = c.pattern-pattern.result % c.SIGN-2.result in
    subst (IsDyadicOf (g.F.Float.value c.args.x)) (sym c.finite-2.ensures)
    (elim (eq-zero-or-pos size) [
      | inl z ↦ zero_dyadic g.F.Float.format (g.F.Float.value c.args.x) _ size z
          (found_zero g.F.Float.format _ c.pattern-pattern.result c.pattern-pattern.ensures.same c.is_number.result c.is_number.ensures (cc) c.SIGN.result c.SIGN-2.result (c.SIGN.ensures ∙ g.met.F.Float.sign_is) (c.SIGN-2.ensures ∙ g.met.F.Float.sign_is) z)
      | inr p ↦ finite_dyadic g.F.Float.format (g.F.Float.value c.args.x) _ size 0
          (found_small g.F.Float.format _ c.pattern-pattern.result c.pattern-pattern.ensures.same c.is_number.result c.is_number.ensures (cc) c.SIGN.result c.SIGN-2.result (c.SIGN.ensures ∙ g.met.F.Float.sign_is) (c.SIGN-2.ensures ∙ g.met.F.Float.sign_is)
          c.HIDDEN.result (c.HIDDEN.ensures ∙ g.met.F.Float.hidden_is) c.if-size-HIDDEN.false p)
    ])
