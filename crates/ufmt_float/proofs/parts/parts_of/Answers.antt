use mathlib.Core.Path.{sym, ◌∙◌}
use native.Mathlib.Omega.{arith}
use Rattle.ufmt_float.proofs.FloatParts.{only_nan, found_infinite, found_zero, found_small, found_large}
use Rattle.ufmt_float.proofs.parts.parts_of.Goals as goal

pub returns-then-not-is_number : goal.returns-then-not-is_number
returns-then-not-is_number g c = only_nan (g.F.Float.value c.args.x) (sym c.is_number.ensures ∙ cc)

pub returns-then-size-INFINITY : goal.returns-then-size-INFINITY
returns-then-size-INFINITY g c =
    found_infinite g.F.Float.format _ c.pattern-pattern.result c.pattern-pattern.ensures.same c.is_number.result c.is_number.ensures (cc) c.SIGN.result c.SIGN-2.result (c.SIGN.ensures ∙ g.met.F.Float.sign_is) (c.SIGN-2.ensures ∙ g.met.F.Float.sign_is)
    c.INFINITY.result (c.INFINITY.ensures ∙ g.met.F.Float.infinity_is) c.if-size-INFINITY.true

pub returns-then-size-HIDDEN : goal.returns-then-size-HIDDEN
returns-then-size-HIDDEN g c =
    found_large g.F.Float.format _ c.pattern-pattern.result c.pattern-pattern.ensures.same c.is_number.result c.is_number.ensures (cc) c.SIGN.result c.SIGN-2.result (c.SIGN.ensures ∙ g.met.F.Float.sign_is) (c.SIGN-2.ensures ∙ g.met.F.Float.sign_is)
    c.INFINITY.result c.HIDDEN.result c.HIDDEN-then-size-HIDDEN.result c.HIDDEN-then-size-HIDDEN-2.result c.HIDDEN-then-size-HIDDEN-3.result
    (c.INFINITY.ensures ∙ g.met.F.Float.infinity_is) (c.HIDDEN.ensures ∙ g.met.F.Float.hidden_is) (c.HIDDEN-then-size-HIDDEN.ensures ∙ g.met.F.Float.hidden_is) (c.HIDDEN-then-size-HIDDEN-2.ensures ∙ g.met.F.Float.hidden_is) (c.HIDDEN-then-size-HIDDEN-3.ensures ∙ g.met.F.Float.hidden_is)
    c.if-size-INFINITY.false c.if-size-HIDDEN.true

pub returns-then-size-gt0 : goal.returns-then-size-gt0
returns-then-size-gt0 g c =
    found_small g.F.Float.format _ c.pattern-pattern.result c.pattern-pattern.ensures.same c.is_number.result c.is_number.ensures (cc) c.SIGN.result c.SIGN-2.result (c.SIGN.ensures ∙ g.met.F.Float.sign_is) (c.SIGN-2.ensures ∙ g.met.F.Float.sign_is)
    c.HIDDEN.result (c.HIDDEN.ensures ∙ g.met.F.Float.hidden_is) c.if-size-HIDDEN.false c.if-size-gt0.true

pub returns-else-size-gt0 : goal.returns-else-size-gt0
returns-else-size-gt0 g c =
    found_zero g.F.Float.format _ c.pattern-pattern.result c.pattern-pattern.ensures.same c.is_number.result c.is_number.ensures (cc) c.SIGN.result c.SIGN-2.result (c.SIGN.ensures ∙ g.met.F.Float.sign_is) (c.SIGN-2.ensures ∙ g.met.F.Float.sign_is) (omega arith)
