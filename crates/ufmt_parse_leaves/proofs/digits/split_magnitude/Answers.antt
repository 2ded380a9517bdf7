use Rattle.std.proofs.Common.{◌∙◌, ◌∷◌, sym, ap, ne_eqb}
use Rattle.ufmt_parse_leaves.specs.Private.Digits.{begins_digit}
use Rattle.ufmt_parse_leaves.proofs.DecimalFronts.{digit_first, no_digit_first, none_first, zero_first}
use Rattle.ufmt_parse_leaves.proofs.digits.split_magnitude.Goals as goal

pub returns-in-None : goal.returns-in-None
returns-in-None g c = no_digit_first g.N.Magnitude.bound c.args.input.now (none_first c.args.input.now c.in-None.ensures.cases)

pub returns-then-not-is_ascii_digit : goal.returns-then-not-is_ascii_digit
returns-then-not-is_ascii_digit g c =
    no_digit_first g.N.Magnitude.bound c.args.input.now (ap begins_digit c.in-Some.ensures.cases.0 ∙ sym c.is_ascii_digit.ensures.value ∙ c.if-not-is_ascii_digit.true)

pub returns-then-first-eq48 : goal.returns-then-first-eq48
returns-then-first-eq48 g c =
    zero_first g.N.Magnitude.value g.N.Magnitude.bound c.args.input.now c.in-Some.after.now c.split_zero.result
    (c.in-Some.ensures.cases.0 ∙ ap (λ first. first ∷ c.in-Some.after.now) c.if-first-eq48.true) c.split_zero.ensures

pub returns-else-first-eq48 : goal.returns-else-first-eq48
returns-else-first-eq48 g c =
    digit_first g.N.Magnitude.value g.N.Magnitude.bound c.args.input.now c.in-Some.after.now c.split_digits.result c.in-Some.field-0-0.now c.in-Some.ensures.cases.0
    (sym c.is_ascii_digit.ensures.value ∙ c.if-not-is_ascii_digit.false) (ne_eqb _ 48 c.if-first-eq48.false) c.split_digits.ensures
