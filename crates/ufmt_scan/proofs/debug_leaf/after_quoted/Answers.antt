use Rattle.std.proofs.Common.{◌∷◌, ◌∙◌, sym, subst}
use Rattle.ufmt_scan.specs.Private.Fronts.{StaysBetween}
use Rattle.ufmt_scan.proofs.DebugFronts.{differ}
use Rattle.ufmt_scan.proofs.PassedBytes.{escape_stays, stays}
use Rattle.ufmt_scan.proofs.debug_leaf.after_quoted.Goals as goal

pub returns-else-is_control-clause-passes : goal.returns-else-is_control-clause-passes
returns-else-is_control-clause-passes c = λ quote is other. stays quote c.args.byte other c.args.after.now
    (differ c.args.byte 92 c.if-byte-ne92.true) (sym c.is_control.ensures ∙ c.if-is_control.false)

pub returns-then-is_escaped-clause-passes : goal.returns-then-is_escaped-clause-passes
returns-then-is_escaped-clause-passes c = λ quote is other.
    subst (λ t. StaysBetween quote (c.args.byte ∷ t) c.in_ok-escaped.rest.now) (sym c.in_ok-escaped.ensures.cases.0)
    (escape_stays quote c.args.byte other c.if-byte-ne92.false c.in_ok-escaped.field-0-0.now c.in_ok-escaped.rest.now (sym c.is_escaped.ensures ∙ c.if-is_escaped.true))
