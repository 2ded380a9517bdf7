use Rattle.std.proofs.Common.{◌∷◌, ◌∙◌, ap, arith, length, refl}
use Rattle.ufmt_scan.proofs.PassedBytes.{unit_passes}
use Rattle.ufmt_scan.proofs.debug_leaf.after_parenthesis.Goals as goal

pub returns-in-Some-eq41-default : goal.returns-in-Some-eq41-default
returns-in-Some-eq41-default c =
    let found = c.in-Some-eq41-default in (
      unit_passes 40 c.args.after.now found.rest.now refl (found.ensures.cases.0 ∙ ap (λ b. b ∷ found.rest.now) found.field-0-0-test),
      omega (arith, ap length found.ensures.cases.0),
    )
