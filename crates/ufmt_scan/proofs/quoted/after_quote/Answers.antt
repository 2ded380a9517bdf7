use Rattle.std.proofs.Common.{refl}
use Rattle.ufmt_scan.proofs.Spelled.{never_closes, spelled_turn}
use Rattle.ufmt_scan.proofs.quoted.after_quote.Goals as goal

pub returns-in_err-after : goal.returns-in_err-after
returns-in_err-after c = rw c.from_residual.ensures (never_closes _ c.requires _ _ c.escapes.invariant c.in_default.ensures (c.in_err-after.ensures.none refl))

pub escapes-preserved : goal.escapes-preserved
escapes-preserved c = spelled_turn c.args.quote c.in_ok-after.field-0-0 _ _ _ _ c.escapes.invariant c.in_ok-after.ensures.some c.after_stretch-rest-in-escapes.ensures.after
