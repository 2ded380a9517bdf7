use Rattle.std.proofs.Common.{refl, sym, None, Some, arith}
use Rattle.ufmt_core.specs.Layout.{frame}
use Rattle.ufmt_grammar.proofs.ReadingTurns.{strip_within}
use Rattle.ufmt_core.specs.declared.layout.Count.TheVariants.{Zero}
use Rattle.ufmt_scan.specs.Private.Scanning.{after, first_stage}
use Rattle.ufmt_scan.proofs.EntrySteps.{after_lead}
use Rattle.ufmt_scan.proofs.Scans.{nothing_there, step_refused}
use Rattle.ufmt_scan.proofs.scan.step.begin_block.Goals as goal

pub returns-in_err-emit : goal.returns-in_err-emit
returns-in_err-emit g c = step_refused _ (after c.args.level) c.from_residual.result c.from_residual.ensures.1
    (c.in_err-emit.ensures _ (after c.args.level None c.in-Some.rest.now) (rw (sym c.in-Some.ensures) refl))

pub returns-in_ok-emit : goal.returns-in_ok-emit
returns-in_ok-emit g c =
    let within = strip_within ((frame c.args.level.mode c.args.kind).closing Zero) _ _ (sym c.in-Some.ensures) in
    (c.in_ok-emit.ensures _ _ (rw (sym c.in-Some.ensures) refl), omega (arith, within))

pub returns-in_err-emit-2 : goal.returns-in_err-emit-2
returns-in_err-emit-2 g c = step_refused _ (after c.args.level) c.from_residual-in_err-emit-2.result c.from_residual-in_err-emit-2.ensures.1
    (c.in_err-emit-2.ensures _ (after c.args.level (Some (first_stage c.args.kind)) c.in-Some-strip_lead.rest.now)
    (rw (sym c.in_default.ensures, sym c.in-Some-strip_lead.ensures) refl))

pub returns-in_ok-emit-2 : goal.returns-in_ok-emit-2
returns-in_ok-emit-2 g c = (
  c.in_ok-emit-2.ensures _ _ (rw (sym c.in_default.ensures, sym c.in-Some-strip_lead.ensures, c.first.ensures) refl),
  after_lead c.args.level c.args.kind _ _ (sym c.in-Some-strip_lead.ensures),
)

pub returns-in_default-strip_lead : goal.returns-in_default-strip_lead
returns-in_default-strip_lead g c = (nothing_there _ (rw (sym c.in_default.ensures, sym c.in_default-strip_lead.ensures) refl), tt)
