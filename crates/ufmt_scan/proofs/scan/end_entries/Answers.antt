use Rattle.std.proofs.Common.{◌∙◌, ap, sym, arith}
use Rattle.ufmt_scan.specs.Private.Scanning.{scan_left, scan_onward, open_stages, BracesFirst}
use Rattle.ufmt_scan.proofs.OpenSteps.{around, ended, ended_none}
use Rattle.ufmt_scan.proofs.Scans.{refused, emits_left}
use Rattle.ufmt_scan.proofs.Stacks.{innermost_is}
use Rattle.ufmt_scan.proofs.scan.end_entries.Goals as goal

pub returns-in_err-next-clause-emitted : goal.returns-in_err-next-clause-emitted
returns-in_err-next-clause-emitted g c =
    refused (λ x. scan_left c.args.class c.args.mode (open_stages x.0 c.args.outer.now) x.1.now) c.from_residual.result c.from_residual.ensures.1
    (ended_none c.args.class c.args.mode c.args.outer.now c.told-outer c.ends.open.count c.ends.open.innermost c.ends.invariant.few c.in-Some.open_blocks
    (omega (arith, c.in-Some.ensures)) c.ends.rest.now c.ends.invariant.emitted c.in_err-next.ensures.0)

pub returns-in-Some-next-clause-emitted : goal.returns-in-Some-next-clause-emitted
returns-in-Some-next-clause-emitted g c =
    let blocks = innermost_is c.args.outer.now c.told-outer c.ends.open.count c.in-Some.open_blocks c.in-Some-next.innermost BracesFirst
    (omega (arith, c.in-Some.ensures)) (omega (arith, c.ends.invariant.few)) in
    emits_left (ended c.args.class c.args.mode c.args.outer.now c.told-outer c.ends.open.count c.ends.open.innermost c.ends.invariant.few c.in-Some.open_blocks
    (omega (arith, c.in-Some.ensures)) c.ends.rest.now c.in_ok-next.after.now c.in_ok-next.next c.ends.invariant.emitted c.in_ok-next.ensures.0)
    (ap (λ next. scan_onward c.args.class c.args.mode (around c.args.outer.now c.in-Some.open_blocks) next c.in_ok-next.after.now) c.in-Some-next.is
    ∙ ap (λ stages. scan_left c.args.class c.args.mode stages c.in_ok-next.after.now) (sym blocks))

pub ends-preserved : goal.ends-preserved
ends-preserved g c =
    let less = c.in_ok-next.ensures.1 in
    record {
      emitted = emits_left (ended c.args.class c.args.mode c.args.outer.now c.told-outer c.ends.open.count c.ends.open.innermost c.ends.invariant.few c.in-Some.open_blocks
          (omega (arith, c.in-Some.ensures)) c.ends.rest.now c.in_ok-next.after.now c.in_ok-next.next c.ends.invariant.emitted c.in_ok-next.ensures.0)
          (ap (λ next. scan_onward c.args.class c.args.mode (around c.args.outer.now c.in-Some.open_blocks) next c.in_ok-next.after.now) c.in_default-next.is);
      within = omega (arith, c.ends.invariant.within, less);
      few = omega (arith, c.in-Some.ensures, c.ends.invariant.few);
    }
