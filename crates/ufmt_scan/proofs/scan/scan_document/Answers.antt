use Rattle.std.proofs.Common.{◌≡◌, ◌∙◌, ◌-◌, ◌<◌, ap, sym, refl, [], Some, length, arith}
use Rattle.std.proofs.lemmas.List.{length-set}
use Rattle.ufmt_scan.specs.Private.Scanning.{scan_next, scan_onward, open_stages}
use Rattle.ufmt_scan.proofs.OpenSteps.{began, began_none}
use Rattle.ufmt_scan.proofs.Scans.{none_in_last, nothing_left, refused, stops_after, emits_left, emits_then}
use Rattle.ufmt_scan.proofs.Stacks.{count_is, innermost_is, one_more}
use Rattle.ufmt_scan.proofs.scan.scan_document.Goals as goal

pub returns-in_err-begun : goal.returns-in_err-begun
returns-in_err-begun g c = refused (λ rest. Some ([], rest.now)) c.from_residual.result c.from_residual.ensures.1
    (stops_after c.documents.invariant.emitted (c.in_err-begun.ensures.emitted c.documents.outer c.documents.invariant.whole))

pub returns-in_err-opened : goal.returns-in_err-opened
returns-in_err-opened g c = refused (λ rest. Some ([], rest.now)) c.from_residual-in_err-opened.result c.from_residual-in_err-opened.ensures.1
    (began_none c.args.class c.args.mode c.documents.outer c.documents.invariant.whole c.documents.blocks.count c.documents.blocks.innermost c.documents.invariant.few c.in_ok-begun.begun.now
    (emits_then c.documents.invariant.emitted (c.in_ok-begun.ensures.emitted c.documents.outer c.documents.invariant.whole)) c.in_err-opened.ensures.0)

pub returns-in_default-checked_add : goal.returns-in_default-checked_add
returns-in_default-checked_add g c =
    let blocks = open_stages c.documents.blocks c.documents.outer in
    let deep = count_is c.documents.outer c.documents.invariant.whole c.documents.blocks.count c.documents.blocks.innermost (omega (arith, c.documents.invariant.few)) in
    let many : length blocks ≡ 255 = omega (arith, c.in_default-checked_add.ensures, deep, c.documents.invariant.few) in
    nothing_left (emits_left (began c.args.class c.args.mode c.documents.outer c.documents.invariant.whole c.documents.blocks.count c.documents.blocks.innermost c.documents.invariant.few c.in_ok-begun.begun.now c.in_ok-opened.after.now c.in_ok-opened.opened
    (emits_then c.documents.invariant.emitted (c.in_ok-begun.ensures.emitted c.documents.outer c.documents.invariant.whole)) c.in_ok-opened.ensures.0)
    (ap (λ next. scan_onward c.args.class c.args.mode (open_stages c.documents.blocks c.documents.outer) next c.in_ok-opened.after.now) c.in-Some.is)) (none_in_last c.args.class c.args.mode c.in-Some.innermost blocks c.in_ok-opened.after.now many)

pub documents-preserved-in-Some : goal.documents-preserved-in-Some
documents-preserved-in-Some g c =
    let more = one_more c.documents.outer c.documents.invariant.whole c.in-Some-checked_add.count c.documents.blocks.count c.documents.blocks.innermost c.in-Some.innermost
    (omega (arith, c.in-Some-checked_add.ensures)) (omega (arith, c.in-Some-checked_add.ensures)) in
    record {
      emitted = emits_left (began c.args.class c.args.mode c.documents.outer c.documents.invariant.whole c.documents.blocks.count c.documents.blocks.innermost c.documents.invariant.few c.in_ok-begun.begun.now c.in_ok-opened.after.now c.in_ok-opened.opened
          (emits_then c.documents.invariant.emitted (c.in_ok-begun.ensures.emitted c.documents.outer c.documents.invariant.whole)) c.in_ok-opened.ensures.0)
          (ap (λ next. scan_onward c.args.class c.args.mode (open_stages c.documents.blocks c.documents.outer) next c.in_ok-opened.after.now) c.in-Some.is ∙ ap (λ stages. scan_next c.args.class c.args.mode stages c.in_ok-opened.after.now) (sym more));
      few = omega (arith, c.in-Some-checked_add.ensures);
      in_block = λ struct. omega (arith, c.in-Some-checked_add.ensures);
      whole = length-set c.documents.outer c.documents.blocks.count c.documents.blocks.innermost ∙ c.documents.invariant.whole;
    }

pub returns-in_err-left : goal.returns-in_err-left
returns-in_err-left g c = refused (λ rest. Some ([], rest.now)) c.from_residual-in_err-left.result c.from_residual-in_err-left.ensures.1
    (stops_after (emits_left (began c.args.class c.args.mode c.documents.outer c.documents.invariant.whole c.documents.blocks.count c.documents.blocks.innermost c.documents.invariant.few c.in_ok-begun.begun.now c.in_ok-opened.after.now c.in_ok-opened.opened
    (emits_then c.documents.invariant.emitted (c.in_ok-begun.ensures.emitted c.documents.outer c.documents.invariant.whole)) c.in_ok-opened.ensures.0)
    (ap (λ next. scan_onward c.args.class c.args.mode (open_stages c.documents.blocks c.documents.outer) next c.in_ok-opened.after.now) c.in_default.is)) c.in_err-left.ensures.emitted)

pub returns-then-blocks-eq0 : goal.returns-then-blocks-eq0
returns-then-blocks-eq0 g c = emits_left (emits_then (emits_left (began c.args.class c.args.mode c.documents.outer c.documents.invariant.whole c.documents.blocks.count c.documents.blocks.innermost c.documents.invariant.few c.in_ok-begun.begun.now c.in_ok-opened.after.now c.in_ok-opened.opened
    (emits_then c.documents.invariant.emitted (c.in_ok-begun.ensures.emitted c.documents.outer c.documents.invariant.whole)) c.in_ok-opened.ensures.0)
    (ap (λ next. scan_onward c.args.class c.args.mode (open_stages c.documents.blocks c.documents.outer) next c.in_ok-opened.after.now) c.in_default.is)) c.in_ok-left.ensures.emitted) (rw c.if-blocks-eq0.true refl)

pub documents-preserved : goal.documents-preserved
documents-preserved g c =
    let left = c.in_ok-left.left in
    let few : left.count < 256 = omega arith in
    let is = innermost_is c.documents.outer c.documents.invariant.whole left.count (left.count - 1) left.innermost left.innermost (omega (arith, c.if-blocks-eq0.false))
    (omega (arith, few)) in
    record {
      emitted = emits_left (emits_then (emits_left (began c.args.class c.args.mode c.documents.outer c.documents.invariant.whole c.documents.blocks.count c.documents.blocks.innermost c.documents.invariant.few c.in_ok-begun.begun.now c.in_ok-opened.after.now c.in_ok-opened.opened
          (emits_then c.documents.invariant.emitted (c.in_ok-begun.ensures.emitted c.documents.outer c.documents.invariant.whole)) c.in_ok-opened.ensures.0)
          (ap (λ next. scan_onward c.args.class c.args.mode (open_stages c.documents.blocks c.documents.outer) next c.in_ok-opened.after.now) c.in_default.is)) c.in_ok-left.ensures.emitted) (rw is refl);
      few = few;
      in_block = λ struct. omega (arith, c.if-blocks-eq0.false);
      whole = c.documents.invariant.whole;
    }
