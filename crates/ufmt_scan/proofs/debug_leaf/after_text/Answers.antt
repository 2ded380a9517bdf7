use Rattle.std.proofs.Common.{◌∷◌, ap, sym, subst, false, arith, length}
use Rattle.ufmt_grammar.specs.Leaves.{after_quotes, between}
use Rattle.ufmt_scan.specs.Private.Fronts.{Passes}
use Rattle.ufmt_grammar.proofs.DebugLeaves.{opening_is_quote}
use Rattle.ufmt_scan.proofs.DebugFronts.{closed, differ, opened}
use Rattle.ufmt_scan.proofs.PassedBytes.{passes_then}
use Rattle.ufmt_scan.proofs.debug_leaf.after_text.Goals as goal

pub stretches-init : goal.stretches-init
stretches-init c = record { passes = opened c.args.quote c.args.inside.now c.requires; within = omega arith }

pub returns-then-byte-quote : goal.returns-then-byte-quote
returns-then-byte-quote c =
    let rest = c.stretches.invariant in
    let quote = opening_is_quote c.args.quote c.args.inside.now c.requires in
    let end = c.in_ok-byte.ensures.cases.0 in
    let stretch = c.after_stretch.ensures.passes c.args.quote quote in
    let closing = subst (λ t. Passes (between c.args.quote) t after_quotes c.in_ok-byte.after.now false) (sym end)
    (subst (λ b. Passes (between c.args.quote) (b ∷ c.in_ok-byte.after.now) after_quotes c.in_ok-byte.after.now false) (sym c.if-byte-quote.true)
    (closed c.args.quote quote c.in_ok-byte.after.now)) in
    (passes_then (passes_then rest.passes stretch.passes) closing, omega (arith, rest.within, c.after_stretch.ensures.within, ap length end))

pub stretches-preserved : goal.stretches-preserved
stretches-preserved c =
    let rest = c.stretches.invariant in
    let quote = opening_is_quote c.args.quote c.args.inside.now c.requires in
    let end = c.in_ok-byte.ensures.cases.0 in
    let stretch = c.after_stretch.ensures.passes c.args.quote quote in
    let stays = c.in_ok-rest.ensures.passes c.args.quote quote (differ c.in_ok-byte.field-0-0.now c.args.quote c.if-byte-quote.false) in
    let next = subst (λ t. Passes (between c.args.quote) t (between c.args.quote) c.in_ok-rest.rest.now stays.named) (sym end) stays.passes in
    record {
      passes = passes_then (passes_then rest.passes stretch.passes) next;
      within = omega (arith, rest.within, c.after_stretch.ensures.within, ap length end, c.in_ok-rest.ensures.within);
    }
