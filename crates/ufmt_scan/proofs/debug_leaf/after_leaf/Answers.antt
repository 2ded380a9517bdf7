use Rattle.std.proofs.Common.{◌∙◌, sym, subst, false, true}
use Rattle.ufmt_grammar.specs.Leaves.{after_quotes, outside}
use Rattle.ufmt_scan.specs.Private.Fronts.{Passes}
use Rattle.ufmt_scan.proofs.DebugFronts.{colon_ends, ends_leaf, no_colon_next, quotes_next, stops_leaf, word_next}
use Rattle.ufmt_scan.proofs.PassedBytes.{in_word_passes}
use Rattle.ufmt_scan.proofs.LeafEnds.{nothing_stops}
use Rattle.ufmt_scan.proofs.debug_leaf.after_leaf.Goals as goal

pub returns-in_default : goal.returns-in_default
returns-in_default c =
    ends_leaf c.args.input.now c.pieces.rest.now c.after_word-end.result.now c.pieces.is_named c.pieces.invariant c.after_word-end.ensures.passes
    (nothing_stops c.after_word-end.result.now c.in_default.ensures.cases)

pub returns-then-begins_with : goal.returns-then-begins_with
returns-then-begins_with c = colon_ends c.args.input.now c.in_ok-rest.rest.now
    (quotes_next c.pieces.invariant c.after_word-end.ensures.passes
    (subst (λ t. Passes outside t after_quotes c.in_ok-rest.rest.now false) (sym c.in-Some.ensures.cases.0) c.in_ok-rest.ensures.0))
    (sym c.begins_with.ensures ∙ c.if-begins_with.true)

pub pieces-preserved-else-begins_with : goal.pieces-preserved-else-begins_with
pieces-preserved-else-begins_with c = no_colon_next c.args.input.now c.in_ok-rest.rest.now false
    (quotes_next c.pieces.invariant c.after_word-end.ensures.passes
    (subst (λ t. Passes outside t after_quotes c.in_ok-rest.rest.now false) (sym c.in-Some.ensures.cases.0) c.in_ok-rest.ensures.0))
    (sym c.begins_with.ensures ∙ c.if-begins_with.false)

pub pieces-preserved-then-is_in_word : goal.pieces-preserved-then-is_in_word
pieces-preserved-then-is_in_word c = word_next c.pieces.invariant c.after_word-end.ensures.passes
    (subst (λ t. Passes outside t outside c.in-Some.after.now true) (sym c.in-Some.ensures.cases.0)
    (in_word_passes c.in-Some.field-0-0.now c.in-Some.after.now (sym c.is_in_word.ensures ∙ c.if-is_in_word.true)))

pub pieces-preserved : goal.pieces-preserved
pieces-preserved c = quotes_next c.pieces.invariant c.after_word-end.ensures.passes
    (subst (λ t. Passes outside t outside c.in-Some-after_other.other.now false) (sym c.in-Some.ensures.cases.0) c.in-Some-after_other.ensures.0)

pub returns-in_default-after_other : goal.returns-in_default-after_other
returns-in_default-after_other c =
    ends_leaf c.args.input.now c.pieces.rest.now c.after_word-end.result.now c.pieces.is_named c.pieces.invariant c.after_word-end.ensures.passes
    (stops_leaf c.after_word-end.result.now c.in-Some.field-0-0.now c.in-Some.after.now c.in-Some.ensures.cases.0 c.in_default-after_other.ensures)
