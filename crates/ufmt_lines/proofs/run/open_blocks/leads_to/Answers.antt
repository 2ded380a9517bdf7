use Rattle.std.proofs.Common.{◌≡◌, ◌∙◌, sym, subst, eqb-true}
use Rattle.std.proofs.lemmas.List.{take_rest}
use Rattle.ufmt_lines.proofs.OpenBlocks.{first_reached, leads}
use Rattle.ufmt_lines.specs.Private.OpenBlocks.{IsReached}
use Rattle.ufmt_lines.proofs.run.open_blocks.leads_to.Goals as goal

pub entries-init : goal.entries-init
entries-init c =
    let first = c.in-Some.ensures in
    record { within = first.1; reached = first_reached c.args.text.now c.args.outer c.in-Some.at first.0 }

pub returns : goal.returns
returns c = λ same none.
    let text = c.args.text.now in
    let at : c.entries.at ≡ c.args.inner = eqb-true _ _ same in
    leads text c.args.outer c.args.inner (subst (IsReached text c.args.outer) at c.entries.invariant.reached) (sym (rw take_rest at c.begins_block.ensures) ∙ (c.if-not-begins_block.false)) none
