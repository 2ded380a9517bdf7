use Rattle.std.proofs.Common.{◌==◌, ◌∙◌, ap, sym}
use Rattle.ufmt_scan.proofs.DebugFronts.{no_word_here, word_closed, word_unclosed}
use Rattle.ufmt_scan.proofs.debug_leaf.after_closed_word.Goals as goal

pub returns-then-is_empty : goal.returns-then-is_empty
returns-then-is_empty c =
    no_word_here c.args.input.now c.split_at.result.1.now c.marked_len.result c.marked_len.ensures.len c.split_at.ensures.back
    (ap (λ k. k == 0) (sym c.split_at.ensures.front_len) ∙ sym c.is_empty.ensures ∙ c.if-is_empty.true)

pub returns-in_err-rest : goal.returns-in_err-rest
returns-in_err-rest c = rw c.from_residual.ensures
    (word_unclosed c.args.input.now c.split_at.result.1.now c.marked_len.result c.marked_len.ensures.len c.split_at.ensures.back (sym c.in_err-rest.ensures))

pub returns : goal.returns
returns c =
    word_closed c.args.input.now c.split_at.result.1.now c.marked_len.result c.marked_len.ensures.len c.split_at.ensures.back c.in_ok-rest.rest.now
    (ap (λ k. k == 0) (sym c.split_at.ensures.front_len) ∙ sym c.is_empty.ensures ∙ c.if-is_empty.false) (sym c.in_ok-rest.ensures)
