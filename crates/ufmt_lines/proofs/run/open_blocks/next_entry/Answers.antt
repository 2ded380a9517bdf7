use Rattle.std.proofs.Common.{◌∙◌, ◌+◌, refl, sym, arith}
use Rattle.std.proofs.lemmas.List.{take_rest}
use Rattle.ufmt_lines.proofs.OpenBlocks.{next_reached}
use Rattle.ufmt_lines.proofs.run.open_blocks.next_entry.Goals as goal

pub returns-then-is_separated : goal.returns-then-is_separated
returns-then-is_separated c =
    let front = c.in_ok-front.front in
    let text = c.args.text.now in
    let is = rw take_rest at c.in_ok-front.ensures.some in
    let separated = rw take_rest at c.is_separated.ensures.is in
    let len = rw take_rest at c.is_separated.ensures.len in (
      omega arith,
      omega arith,
      λ start reached. next_reached text start c.args.at (c.args.at + front.len + 2) front is (sym separated ∙ c.if-is_separated.true) refl reached,
    )
