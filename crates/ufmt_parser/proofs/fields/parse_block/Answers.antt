use Rattle.std.proofs.Common.{◌≡◌, ◌-◌, suc, ap, sym, ◌∙◌, arith}
use Rattle.ufmt_core.specs.Layout.{frame}
use Rattle.ufmt_parser.specs.Taking.{open_blocks}
use Rattle.ufmt_parser.proofs.Settings.{inside-of}
use Rattle.ufmt_parser.proofs.Taken.{after_piece, piece_refused, taken_with}
use Rattle.ufmt_parser.proofs.fields.parse_block.Goals as goal

pub returns-then-not-eat-2-clause-takes : goal.returns-then-not-eat-2-clause-takes
returns-then-not-eat-2-clause-takes g c =
    after_piece c.args.name.now c.if-not-eat.ensures.eats
    (piece_refused _ (frame g.M.ParseMode.mode c.args.kind).opening (rw (c.opening.ensures g.M.ParseMode.mode) at c.if-not-eat-2.ensures.eats))

pub returns-in-Err-clause-takes : goal.returns-in-Err-clause-takes
returns-in-Err-clause-takes g c =
    let same : open_blocks c.eat-2.new.self ≡ open_blocks c.args.parser.now = c.eat-2.ensures.blocks ∙ c.eat.ensures.blocks in
    let inside : open_blocks c.open_block.new.self ≡ suc (open_blocks c.args.parser.now) = c.if-not-open_block.ensures.counts.1 ∙ ap suc same in
    let outside : suc (open_blocks c.args.parser.now) - 1 ≡ open_blocks c.args.parser.now = omega arith in
    let few = rw same at c.if-not-open_block.ensures.counts.0 in
    let takes = rw (inside, outside, sym (inside-of g.M.ParseMode.mode _ few), c.open_block.ensures.rest) at c.in-Err.ensures.takes in
    after_piece c.args.name.now c.if-not-eat.ensures.eats
    (after_piece (frame g.M.ParseMode.mode c.args.kind).opening (rw (c.opening.ensures g.M.ParseMode.mode) at c.if-not-eat-2.ensures.eats) (taken_with few takes))

pub returns-clause-takes : goal.returns-clause-takes
returns-clause-takes g c =
    let same : open_blocks c.eat-2.new.self ≡ open_blocks c.args.parser.now = c.eat-2.ensures.blocks ∙ c.eat.ensures.blocks in
    let inside : open_blocks c.open_block.new.self ≡ suc (open_blocks c.args.parser.now) = c.if-not-open_block.ensures.counts.1 ∙ ap suc same in
    let outside : suc (open_blocks c.args.parser.now) - 1 ≡ open_blocks c.args.parser.now = omega arith in
    let few = rw same at c.if-not-open_block.ensures.counts.0 in
    let takes = rw (inside, outside, sym (inside-of g.M.ParseMode.mode _ few), c.open_block.ensures.rest) at c.in-Ok.ensures.takes in
    rw c.close_block.ensures.rest
    (after_piece c.args.name.now c.if-not-eat.ensures.eats
    (after_piece (frame g.M.ParseMode.mode c.args.kind).opening (rw (c.opening.ensures g.M.ParseMode.mode) at c.if-not-eat-2.ensures.eats) (taken_with few takes)))
