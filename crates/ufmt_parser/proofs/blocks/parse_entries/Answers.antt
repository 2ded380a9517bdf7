use Rattle.std.proofs.Common.{◌≡◌, ◌∙◌, refl, subst, sym, ap, suc, ◌++◌, ◌<◌, ◌≤◌}
use Rattle.ufmt_core.specs.Layout.{frame}
use Rattle.ufmt_parser.specs.Taking.{open_blocks, rest, setting_in}
use Rattle.ufmt_parser.proofs.Taken.{after_piece}
use Rattle.ufmt_parser.proofs.WholeBlocks.{empty_taken, in_block, some_taken}
use Rattle.ufmt_parser.proofs.blocks.parse_entries.Goals as goal

pub returns-then-eat_empty_ending-clause-takes : goal.returns-then-eat_empty_ending-clause-takes
returns-then-eat_empty_ending-clause-takes g c =
    let mode = g.M.ParseMode.mode in
    let blocks = open_blocks c.args.parser.now in
    let fit = g.P.EntryParser.fit in
    let text = g.P.EntryParser.text c.args.by.now (setting_in mode (suc blocks)) in
    let piece = (frame mode c.args.kind).opening in
    rw (c.new.ensures.items) (after_piece piece (c.if-not-eat.ensures.eats ∙ ap (λ t. t ++ rest c.eat.new.self) (c.opening.ensures mode))
    (empty_taken fit text mode c.args.kind blocks c.requires.bracketed (λ e. c.requires.begin (suc blocks) (setting_in mode (suc blocks)) e) c.if-eat_empty_ending.ensures.eats
    (subst (λ n. n ≤ 255) c.if-not-eat.ensures.blocks c.if-eat_empty_ending.ensures.counted)))

pub returns-in-Err-clause-takes : goal.returns-in-Err-clause-takes
returns-in-Err-clause-takes g c =
    let mode = g.M.ParseMode.mode in
    let blocks = open_blocks c.args.parser.now in
    let fit = g.P.EntryParser.fit in
    let text = g.P.EntryParser.text c.args.by.now (setting_in mode (suc blocks)) in
    let piece = (frame mode c.args.kind).opening in
    let same : open_blocks c.eat_empty_ending.new.self ≡ blocks = c.if-eat_empty_ending.ensures.blocks ∙ c.if-not-eat.ensures.blocks in
    let still : rest c.open_block.new.self ≡ rest c.eat.new.self = c.if-not-open_block.ensures.rest ∙ c.if-eat_empty_ending.ensures.stays refl in
    after_piece piece (c.if-not-eat.ensures.eats ∙ ap (λ t. t ++ rest c.eat.new.self) (c.opening.ensures mode) ∙ ap (λ t. piece ++ t) (sym still))
    (some_taken fit text mode c.args.kind blocks (λ u at. c.if-eat_empty_ending.ensures.eats u (sym still ∙ at))
    (subst (λ n. n < 255) same c.if-not-open_block.ensures.counts.0)
    (in_block fit (g.P.EntryParser.text c.args.by.now) mode c.args.kind blocks (c.if-not-open_block.ensures.counts.1 ∙ ap suc same) c.in-Err.ensures.takes))

pub returns-clause-takes : goal.returns-clause-takes
returns-clause-takes g c =
    let mode = g.M.ParseMode.mode in
    let blocks = open_blocks c.args.parser.now in
    let fit = g.P.EntryParser.fit in
    let text = g.P.EntryParser.text c.args.by.now (setting_in mode (suc blocks)) in
    let piece = (frame mode c.args.kind).opening in
    let same : open_blocks c.eat_empty_ending.new.self ≡ blocks = c.if-eat_empty_ending.ensures.blocks ∙ c.if-not-eat.ensures.blocks in
    let still : rest c.open_block.new.self ≡ rest c.eat.new.self = c.if-not-open_block.ensures.rest ∙ c.if-eat_empty_ending.ensures.stays refl in
    rw (c.close_block.ensures.rest) (after_piece piece
    (c.if-not-eat.ensures.eats ∙ ap (λ t. t ++ rest c.eat.new.self) (c.opening.ensures mode) ∙ ap (λ t. piece ++ t) (sym still))
    (some_taken fit text mode c.args.kind blocks (λ u at. c.if-eat_empty_ending.ensures.eats u (sym still ∙ at))
    (subst (λ n. n < 255) same c.if-not-open_block.ensures.counts.0)
    (in_block fit (g.P.EntryParser.text c.args.by.now) mode c.args.kind blocks (c.if-not-open_block.ensures.counts.1 ∙ ap suc same) c.in-Ok.ensures.takes)))
