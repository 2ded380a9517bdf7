use Rattle.std.proofs.Common.{sym, ◌∙◌, false}
use Rattle.ufmt_parser.specs.Naming.{document_name}
use Rattle.ufmt_parser.specs.Taking.{open_blocks, setting_in}
use Rattle.ufmt_parser.proofs.NameFronts.{another_is_next, document_begins, name_is_next}
use Rattle.ufmt_parser.proofs.Naming.{not_named, not_named_leaves}
use Rattle.ufmt_parser.proofs.Strips.{was_there, was_not_there}
use Rattle.ufmt_parser.proofs.parser.Parser.is_named.Goals as goal

pub returns-in-Some-clause-none : goal.returns-in-Some-clause-none
returns-in-Some-clause-none g c = not_named g.M.ParseMode.mode c.args.self.now c.args.name.now c.is_past_name.result (λ d u next.
    let begins = document_begins (setting_in g.M.ParseMode.mode (open_blocks c.args.self.now)) d u next.0.0 next.1 in
    rw c.is_past_name.ensures (name_is_next c.args.name.now (document_name d) _ c.in-Some.after.now c.requires begins
    (sym next.2 ∙ was_there _ _ _ _ c.strip_piece.ensures c.in-Some.is)))

pub returns-in-Some-clause-only : goal.returns-in-Some-clause-only
returns-in-Some-clause-only g c = not_named_leaves g.M.ParseMode.mode c.args.self.now c.args.name.now c.is_past_name.result (λ d u next.
    let begins = document_begins (setting_in g.M.ParseMode.mode (open_blocks c.args.self.now)) d u next.0.0 next.1 in
    rw c.is_past_name.ensures (name_is_next c.args.name.now (document_name d) _ c.in-Some.after.now c.requires begins
    (sym next.2 ∙ was_there _ _ _ _ c.strip_piece.ensures c.in-Some.is)))

pub returns-in-None-clause-none : goal.returns-in-None-clause-none
returns-in-None-clause-none g c = not_named g.M.ParseMode.mode c.args.self.now c.args.name.now false (λ d u next.
    let begins = document_begins (setting_in g.M.ParseMode.mode (open_blocks c.args.self.now)) d u next.0.0 next.1 in
    another_is_next c.args.name.now (document_name d) _ c.requires begins
    (λ v same. was_not_there _ _ _ c.strip_piece.ensures c.in-None.is v (next.2 ∙ same)))

pub returns-in-None-clause-only : goal.returns-in-None-clause-only
returns-in-None-clause-only g c = not_named_leaves g.M.ParseMode.mode c.args.self.now c.args.name.now false (λ d u next.
    let begins = document_begins (setting_in g.M.ParseMode.mode (open_blocks c.args.self.now)) d u next.0.0 next.1 in
    another_is_next c.args.name.now (document_name d) _ c.requires begins
    (λ v same. was_not_there _ _ _ c.strip_piece.ensures c.in-None.is v (next.2 ∙ same)))
