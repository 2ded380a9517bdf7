use Rattle.std.proofs.Common.{codes}
use Rattle.ufmt_core.specs.Layout.{layout}
use Rattle.ufmt_parser.specs.Taking.{open_blocks, setting_in}
use Rattle.ufmt_parser.proofs.Taken.{after_piece, piece_refused}
use Rattle.ufmt_parser.proofs.entries.NamedEntryParser.parse_entry.Goals as goal

pub returns-then-not-eat-2-clause-takes : goal.returns-then-not-eat-2-clause-takes
returns-then-not-eat-2-clause-takes g c =
    after_piece c.args.self.now.0.now c.if-not-eat.ensures.eats
    (piece_refused (λ v. layout (setting_in g.M.ParseMode.mode (open_blocks c.args.parser.now)) (g.T.uDebug.document v)) (codes ": ") (rw c.note.ensures.rest at c.if-not-eat-2.ensures.eats))

pub returns-clause-takes : goal.returns-clause-takes
returns-clause-takes g c =
    let takes = rw (c.eat-2.ensures.blocks, c.note.ensures.blocks) at c.parse_by.ensures.takes in
    let colon = rw c.note.ensures.rest at c.if-not-eat-2.ensures.eats in
    after_piece c.args.self.now.0.now c.if-not-eat.ensures.eats (after_piece (codes ": ") colon (rw c.eat.ensures.blocks at takes))
