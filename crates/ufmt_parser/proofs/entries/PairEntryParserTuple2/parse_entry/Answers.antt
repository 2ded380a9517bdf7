use Rattle.ufmt_core.specs.Layout.{layout}
use Rattle.ufmt_grammar.specs.declared.class.Class.TheVariants.{Debug}
use Rattle.ufmt_grammar.proofs.TextsBegin.{document_begins}
use Rattle.ufmt_parser.specs.Taking.{Fits, open_blocks, rest, setting_in}
use Rattle.ufmt_parser.proofs.EntryParts.{failed_key, no_colon, with_value}
use Rattle.ufmt_parser.proofs.entries.PairEntryParserTuple2.parse_entry.Goals as goal

pub returns-in-Err-clause-takes : goal.returns-in-Err-clause-takes
returns-in-Err-clause-takes g c =
    let blocks = open_blocks c.args.parser.now in
    failed_key (λ v. g.K.ParsesBy.is_value v × Fits blocks (g.T.uDebug.document v)) (λ v. layout (setting_in g.M.ParseMode.mode blocks) (g.T.uDebug.document v))
    (λ v. g.P.ParsesBy.is_value v × Fits blocks (g.U.uDebug.document v)) (λ v. layout (setting_in g.M.ParseMode.mode blocks) (g.U.uDebug.document v))
    (λ v is. document_begins Debug (setting_in g.M.ParseMode.mode blocks) (g.U.uDebug.document v) is.1.0)
    {new = rest c.parse_by.new.parser} c.in-Err.ensures.takes

pub returns-then-not-eat-clause-takes : goal.returns-then-not-eat-clause-takes
returns-then-not-eat-clause-takes g c =
    let blocks = open_blocks c.args.parser.now in
    no_colon (λ v. g.K.ParsesBy.is_value v × Fits blocks (g.T.uDebug.document v)) (λ v. layout (setting_in g.M.ParseMode.mode blocks) (g.T.uDebug.document v))
    (λ v. g.P.ParsesBy.is_value v × Fits blocks (g.U.uDebug.document v)) (λ v. layout (setting_in g.M.ParseMode.mode blocks) (g.U.uDebug.document v))
    (λ v is. document_begins Debug (setting_in g.M.ParseMode.mode blocks) (g.U.uDebug.document v) is.1.0)
    {after = rest c.parse_by.new.parser} c.in-Ok.ensures.takes {new = rest c.eat.new.self} c.if-not-eat.ensures.eats

pub returns-in-Err-parse_by-clause-takes : goal.returns-in-Err-parse_by-clause-takes
returns-in-Err-parse_by-clause-takes g c =
    let blocks = open_blocks c.args.parser.now in
    with_value (λ v. g.K.ParsesBy.is_value v × Fits blocks (g.T.uDebug.document v)) (λ v. layout (setting_in g.M.ParseMode.mode blocks) (g.T.uDebug.document v))
    (λ v. g.P.ParsesBy.is_value v × Fits blocks (g.U.uDebug.document v)) (λ v. layout (setting_in g.M.ParseMode.mode blocks) (g.U.uDebug.document v))
    (λ v is. document_begins Debug (setting_in g.M.ParseMode.mode blocks) (g.U.uDebug.document v) is.1.0)
    {after = rest c.parse_by.new.parser} c.in-Ok.ensures.takes {further = rest c.eat.new.self} c.if-not-eat.ensures.eats {new = rest c.parse_by-2.new.parser}
    (rw (c.eat.ensures.blocks, c.in-Ok.ensures.blocks) at c.in-Err-parse_by.ensures.takes)

pub returns-clause-takes : goal.returns-clause-takes
returns-clause-takes g c =
    let blocks = open_blocks c.args.parser.now in
    with_value (λ v. g.K.ParsesBy.is_value v × Fits blocks (g.T.uDebug.document v)) (λ v. layout (setting_in g.M.ParseMode.mode blocks) (g.T.uDebug.document v))
    (λ v. g.P.ParsesBy.is_value v × Fits blocks (g.U.uDebug.document v)) (λ v. layout (setting_in g.M.ParseMode.mode blocks) (g.U.uDebug.document v))
    (λ v is. document_begins Debug (setting_in g.M.ParseMode.mode blocks) (g.U.uDebug.document v) is.1.0)
    {after = rest c.parse_by.new.parser} c.in-Ok.ensures.takes {further = rest c.eat.new.self} c.if-not-eat.ensures.eats {new = rest c.parse_by-2.new.parser}
    (rw (c.eat.ensures.blocks, c.in-Ok.ensures.blocks) at c.in-Ok-parse_by.ensures.takes)
