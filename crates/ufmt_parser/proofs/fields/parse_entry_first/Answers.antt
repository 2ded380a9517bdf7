use Rattle.ufmt_parser.specs.Fields.{AllFit, all_now, each_text}
use Rattle.ufmt_parser.specs.Taking.{open_blocks, rest, setting_in}
use Rattle.ufmt_parser.proofs.EntryParts.{no_lead, failed_entry, no_trail, with_others}
use Rattle.ufmt_parser.proofs.fields.parse_entry_first.Goals as goal

pub returns-then-not-eat_lead-clause-takes : goal.returns-then-not-eat_lead-clause-takes
returns-then-not-eat_lead-clause-takes g c =
    let blocks = open_blocks c.args.parser.now in
    no_lead g.M.ParseMode.mode c.args.kind c.args.count blocks c.requires.opened c.eat_lead.ensures.counted
    (g.P.EntryParser.fit blocks) (g.P.EntryParser.text c.args.first.now (setting_in g.M.ParseMode.mode blocks))
    (λ v. g.R.FieldParsers.is_value v × AllFit blocks (g.R.FieldParsers.documents v)) (λ v. each_text (setting_in g.M.ParseMode.mode blocks) (all_now c.args.names.now) (g.R.FieldParsers.documents v))
    {new = rest c.eat_lead.new.self} c.if-not-eat_lead.ensures.eats

pub returns-in-Err-clause-takes : goal.returns-in-Err-clause-takes
returns-in-Err-clause-takes g c =
    let blocks = open_blocks c.args.parser.now in
    failed_entry g.M.ParseMode.mode c.args.kind c.args.count blocks c.requires.opened c.eat_lead.ensures.counted
    (g.P.EntryParser.fit blocks) (g.P.EntryParser.text c.args.first.now (setting_in g.M.ParseMode.mode blocks))
    (λ v. g.R.FieldParsers.is_value v × AllFit blocks (g.R.FieldParsers.documents v)) (λ v. each_text (setting_in g.M.ParseMode.mode blocks) (all_now c.args.names.now) (g.R.FieldParsers.documents v))
    {here = rest c.eat_lead.new.self} c.if-not-eat_lead.ensures.eats {new = rest c.parse_entry.new.parser} (rw c.eat_lead.ensures.blocks at c.in-Err.ensures.takes)

pub returns-then-not-eat-clause-takes : goal.returns-then-not-eat-clause-takes
returns-then-not-eat-clause-takes g c =
    let blocks = open_blocks c.args.parser.now in
    no_trail g.M.ParseMode.mode c.args.kind c.args.count blocks c.requires.opened c.eat_lead.ensures.counted
    (g.P.EntryParser.fit blocks) (g.P.EntryParser.text c.args.first.now (setting_in g.M.ParseMode.mode blocks))
    (λ v. g.R.FieldParsers.is_value v × AllFit blocks (g.R.FieldParsers.documents v)) (λ v. each_text (setting_in g.M.ParseMode.mode blocks) (all_now c.args.names.now) (g.R.FieldParsers.documents v))
    {here = rest c.eat_lead.new.self} c.if-not-eat_lead.ensures.eats {after = rest c.parse_entry.new.parser} (rw c.eat_lead.ensures.blocks at c.in-Ok.ensures.takes)
    {new = rest c.eat.new.self} (rw (c.trail.ensures, c.mode.ensures) at c.if-not-eat.ensures.eats)

pub returns-in-Err-parse_rest-clause-takes : goal.returns-in-Err-parse_rest-clause-takes
returns-in-Err-parse_rest-clause-takes g c =
    let blocks = open_blocks c.args.parser.now in
    let same = rw (c.eat.ensures.blocks, c.in-Ok.ensures.blocks, c.eat_lead.ensures.blocks, c.next.ensures) at c.in-Err-parse_rest.ensures.takes in
    with_others g.M.ParseMode.mode c.args.kind c.args.count blocks c.requires.opened c.eat_lead.ensures.counted
    (g.P.EntryParser.fit blocks) (g.P.EntryParser.text c.args.first.now (setting_in g.M.ParseMode.mode blocks))
    (λ v. g.R.FieldParsers.is_value v × AllFit blocks (g.R.FieldParsers.documents v)) (λ v. each_text (setting_in g.M.ParseMode.mode blocks) (all_now c.args.names.now) (g.R.FieldParsers.documents v))
    {here = rest c.eat_lead.new.self} c.if-not-eat_lead.ensures.eats {after = rest c.parse_entry.new.parser} (rw c.eat_lead.ensures.blocks at c.in-Ok.ensures.takes)
    {further = rest c.eat.new.self} (rw (c.trail.ensures, c.mode.ensures) at c.if-not-eat.ensures.eats) {new = rest c.parse_rest.new.parser} same

pub returns-clause-takes : goal.returns-clause-takes
returns-clause-takes g c =
    let blocks = open_blocks c.args.parser.now in
    let same = rw (c.eat.ensures.blocks, c.in-Ok.ensures.blocks, c.eat_lead.ensures.blocks, c.next.ensures) at c.in-Ok-parse_rest.ensures.takes in
    with_others g.M.ParseMode.mode c.args.kind c.args.count blocks c.requires.opened c.eat_lead.ensures.counted
    (g.P.EntryParser.fit blocks) (g.P.EntryParser.text c.args.first.now (setting_in g.M.ParseMode.mode blocks))
    (λ v. g.R.FieldParsers.is_value v × AllFit blocks (g.R.FieldParsers.documents v)) (λ v. each_text (setting_in g.M.ParseMode.mode blocks) (all_now c.args.names.now) (g.R.FieldParsers.documents v))
    {here = rest c.eat_lead.new.self} c.if-not-eat_lead.ensures.eats {after = rest c.parse_entry.new.parser} (rw c.eat_lead.ensures.blocks at c.in-Ok.ensures.takes)
    {further = rest c.eat.new.self} (rw (c.trail.ensures, c.mode.ensures) at c.if-not-eat.ensures.eats) {new = rest c.parse_rest.new.parser} same
