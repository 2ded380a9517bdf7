use Rattle.std.proofs.Common.{sym}
use Rattle.ufmt_parser.proofs.AscendingKeys.{before_entries}
use Rattle.ufmt_parser.proofs.ascending.is_before_map.Goals as goal

pub returns-in-Some : goal.returns-in-Some
returns-in-Some g c =
    before_entries g.K.Ord.cmp c.args.key.now c.args.map.now.entries (c.in-Some.first.now, c.in-Some.field-0-1.now) c.is_lt.result c.in-Some.ensures.first (rw (sym c.cmp.ensures) c.is_lt.ensures)
