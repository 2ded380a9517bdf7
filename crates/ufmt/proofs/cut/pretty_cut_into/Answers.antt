use Rattle.std.proofs.Common.{rules}
use Rattle.ufmt.proofs.Truncations.{fronts_cut}
use Rattle.ufmt.proofs.cut.pretty_cut_into.Goals as goal

pub returns : goal.returns
returns g c =
    let new = c.new-writer.ensures in
    let cut = c.cut_by.ensures in
    search (rules, fronts_cut _ _ c.write_pretty.new.writer new.written new.unwritten new.offered new.before _ c.write_pretty.ensures c.cut_by.result cut.length cut.is_whole)
