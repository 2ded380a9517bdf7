use Rattle.std.proofs.Common.{rules}
use Rattle.ufmt.proofs.SamePieces.{one_line}
use Rattle.ufmt.proofs.Truncations.{fronts_cut}
use Rattle.ufmt.proofs.cut.line_cut_into.Goals as goal

pub returns-clause-line : goal.returns-clause-line
returns-clause-line g c =
    let new = c.new-writer.ensures in
    let cut = c.cut_by.ensures in
    search (rules, fronts_cut _ _ c.write_line.new.writer new.written new.unwritten new.offered new.before _ c.write_line.ensures.line c.cut_by.result cut.length cut.is_whole)

pub returns-clause-alike : goal.returns-clause-alike
returns-clause-alike g c = λ ps same. rw (one_line ps _ same) (returns-clause-line g c)
