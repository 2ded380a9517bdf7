use Rattle.ufmt_core.specs.Formatter.{setting_of}
use Rattle.ufmt.specs.Pieces.{pieces_text}
use Rattle.ufmt.proofs.Columns.{missing-in_column}
use Rattle.ufmt.proofs.pieces.column.InColumnMark.missing_characters.Goals as goal

pub returns : goal.returns
returns g c =
    let self = c.args.self.now in
    rw (c.min.ensures, c.missing_characters-missing.ensures, c.saturating_sub.ensures)
    (missing-in_column self.column (pieces_text (setting_of c.args.f.now) (g.M.Mark.pieces self.mark c.args.value.now)) c.args.width)
