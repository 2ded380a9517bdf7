use Rattle.std.proofs.Common.{append-nil}
use Rattle.ufmt.proofs.pieces.marks.ZerosMark.missing_characters.Goals as goal

pub returns : goal.returns
returns g c = rw (append-nil (g.T.uDisplayZeros.zeros_text c.args.value.now c.args.self.now.width)) c.missing_padded.ensures
