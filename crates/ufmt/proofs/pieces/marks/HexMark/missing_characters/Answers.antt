use Rattle.std.proofs.Common.{append-nil}
use Rattle.ufmt.proofs.pieces.marks.HexMark.missing_characters.Goals as goal

pub returns : goal.returns
returns g c = rw (append-nil (g.T.uDisplayHex.hex_text c.args.value.now c.args.self.now.options)) c.missing_padded.ensures
