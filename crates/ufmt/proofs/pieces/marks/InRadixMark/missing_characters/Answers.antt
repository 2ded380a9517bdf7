use Rattle.std.proofs.Common.{append-nil}
use Rattle.ufmt.proofs.pieces.marks.InRadixMark.missing_characters.Goals as goal

pub returns : goal.returns
returns g c = rw (append-nil (g.T.uDisplayRadix.radix_text c.args.value.now c.args.self.now.radix c.args.self.now.options)) c.missing_padded.ensures
