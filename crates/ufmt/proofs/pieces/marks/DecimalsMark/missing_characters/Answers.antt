use Rattle.std.proofs.Common.{append-nil}
use Rattle.ufmt.proofs.pieces.marks.DecimalsMark.missing_characters.Goals as goal

pub returns : goal.returns
returns g c = rw (append-nil (g.T.uDisplayFixed.fixed_text c.args.value.now c.args.self.now.count)) c.missing_fixed.ensures
