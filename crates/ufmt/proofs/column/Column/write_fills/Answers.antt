use Rattle.ufmt.proofs.Columns.{fills-spaces}
use Rattle.ufmt.proofs.column.Column.write_fills.Goals as goal

pub returns-then-self-eq32 : goal.returns-then-self-eq32
returns-then-self-eq32 g c = rw (fills-spaces c.args.self.now c.args.count c.if-self-eq32.true) c.pad.ensures
