use Rattle.std.proofs.Common.{◌++◌}
use Rattle.ufmt.proofs.column.counter.CharacterCounter.count_piece.Given as goal

abbrev pub ghost-and : goal.ghost-and
ghost-and a = a.self.now.bytes ++ a.piece.now
