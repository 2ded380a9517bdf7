use Rattle.std.proofs.Common.{◌++◌}
use Rattle.ufmt_c.proofs.filler.FilleruWrite.write_str.Given as goal

abbrev pub ghost-and : goal.ghost-and
ghost-and a = a.self.now.bytes ++ a.piece.now
