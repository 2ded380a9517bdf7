use Rattle.std.proofs.Common.{◌++◌, if◌then◌else◌}
use Rattle.ufmt.proofs.truncating.TruncatinguWrite.write_str.Given as goal

abbrev pub ghost-and_unless : goal.ghost-and_unless
ghost-and_unless a = if a.is_closed then a.self.now.bytes else a.self.now.bytes ++ a.piece.now
