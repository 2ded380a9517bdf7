use Rattle.ufmt_core.proofs.Writing.{Writes-then}
use Rattle.ufmt.proofs.dump.HexDump.write_offset.Goals as goal

pub returns-in_ok-write_padded-in-Some : goal.returns-in_ok-write_padded-in-Some
returns-in_ok-write_padded-in-Some g c = rw (c.in-Some.is, ← c.from.ensures) (Writes-then c.in_ok-write_padded-in-Some.ensures c.write_str.ensures)
