-- A front of the piece was written.
use Rattle.std.proofs.Common.{◌≡◌, ◌≤◌, length, take}
use Rattle.std.specs.Io.KnownBytes.{Appends}
use Rattle.ufmt.proofs.device.DeviceuWrite.write_str.Given as goal

abbrev pub invariant-loop-turn : goal.invariant-loop-turn
invariant-loop-turn g l = record {
  within : l.written ≤ length l.bytes;
  so_far : Appends (g.W.Write.contents l.initial.self.inner) (g.W.Write.contents l.self.inner) (take l.written l.bytes);
}
