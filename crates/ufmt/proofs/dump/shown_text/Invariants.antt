use Rattle.std.proofs.Common.{◌≡◌, map, take}
use Rattle.ufmt.specs.Dump.{shown_byte}
use Rattle.ufmt.proofs.dump.shown_text.Given as goal

abbrev pub invariant-loop-place : goal.invariant-loop-place
invariant-loop-place l = take l.place l.buffer ≡ map shown_byte (take l.place l.bytes)
