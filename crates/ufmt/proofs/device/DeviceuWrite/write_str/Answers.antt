use Rattle.std.proofs.Common.{rules, ◌≡◌, ℕ, ◌<◌, ◌≤◌, length, take, sym, subst, ap, arith}
use Rattle.std.proofs.lemmas.List.{places, take_rest}
use Rattle.std.proofs.KnownBytes.{Appends-kept}
use Rattle.std.specs.Io.KnownBytes.{Appends}
use Rattle.ufmt.proofs.Devices.{longer_front, same_front, writes_front, writes_whole}
use Rattle.ufmt.proofs.device.DeviceuWrite.write_str.Given.{Over}
use Rattle.ufmt.proofs.device.DeviceuWrite.write_str.Goals as goal
use Rattle.ufmt.proofs.device.DeviceuWrite.write_str.Goals.{in-Ok, in-Err}

pub returns-then-written-bytes : goal.returns-then-written-bytes
returns-then-written-bytes g c = writes_whole g.W.Write.contents _ _ _ c.as_bytes-bytes.result.now c.loop-turn.written c.as_bytes-bytes.ensures.value
    c.if-written-bytes.true c.loop-turn.invariant.so_far

pub returns-in-Ok-eq0 : goal.returns-in-Ok-eq0
returns-in-Ok-eq0 g c = writes_front g.W.Write.contents _ _ _ c.as_bytes-bytes.result.now c.loop-turn.written c.as_bytes-bytes.ensures.value
    (omega (arith, c.if-written-bytes.false, c.loop-turn.invariant.within))
    (same_front _ _ _ _ _ c.write.result c.in-Ok-eq0.field-0 c.in-Ok-eq0.is c.in-Ok-eq0.field-0-test c.loop-turn.invariant.so_far c.write.ensures.bytes)

pub returns-in-Err-2 : goal.returns-in-Err-2
returns-in-Err-2 g c = writes_front g.W.Write.contents _ _ _ c.as_bytes-bytes.result.now c.loop-turn.written c.as_bytes-bytes.ensures.value
    (omega (arith, c.if-written-bytes.false, c.loop-turn.invariant.within)) (Appends-kept _ _ _ _ c.loop-turn.invariant.so_far c.in-Err-2.ensures.bytes)

-- that so many bytes were written after a turn
abbrev front : (g : Over) → goal.Joined-write g → ℕ → Type 0
front g c written = Appends (g.W.Write.contents c.args.self.now.inner) (g.W.Write.contents c.write.new.self) (take written c.as_bytes-bytes.result.now)

pub loop-turn-preserved : goal.loop-turn-preserved
loop-turn-preserved g c = elim c.match-write.branch [
  | in-Ok w ↦ record {
    within = search (rules, places);
    so_far = subst (front g c) (sym w.written-is)
        (longer_front _ _ _ _ c.loop-turn.written w.in-Ok.count c.loop-turn.invariant.so_far (rw take_rest at w.in-Ok.ensures.bytes));
  }
  | in-Err w ↦ record {
    within = search (rules, places);
    so_far = subst (front g c) (sym w.written-is) (Appends-kept _ _ _ _ c.loop-turn.invariant.so_far w.in-Err.ensures.bytes);
  }
]

pub returns-then-written-bytes-2 : goal.returns-then-written-bytes-2
returns-then-written-bytes-2 g c = writes_whole g.W.Write.contents _ _ _ c.as_bytes-bytes.result.now c.loop-turn.written c.as_bytes-bytes.ensures.value
    c.if-written-bytes-2.true c.loop-turn.invariant.so_far

pub returns-else-written-bytes-2 : goal.returns-else-written-bytes-2
returns-else-written-bytes-2 g c = writes_front g.W.Write.contents _ _ _ c.as_bytes-bytes.result.now c.loop-turn.written c.as_bytes-bytes.ensures.value
    (omega (arith, c.if-written-bytes-2.false, c.loop-turn.invariant.within)) c.loop-turn.invariant.so_far
