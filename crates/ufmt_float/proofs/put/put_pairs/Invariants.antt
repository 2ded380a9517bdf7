use Rattle.core.specs.Prelude.{◌≡◌, ◌*◌, ◌-◌, ◌/◌, ◌^◌}
use Rattle.ufmt_float.specs.Put.{IsPut}
use Rattle.ufmt_float.specs.Text.{last_digits}
use Rattle.ufmt_float.proofs.put.put_pairs.Given as goal

abbrev pub invariant-loop-i : goal.invariant-loop-i
invariant-loop-i l = (l.left ≡ l.n / 10 ^ (2 * l.i)) × IsPut (last_digits (2 * l.i) l.n) l.end l.fn.buffer (l.end - 2 * l.i) l.buffer
