use Rattle.core.specs.Prelude.{◌-◌, replicate}
use Rattle.ufmt_float.specs.Put.{IsPut}
use Rattle.ufmt_float.proofs.put.put_zeros.Given as goal

abbrev pub invariant-loop-i : goal.invariant-loop-i
invariant-loop-i l = IsPut (replicate l.i 48) l.end l.fn.buffer (l.end - l.i) l.buffer
