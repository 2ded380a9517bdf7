use native.Mathlib.Omega.{arith}
use Rattle.std.specs.Bool.{passes}
use lib.Ieee.{binary32}
use lib.Ieee.Bits.{of_bits-to_bits, to_bits-lt}
use Rattle.ufmt_float.proofs.parts.F32Float.pattern.Goals as goal

pub returns-clause-same : goal.returns-clause-same
returns-clause-same c = of_bits-to_bits binary32 c.args.self (passes _ c.well_formed.0.1)

pub returns-clause-bound : goal.returns-clause-bound
returns-clause-bound c = to_bits-lt binary32 c.args.self (passes _ c.well_formed.0.1)

pub overflow_cast-result : goal.overflow_cast-result
overflow_cast-result c = record { fits = omega (arith, to_bits-lt binary32 c.args.self (passes _ c.well_formed.0.1)) }
