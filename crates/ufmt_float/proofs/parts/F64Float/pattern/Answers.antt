use Rattle.std.specs.Bool.{passes}
use lib.Ieee.{binary64}
use lib.Ieee.Bits.{of_bits-to_bits, to_bits-lt}
use Rattle.ufmt_float.proofs.parts.F64Float.pattern.Goals as goal

pub returns-clause-same : goal.returns-clause-same
returns-clause-same c = of_bits-to_bits binary64 c.args.self (passes _ c.well_formed.0.1)

pub returns-clause-bound : goal.returns-clause-bound
returns-clause-bound c = to_bits-lt binary64 c.args.self (passes _ c.well_formed.0.1)
