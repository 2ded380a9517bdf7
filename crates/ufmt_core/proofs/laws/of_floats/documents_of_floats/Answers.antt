use Rattle.std.specs.Prelude.{true}
use lib.Ieee.{binary32, binary64}
use Rattle.ufmt_core.proofs.FloatTexts.{prints_float}
use Rattle.ufmt_core.proofs.laws.of_floats.documents_of_floats.Goals as goal

pub returns : goal.returns
returns c = record { of_f32 = prints_float binary32 true; of_f64 = prints_float binary64 true }
