use Rattle.std.specs.Prelude.{true}
use Rattle.std.specs.Bool.{passes}
use lib.Ieee.{binary64}
use Rattle.ufmt_core.proofs.FloatTexts.{the_float_text}
use Rattle.ufmt_core.proofs.core_impls.floats.text_of_f64.Goals as goal

pub returns : goal.returns
returns c = the_float_text binary64 true c.args.x _ (passes _ c.well_formed.0.1) c.of.ensures
