use Rattle.std.specs.Prelude.{false}
use lib.Ieee.{binary32, binary64}
use Rattle.ufmt_core.proofs.FloatTexts.{prints_float}
use Rattle.ufmt.proofs.laws.floats.floats_display_their_texts.Goals as goal

pub returns : goal.returns
returns c = record { of_f32 = prints_float binary32 false; of_f64 = prints_float binary64 false }
