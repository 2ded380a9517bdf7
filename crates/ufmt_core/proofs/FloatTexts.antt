-- A text that `IsFloatText` gives a float is the float's text.
use Rattle.std.specs.Prelude.{◌≡◌, ℕ, List, Bool, T}
use Rattle.std.proofs.Common.{ap, sym}
use lib.Ieee.{Float, Format, fits}
use Rattle.ufmt_float.specs.Text.{IsFloatText}
use Rattle.ufmt_float.proofs.TextLaws.{one_text}
use Rattle.ufmt_core.specs.Document.{leaf}
use Rattle.ufmt_core.specs.FloatText.{float_text, is_float_text, PrintsFloats}

pub the_float_text : (f : Format) (debug : Bool) (x : Float) (text : List ℕ) → T (fits f x) → IsFloatText f debug x text → text ≡ float_text f debug x
the_float_text f debug x text float is = one_text f debug x text (float_text f debug x) is (is_float_text f debug x float)

-- the leaf of the text is that of any such text
pub prints_float : (f : Format) (debug : Bool) → PrintsFloats f debug (λ x. leaf (float_text f debug x))
prints_float f debug x text float is = ap leaf (sym (the_float_text f debug x text float is))
