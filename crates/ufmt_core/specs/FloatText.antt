-- The text of a float, as a function. `IsFloatText` says which text that is: each float has one, and only one.
use Rattle.std.specs.Prelude.{◌≡◌, ℕ, List, [], Bool, true, false, T}
use lib.Ieee.{Float, Format, fits}
use Rattle.ufmt_float.specs.Text.{IsFloatText}
use Rattle.ufmt_float.proofs.TextLaws.{each_has_text}
use Rattle.ufmt_core.specs.Document.{Document, leaf}

text_if : (f : Format) (debug : Bool) (x : Float) (is_float : Bool) → (T is_float → T (fits f x)) → List ℕ
text_if f debug x true is = (each_has_text f debug x (is tt)).0
text_if f debug x false is = []

-- the text that Debug or Display prints of a float; no text of what is none of the format
pub float_text : Format → Bool → Float → List ℕ
float_text f debug x = text_if f debug x (fits f x) (λ is. is)

is_text_if : (f : Format) (debug : Bool) (x : Float) (is_float : Bool) (is : T is_float → T (fits f x)) → T is_float → IsFloatText f debug x (text_if f debug x is_float is)
unfolding text_if
is_text_if f debug x true is float = (each_has_text f debug x (is tt)).1
is_text_if f debug x false is float = absurd float

-- it is that text
pub is_float_text : (f : Format) (debug : Bool) (x : Float) → T (fits f x) → IsFloatText f debug x (float_text f debug x)
unfolding float_text
is_float_text f debug x float = is_text_if f debug x (fits f x) (λ is. is) float

-- each float's document is the leaf of the text that the trait prints of it
abbrev pub PrintsFloats : Format → Bool → (Float → Document) → Type 0
PrintsFloats f debug document = (x : Float) (text : List ℕ) → T (fits f x) → IsFloatText f debug x text → document x ≡ leaf text
