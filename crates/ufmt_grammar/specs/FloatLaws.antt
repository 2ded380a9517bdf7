-- The texts of floats among the leaves of documents.
use Rattle.std.specs.Prelude.{◌≢◌, ℕ, List, Bool, T}
use Rattle.std.specs.List.{All}
use lib.Ieee.{Float, Format, fits}
use Rattle.std.specs.Float.Numeral.{dot}
use Rattle.ufmt_float.specs.Text.{IsFloatText}
use Rattle.ufmt_grammar.specs.Leaves.{Debug, IsLeaf, IsWord}

-- the text of a float is a debug leaf
abbrev pub FloatTextsAreLeaves : Type 0
FloatTextsAreLeaves = (f : Format) (debug : Bool) (x : Float) (text : List ℕ) → T (fits f x) → IsFloatText f debug x text → IsLeaf Debug text

-- and without a point it is a word
abbrev pub FloatTextsWithoutPointAreWords : Type 0
FloatTextsWithoutPointAreWords =
    (f : Format) (debug : Bool) (x : Float) (text : List ℕ) → T (fits f x) → IsFloatText f debug x text → All (λ c. c ≢ dot) text → IsWord text
