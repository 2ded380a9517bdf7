-- What is promised of the texts of floats.
use Rattle.core.specs.Prelude.{◌≡◌, ℕ, List, Bool, T}
use lib.Ieee.{Float, Format, fits}
use Rattle.core.specs.declared.option.Option.TheVariants.{Some}
use Rattle.core.specs.Float.Parse.{parse_float}
use Rattle.ufmt_float.specs.Text.{IsFloatText}

-- Rust's `parse` reads the text of a float as the float
abbrev pub TextsAreParsed : Type 0
TextsAreParsed = (f : Format) (debug : Bool) (x : Float) (text : List ℕ) → T (fits f x) → IsFloatText f debug x text → parse_float f text ≡ Some x

-- no two floats of one format have one text by one trait. All NaN are one value.
abbrev pub NoTwoFloatsHaveOneText : Type 0
NoTwoFloatsHaveOneText = (f : Format) (debug : Bool) (x y : Float) (text : List ℕ) → T (fits f x) → T (fits f y) → IsFloatText f debug x text → IsFloatText f debug y text → x ≡ y

-- each float has a text
abbrev pub EachFloatHasAText : Type 0
EachFloatHasAText = (f : Format) (debug : Bool) (x : Float) → T (fits f x) → (text : List ℕ) × IsFloatText f debug x text

-- and only one
abbrev pub NoFloatHasTwoTexts : Type 0
NoFloatHasTwoTexts = (f : Format) (debug : Bool) (x : Float) (text other : List ℕ) → IsFloatText f debug x text → IsFloatText f debug x other → text ≡ other
