-- Whether a value that was found stays as it is.
use Rattle.std.specs.Prelude.{◌≡◌, ℕ, Bool, List}
use Rattle.ufmt.specs.Document.{Document}
use Rattle.ufmt_lines.specs.declared.run.conversion.Conversion.{Conversion}
use Rattle.ufmt_lines.specs.Values.{stays}
use Rattle.ufmt_scan.specs.Fronts.{has_one_leaf}
use Rattle.ufmt_scan.specs.declared.text.FrontText.{FrontText}

-- whether a document that has as many leaves, in a text of this size, stays
abbrev pub StaysAsFound : Conversion → List ℕ → ℕ → ℕ → FrontText → Bool → Type 0
StaysAsFound conversion text low bracket value outcome = (d : Document) → value.has_one_leaf ≡ has_one_leaf d → outcome ≡ stays conversion text low bracket d value.len
