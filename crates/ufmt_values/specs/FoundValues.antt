-- A value that was found at the front of a text.
use Rattle.std.specs.Prelude.{◌≡◌, ◌<◌, ◌≤◌, ℕ, List, length, drop, Option, Some, None, MatchOption}
use Rattle.ufmt.specs.Document.{Document}
use Rattle.ufmt_core.specs.declared.layout.Mode.{Mode}
use Rattle.ufmt_values.specs.Values.{value_from, value_start}
use Rattle.ufmt_scan.specs.Fronts.{has_one_leaf}
use Rattle.ufmt_scan.specs.declared.text.FrontText.{FrontText}

-- it has this document, and ends there
pub record IsFoundValue (to : Mode) (text : List ℕ) (value : FrontText) : Type 0 where
  pub document : Document
  pub some : 0 < value.len
  pub within : value.len ≤ length text
  pub is : value_from to text ≡ Some (document, drop value.len text)
  pub leaf : value.has_one_leaf ≡ has_one_leaf document

-- it was found, or there is none
abbrev pub IsValue : Mode → List ℕ → Option FrontText → Type 0
IsValue to text outcome = MatchOption outcome (value_from to text ≡ None) (IsFoundValue to text)

-- a value with this bracket begins there, if one does
pub record IsStart (to : Mode) (text : List ℕ) (low bracket start : ℕ) : Type 0 where
  pub is : start ≡ value_start to text low bracket
  pub from_low : low ≤ start
  pub before : start ≤ bracket

-- where the value with this bracket begins, and the value, or there is none
abbrev pub IsValueAt : Mode → List ℕ → ℕ → ℕ → Option (ℕ × FrontText) → Type 0
IsValueAt to text low bracket outcome = MatchOption outcome (value_from to (drop (value_start to text low bracket) text) ≡ None)
    (λ x. IsStart to text low bracket x.0 × IsFoundValue to (drop x.0 text) x.1)
