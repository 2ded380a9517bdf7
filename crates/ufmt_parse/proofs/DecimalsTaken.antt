-- A fixed-point number taken from the front of a text, as a value of `Decimal`.
use Rattle.std.proofs.Common.{ℕ, ◌≤◌, ◌≡◌, List, ◌++◌, Ok, Err, arith}
use Rattle.ufmt.specs.Document.{Document, leaf}
use Rattle.ufmt.specs.FixedPoint.{fixed}
use Rattle.ufmt.specs.declared.decimal.Decimal.{Decimal}
use Rattle.ufmt.proofs.DecimalsAreLeaves.{fixed_is_leaf}
use Rattle.ufmt_parse_leaves.specs.FixedPoint.{fixed_number, is_fixed}
use Rattle.ufmt_parser.specs.Taking.{BeginsWithNone, Fits, LeavesOnly, Takes}
use Rattle.ufmt_parser.specs.declared.parser.Fault.TheVariants.{NotText}

abbrev pub IsDecimal : Decimal → Type 0
IsDecimal d = is_fixed (d.value, d.places)

abbrev pub decimal_document : Decimal → Document
decimal_document d = leaf (fixed d.places d.value)

abbrev decimal_text : Decimal → List ℕ
decimal_text d = fixed d.places d.value

module _ (blocks : ℕ) (old new : List ℕ) where
  abbrev IsIn : Decimal → Type 0
  IsIn d = IsDecimal d × Fits blocks (decimal_document d)

  pub decimal_taken : (d : Decimal) → blocks ≤ 255 → IsDecimal d → old ≡ decimal_text d ++ new → LeavesOnly is_fixed fixed_number old new → Takes IsIn decimal_text old (Ok d) new
  decimal_taken d most is front only = record {
    cases = (front, (is, (fixed_is_leaf d.places d.value, omega arith)), λ w u is_w may same. only (w.value, w.places) u is_w.0 may same);
  }

  pub decimal_refused : BeginsWithNone is_fixed fixed_number old → Takes IsIn decimal_text old (Err NotText) new
  decimal_refused none = record { cases = λ w u is_w may same. none (w.value, w.places) u is_w.0 may same }
