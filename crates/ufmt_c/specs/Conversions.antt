-- What conversions return to C, and what they leave.
use Rattle.std.specs.Prelude.{◌≡◌, ℕ, ℤ, List, length}
use Rattle.ufmt.specs.Document.{Document}
use Rattle.ufmt_grammar.specs.declared.class.Class.{Class}
use Rattle.ufmt_c.specs.Calls.{PutsText, no_text}
use Rattle.ufmt_scan.specs.Places.{ReadsUpTo}
use Rattle.ufmt_scan.specs.Texts.{IsConverted, NoDocumentPrints}

-- either the input is converted to a text, which is written; or no document prints so, `no_text` is returned, and `detail` is the place up to which it was read
pub data ConvertsText (class : Class) (from to : Document → List ℕ) (input old : List ℕ) (result : ℤ) (new : List ℕ) (detail : ℕ) : Type 0 where
  text : (output : List ℕ) → IsConverted class from to input output → PutsText old output result new detail → ConvertsText class from to input old result new detail
  none : NoDocumentPrints class from input → result ≡ no_text → length new ≡ length old → ReadsUpTo class from input detail → ConvertsText class from to input old result new detail
