-- What unquoting returns to C, and what it leaves.
use Rattle.std.specs.Prelude.{◌≡◌, ◌≢◌, ℕ, ◌<◌, ◌≤◌, ℤ, List, [], ◌∷◌, length, take}
use Rattle.std.specs.Str.{IsUtf8, chars}
use Rattle.ufmt_core.specs.Bytes.{quotation_mark}
use Rattle.ufmt_core.specs.Quoted.{escaped_bytes, quoted_text}
use Rattle.ufmt_c.specs.Calls.{PutsText, no_text}

-- whole characters at the front of a text in quotation marks: nothing, the mark and characters as they are spelled after it, or all of it
pub data IsFront (front : List ℕ) : Type 0 where
  nothing : front ≡ [] → IsFront front
  opened : (bytes : List ℕ) → IsUtf8 bytes → front ≡ quotation_mark ∷ escaped_bytes quotation_mark bytes → IsFront front
  whole : (bytes : List ℕ) → IsUtf8 bytes → front ≡ quoted_text (chars bytes) → IsFront front

-- how many bytes at the front of an input some text in quotation marks begins with, in whole characters. `IsFront` says what such a text begins with
pub record StopsAt (IsFront : List ℕ → Type 0) (input : List ℕ) (place : ℕ) : Type 0 where
  pub within : place ≤ length input
  pub front : IsFront (take place input)
  pub longest : (n : ℕ) → place < n → n ≤ length input → ¬ (IsFront (take n input))

-- either the input is a text in quotation marks, which is written without them; or it is none, and `no_text` is returned
pub data UnquotesText (input old : List ℕ) (result : ℤ) (new : List ℕ) (detail : ℕ) : Type 0 where
  text : (bytes : List ℕ) → IsUtf8 bytes → input ≡ quoted_text (chars bytes) → PutsText old bytes result new detail → UnquotesText input old result new detail
  none : ((bytes : List ℕ) → IsUtf8 bytes → input ≢ quoted_text (chars bytes)) → result ≡ no_text → length new ≡ length old → StopsAt IsFront input detail
      → UnquotesText input old result new detail
