-- What unquoting a text that Rust printed returns to C, and what it leaves.
use Rattle.std.specs.Prelude.{◌≡◌, ◌≢◌, ◌⊎◌, ℕ, ◌<◌, ℤ, List, [], ◌∷◌, ◌++◌, length}
use Rattle.std.specs.Char.{IsScalar}
use Rattle.std.specs.Char.Escape.{escape_unicode}
use Rattle.std.specs.Str.{encode_utf8_all}
use Rattle.ufmt_core.specs.Bytes.{quotation_mark}
use Rattle.ufmt_core.specs.Quoted.{escaped}
use Rattle.ufmt_c.specs.Calls.{PutsText, no_text}
use Rattle.ufmt_c.specs.Quotes.{StopsAt}

-- how Rust writes a character between quotation marks: as `ufmt_quote` does, or by its number, as one that isn't shown
abbrev pub IsSpelled : ℕ → List ℕ → Type 0
IsSpelled c text = (text ≡ escaped quotation_mark c) ⊎ (text ≡ escape_unicode c)

-- characters that are written so, one after another
unfoldable pub AreSpelled : List ℕ → List ℕ → Type 0
AreSpelled [] text = text ≡ []
AreSpelled (c ∷ cs) text = (front : List ℕ) × (rest : List ℕ) × (text ≡ front ++ rest) × IsScalar c × IsSpelled c front × AreSpelled cs rest

-- characters that are written so, in quotation marks
abbrev pub AreQuoted : List ℕ → List ℕ → Type 0
AreQuoted cs text = (inside : List ℕ) × (text ≡ quotation_mark ∷ (inside ++ quotation_mark ∷ [])) × AreSpelled cs inside

-- whole characters at the front of a text in quotation marks: nothing, the mark and characters after it, or all of it
pub data IsDebugFront (front : List ℕ) : Type 0 where
  nothing : front ≡ [] → IsDebugFront front
  opened : (cs inside : List ℕ) → front ≡ quotation_mark ∷ inside → AreSpelled cs inside → IsDebugFront front
  whole : (cs : List ℕ) → AreQuoted cs front → IsDebugFront front

-- either the input is characters in quotation marks, which are written without them; or it is none, and `no_text` is returned
pub data UnquotesDebugText (input old : List ℕ) (result : ℤ) (new : List ℕ) (detail : ℕ) : Type 0 where
  text : (cs : List ℕ) → AreQuoted cs input → PutsText old (encode_utf8_all cs) result new detail → UnquotesDebugText input old result new detail
  none : ((cs : List ℕ) → ¬ (AreQuoted cs input)) → result ≡ no_text → length new ≡ length old → StopsAt IsDebugFront input detail
      → UnquotesDebugText input old result new detail
