-- Leaves in quotes, and the text that each has.
use Rattle.std.specs.Prelude.{◌≡◌, ◌≢◌, ◌⊎◌, ℕ, List, [], ◌∷◌, Option, MatchOption, String, string_bytes}
use Rattle.std.specs.Str.{chars}
use Rattle.ufmt.specs.Document.{Document, leaf}
use Rattle.ufmt.specs.Quoted.{IsQuoted, quoted_char, quoted_text}

-- the document is a leaf: this text in quotation marks, or its only character in apostrophes
abbrev pub IsInQuotes : Document → List ℕ → Type 0
IsInQuotes d text = (d ≡ leaf (quoted_text (chars text))) ⊎ ((c : ℕ) × (chars text ≡ c ∷ []) × (d ≡ leaf (quoted_char c)))

-- the document is the outcome in quotes; or the outcome is `None`, and the document is no leaf in quotes
abbrev pub Unquotes : {A : Type 0} → Document → Option (String A) → Type 0
Unquotes d outcome = MatchOption outcome ((text : List ℕ) → IsQuoted text → d ≢ leaf text) (λ s. IsInQuotes d (string_bytes s))
