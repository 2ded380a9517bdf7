-- What `leaf_text` and `field_text` return: what is inside the quotes of a leaf in quotes, with its escapes decoded, or the
-- whole text of any other leaf.
use Rattle.std.specs.Prelude.{◌≡◌, ◌≢◌, ◌⊎◌, ℕ, List, Option, None, MatchOption, String, string_bytes}
use Rattle.ufmt.specs.Document.{Document, leaf}
use Rattle.ufmt.specs.Quoted.{IsQuoted}
use Rattle.ufmt_doc.specs.Parts.{field_part, leaf_part}
use Rattle.ufmt_doc.specs.Unquoted.{IsInQuotes}

-- the document is a leaf in quotes with this text inside, or another leaf that is this text
abbrev pub Shows : Document → List ℕ → Type 0
Shows d text = IsInQuotes d text ⊎ (((quoted : List ℕ) → IsQuoted quoted → d ≢ leaf quoted) × (d ≡ leaf text))

-- the outcome is the text that the leaf shows, or `None` if the document is not a leaf
abbrev pub ShowsText : {A : Type 0} → Document → Option (String A) → Type 0
ShowsText d outcome = MatchOption outcome (leaf_part d ≡ None) (λ s. Shows d (string_bytes s))

-- the outcome is what the struct's first field with this name shows, or `None` if there is no such field or its value is a block
abbrev pub ShowsField : {A : Type 0} → List ℕ → Document → Option (String A) → Type 0
ShowsField name d outcome = MatchOption (field_part name d) (outcome ≡ None) (λ value. ShowsText value outcome)
