-- Bytes as they are written between quotes, up to the closing quote.
use Rattle.std.specs.Prelude.{◌≡◌, ◌≢◌, ℕ, ◌==◌, Bool, true, List, ◌∷◌, ◌++◌, length}
use Rattle.std.specs.Str.{all_scalars}
use Rattle.ufmt_core.specs.Bytes.{apostrophe}
use Rattle.ufmt_core.specs.Quoted.{IsQuote, escaped_bytes, quoted}

-- the text is some bytes, as they are written between two of these quotes, and then the rest
pub record IsSpelled (quote : ℕ) (t rest : List ℕ) : Type 0 where
  pub bytes : List ℕ
  pub is : t ≡ escaped_bytes quote bytes ++ rest

-- such bytes, and then the closing quote and the rest
pub record Closes (quote : ℕ) (t rest : List ℕ) : Type 0 where
  pub is_quote : IsQuote quote
  pub bytes : List ℕ
  pub is : t ≡ escaped_bytes quote bytes ++ (quote ∷ rest)

-- no closing quote follows such bytes
pub record NeverCloses (quote : ℕ) (t : List ℕ) : Type 0 where
  pub never : (bytes rest : List ℕ) → t ≢ escaped_bytes quote bytes ++ (quote ∷ rest)

-- the outcome is whether one character is between the apostrophes
pub record IsOneCharacter (leaf : List ℕ) (outcome : Bool) : Type 0 where
  pub one : (cs : List ℕ) → all_scalars cs ≡ true → leaf ≡ quoted apostrophe cs → outcome ≡ (length cs == 1)
