-- Texts without a closing bracket.
use Rattle.std.specs.Prelude.{◌≡◌, ◌⊎◌, ◌==◌, ◌||◌, ◌+◌, ◌≤◌, ℕ, Bool, false, List, [], ◌∷◌, drop, length}
use Rattle.ufmt.specs.Bytes.{closing_brace, closing_bracket, closing_parenthesis}
use Rattle.ufmt_values.specs.Values.{before_bracket}

abbrev pub is_closing : ℕ → Bool
is_closing c = c == closing_parenthesis || c == closing_bracket || c == closing_brace

abbrev pub has_closing : List ℕ → Bool
has_closing [] = false
has_closing (c ∷ t) = is_closing c || has_closing t

abbrev pub IsUnclosed : List ℕ → Type 0
IsUnclosed t = has_closing t ≡ false

-- no value begins from here on: no opening bracket comes, or no closing one
abbrev pub HasNoMore : List ℕ → ℕ → Type 0
HasNoMore text at = (length text ≤ at + before_bracket (drop at text)) ⊎ IsUnclosed (drop at text)
