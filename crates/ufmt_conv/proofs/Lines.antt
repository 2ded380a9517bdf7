-- The lengths of lines, counted from the front of a text.
use Rattle.std.proofs.Common.{◌≡◌, ℕ, ◌+◌, suc, zero, List, [], ◌∷◌, refl, ap, arith}

-- one number, unless it is 0
abbrev pub unless_zero : ℕ → List ℕ
unless_zero zero = []
unless_zero (suc count) = suc count ∷ []

-- line lengths with `count` more bytes before the first line
abbrev pub longer_first : ℕ → List ℕ → List ℕ
longer_first count [] = unless_zero count
longer_first count (first ∷ others) = (count + first) ∷ others

-- no bytes before the first line change nothing
pub longer_first_zero : (lengths : List ℕ) → longer_first 0 lengths ≡ lengths
longer_first_zero [] = refl
longer_first_zero (first ∷ others) = ap (λ n. n ∷ others) (omega arith)
