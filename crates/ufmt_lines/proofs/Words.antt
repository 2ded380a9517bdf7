-- A word that is none of some texts.
use Rattle.std.proofs.Common.{◌≡◌, ℕ, Bool, true, false, List, refl}
use Rattle.std.proofs.lemmas.Slice.Eq.{bytes_eq-Decides}
use Rattle.std.specs.Str.{bytes_eq}

-- a test that isn't true is false
pub not_true : (b : Bool) → (b ≡ true → ⊥) → b ≡ false
not_true true untrue = absurd (untrue refl)
not_true false untrue = refl

-- the test whether two texts are equal is false of others
pub unequal : (xs ys : List ℕ) → (xs ≡ ys → ⊥) → bytes_eq xs ys ≡ false
unequal xs ys other = not_true (bytes_eq xs ys) (λ same. other ((bytes_eq-Decides xs ys).0 same))
