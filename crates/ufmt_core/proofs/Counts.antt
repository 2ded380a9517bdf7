-- Counts of entries: none, one or several.
use Rattle.std.proofs.Common.{◌≡◌, ◌⊎◌, ◌++◌, inl, inr, refl, ℕ, List}
use Rattle.ufmt_core.specs.Layout.{Setting, Struct, Count, Zero, One, Several, if_any, dots_line, dots_ending, ending, frame, inside, next}

pub next-next : (count : Count) → next (next count) ≡ Several
next-next Zero = refl
next-next One = refl
next-next Several = refl

pub if_any-is : (count : Count) (text : List ℕ) → (count ≡ One) ⊎ (count ≡ Several) → if_any count text ≡ text
if_any-is count text (inl one) = rw one refl
if_any-is count text (inr several) = rw several refl

pub dots_ending-is : (s : Setting) (count : Count) → (count ≡ One) ⊎ (count ≡ Several)
    → dots_ending s count ≡ dots_line s.mode (inside s).depth ++ ending (frame s.mode Struct) s count
dots_ending-is s count (inl one) = rw one refl
dots_ending-is s count (inr several) = rw several refl
