-- What readers are built of: parses, which read a value from the front of a text.
use Rattle.std.specs.Prelude.{ℕ, if◌then◌else◌, ◌==◌, List, [], ◌∷◌, Option, Some, None, option_map}

-- a parse reads a value from the front of a text and returns it with the rest of the text, or None
abbrev pub Parse : Type 0 → Type 0
Parse A = List ℕ → Option (A × List ℕ)

-- f of the option's value, or b if it has none
abbrev pub choose : {A B : Type 0} → Option A → (A → B) → B → B
choose None f b = b
choose (Some x) f b = f x

-- applies f to the value that a parse returned
abbrev pub parse_map : {A B : Type 0} → (A → B) → Option (A × List ℕ) → Option (B × List ℕ)
parse_map f o = option_map (λ x. (f x.0, x.1)) o

-- the rest of the second text after the first; None if the second does not begin with the first
abbrev pub strip : List ℕ → List ℕ → Option (List ℕ)
strip [] t = Some t
strip (c ∷ text) [] = None
strip (c ∷ text) (b ∷ t) = if c == b then strip text t else None
