-- What the steps of readers and documents promise. No public contract names any of it: the public contracts are proved from it.
use Rattle.std.specs.Prelude.{◌≡◌, ℕ, ◌≤◌, Bool, IsTrue, List, [], ◌∷◌, ◌++◌}
use Rattle.ufmt.specs.Document.{Document, nest}
use Rattle.ufmt.specs.Quoted.{escaped_bytes}
use Rattle.ufmt_grammar.specs.declared.class.Class.{Class}
use Rattle.ufmt.specs.Token.{IsBuilt, IsName, MayEndInDots}
pub mod Growing
pub mod OpenBlock

-- built from names and leaves of the class, with blocks with entries nested at most n deep. `is_token` and `is_debug` test it with the depth that is left
abbrev pub IsBuiltWithin : Class → ℕ → Document → Type 0
IsBuiltWithin class n d = IsBuilt class d × (nest d ≤ n)

-- a struct of the class may have the name that shows this
abbrev pub IsStructName : Class → List ℕ × Bool → Type 0
IsStructName class name = IsName class name.0 × (IsTrue name.1 → MayEndInDots class)

-- these are the bytes that are spelled up to the closing quote, if the text ends with one
abbrev pub AreSpelled : ℕ → List ℕ → List ℕ → Type 0
AreSpelled quote inside bytes = (bs : List ℕ) → inside ≡ escaped_bytes quote bs ++ (quote ∷ []) → bytes ≡ bs
