-- What comes next, in two words. Callers' proofs don't open them, so the names in a document stay whole there.
use Rattle.std.specs.Prelude.{◌≡◌, ℕ, List}
use Rattle.ufmt_core.specs.Document.{Document}
use Rattle.ufmt_core.specs.declared.layout.Mode.{Mode}
use Rattle.ufmt_parser.specs.declared.parser.Parser.{Parser}
use Rattle.ufmt_parser.specs.Taking.{IsNext, rest}

-- the text of this document doesn't come next
unfoldable pub IsNotNext : {M : Type 0} → Mode → Parser M → Document → Type 0
IsNotNext mode parser d = (u : List ℕ) → ¬ IsNext mode parser d u

-- if the text of this document comes next, what follows it is what is left
unfoldable pub NextLeaves : {M : Type 0} → Mode → Parser M → Document → Parser M → Type 0
NextLeaves mode old d new = (u : List ℕ) → IsNext mode old d u → u ≡ rest new
