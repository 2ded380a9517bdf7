-- What the words on what comes next say: callers' proofs open them by these.
use Rattle.std.proofs.Common.{◌≡◌, List, ℕ}
use Rattle.ufmt_core.specs.Document.{Document}
use Rattle.ufmt_core.specs.declared.layout.Mode.{Mode}
use Rattle.ufmt_parser.specs.declared.parser.Parser.{Parser}
use Rattle.ufmt_parser.specs.Next.{IsNotNext, NextLeaves}
use Rattle.ufmt_parser.specs.Taking.{IsNext, rest}

module _ {M : Type 0} (mode : Mode) (old : Parser M) (d : Document) where
  pub never_next : IsNotNext mode old d → (u : List ℕ) → ¬ IsNext mode old d u
  unfolding IsNotNext
  never_next none = none

  pub what_is_left : (new : Parser M) → NextLeaves mode old d new → (u : List ℕ) → IsNext mode old d u → u ≡ rest new
  unfolding NextLeaves
  what_is_left new leaves = leaves
