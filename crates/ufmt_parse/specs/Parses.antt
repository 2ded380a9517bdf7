-- What a call that takes a value does, in one word.
use Rattle.std.specs.Prelude.{◌≡◌, ◌≤◌, length, Result, IfOk, IfErr}
use Rattle.ufmt.specs.Document.{Document}
use Rattle.ufmt_core.specs.declared.layout.Mode.{Mode}
use Rattle.ufmt_parser.specs.declared.parser.Parser.{Parser}
use Rattle.ufmt_parser.specs.declared.parser.Fault.{Fault}
use Rattle.ufmt_parser.specs.declared.parser.Fault.TheVariants.{NotText}
use Rattle.ufmt_parser.specs.Next.{IsNotNext, NextLeaves}
use Rattle.ufmt_parser.specs.Taking.{IsTaken, open_blocks, rest}

-- the clauses of `parse_from`, and what holds of the value
pub record Parses {M T : Type 0} (mode : Mode) (is_value : T → Type 0) (document : T → Document) (old : Parser M) (outcome : Result T Fault) (new : Parser M) : Type 0 where
  pub values : IfOk outcome is_value
  pub taken : IfOk outcome (λ v. IsTaken mode old (document v) new)
  pub only : IfOk outcome (λ _. (v : T) → is_value v → NextLeaves mode old (document v) new)
  pub none : IfErr outcome (λ fault. fault ≡ NotText → (v : T) → is_value v → IsNotNext mode old (document v))
  pub blocks : IfOk outcome (λ _. open_blocks new ≡ open_blocks old)
  pub shrinks : length (rest new) ≤ length (rest old)
