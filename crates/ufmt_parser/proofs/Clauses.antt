-- What a parser's clauses say, and `Takes`.
use Rattle.std.proofs.Common.{◌≡◌, ◌≢◌, refl, ap, ◌≤◌, ◌++◌, length, length-append, arith, List, ℕ, Result, Ok, Err, IfOk}
use Rattle.std.specs.Prelude.{IfErr}
use Rattle.ufmt_core.specs.Document.{Document}
use Rattle.ufmt_core.specs.Layout.{layout}
use Rattle.ufmt_core.specs.declared.layout.Mode.{Mode}
use Rattle.ufmt_parser.specs.declared.parser.Parser.{Parser}
use Rattle.ufmt_parser.specs.declared.parser.Fault.{Fault}
use Rattle.ufmt_parser.specs.declared.parser.Fault.TheVariants.{NotText, OutOfMemory}
use Rattle.ufmt_parser.specs.Next.{IsNotNext, NextLeaves}
use Rattle.ufmt_parser.specs.Taking.{BeginsWithNone, Fits, IsTaken, Takes, TakesBy, open_blocks, rest, setting_in}

module _ {M T : Type 0} (mode : Mode) (is_value : T → Type 0) (document : T → Document) (old : Parser M) (outcome : Result T Fault) (new : Parser M) where
  abbrev pub ValueTaken : Type 0
  ValueTaken = Takes (λ v. is_value v × Fits (open_blocks old) (document v)) (λ v. layout (setting_in mode (open_blocks old)) (document v)) (rest old) outcome (rest new)

  abbrev pub Taken : Type 0
  Taken = IfOk outcome (λ v. IsTaken mode old (document v) new)

  abbrev pub Only : Type 0
  Only = IfOk outcome (λ _. (v : T) → is_value v → NextLeaves mode old (document v) new)

  abbrev pub Nothing : Type 0
  Nothing = IfErr outcome (λ fault. fault ≡ NotText → (v : T) → is_value v → IsNotNext mode old (document v))

out_of_memory : OutOfMemory ≢ NotText
out_of_memory is = absurd (cc)

-- the clauses, with what holds of the value, say that it is taken
module _ {M T : Type 0} (mode : Mode) (is_value : T → Type 0) (document : T → Document) (old new : Parser M) where
  by_clauses : (outcome : Result T Fault) → IfOk outcome is_value → Taken mode is_value document old outcome new → Only mode is_value document old outcome new
      → Nothing mode is_value document old outcome new
      → TakesBy (λ v. is_value v × Fits (open_blocks old) (document v)) (λ v. layout (setting_in mode (open_blocks old)) (document v)) (rest old) outcome (rest new)
  unfolding NextLeaves IsNotNext
  by_clauses (Ok v) holds taken only none = (taken.0, (holds, taken.1), λ w u is may same. only w is.0 u (is.1, may, same))
  by_clauses (Err NotText) holds taken only none = λ w u is may same. none refl w is.0 u (is.1, may, same)
  by_clauses (Err OutOfMemory) holds taken only none = tt

  pub taken_by_clauses : (outcome : Result T Fault) → IfOk outcome is_value → Taken mode is_value document old outcome new → Only mode is_value document old outcome new
      → Nothing mode is_value document old outcome new → ValueTaken mode is_value document old outcome new
  taken_by_clauses outcome holds taken only none = record { cases = by_clauses outcome holds taken only none }

-- where it is said that no text is here, it is so
pub refused : {T : Type 0} {is : T → Type 0} {text_of : T → List ℕ} {old new : List ℕ} (fault : Fault) → Takes is text_of old (Err fault) new
    → fault ≡ NotText → BeginsWithNone is text_of old
refused NotText takes is_not = takes.cases
refused OutOfMemory takes is_not = absurd (out_of_memory is_not)

-- what is taken meets the clauses
module _ {M T : Type 0} (mode : Mode) (is_value : T → Type 0) (document : T → Document) (old new : Parser M) where
  pub values_clause : (outcome : Result T Fault) → ValueTaken mode is_value document old outcome new → IfOk outcome is_value
  values_clause (Ok v) takes = takes.cases.1.0
  values_clause (Err fault) takes = tt

  pub taken_clause : (outcome : Result T Fault) → ValueTaken mode is_value document old outcome new → Taken mode is_value document old outcome new
  taken_clause (Ok v) takes = (takes.cases.0, takes.cases.1.1)
  taken_clause (Err fault) takes = tt

  pub only_clause : (outcome : Result T Fault) → ValueTaken mode is_value document old outcome new → Only mode is_value document old outcome new
  unfolding NextLeaves
  only_clause (Ok v) takes = λ w holds u next. takes.cases.2 w u (holds, next.0) next.1 next.2
  only_clause (Err fault) takes = tt

  pub none_clause : (outcome : Result T Fault) → ValueTaken mode is_value document old outcome new → Nothing mode is_value document old outcome new
  unfolding IsNotNext
  none_clause (Ok v) takes = tt
  none_clause (Err fault) takes = λ is w holds u next. refused fault takes is w u (holds, next.0) next.1 next.2

-- what is left after a value was taken is no longer
pub taken_shrinks : (text old new : List ℕ) → old ≡ text ++ new → length new ≤ length old
taken_shrinks text old new is = omega (arith, length-append text new, ap length is)
