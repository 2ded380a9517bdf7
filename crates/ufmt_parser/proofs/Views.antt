-- What is taken, seen another way.
use Rattle.std.proofs.Common.{◌≡◌, sym, ap, subst, ◌∙◌, List, ℕ, ◌++◌, Result, Ok, Err}
use Rattle.ufmt_parser.specs.declared.parser.Fault.{Fault}
use Rattle.ufmt_parser.specs.declared.parser.Fault.TheVariants.{NotText, OutOfMemory}
use Rattle.ufmt_parser.specs.Blocks.{outcome_map}
use Rattle.ufmt_parser.specs.Taking.{Takes, TakesBy}

-- what is taken is taken as another says, where both say the same
module _ {T : Type 0} {is also : T → Type 0} {text_of text_also : T → List ℕ} (to : (v : T) → is v → also v) (from : (v : T) → also v → is v)
    (same_text : (v : T) → is v → text_of v ≡ text_also v) where
  by_other : (old : List ℕ) (w : T) (u : List ℕ) → also w → old ≡ text_also w ++ u → old ≡ text_of w ++ u
  by_other old w u holds same = same ∙ ap (λ t. t ++ u) (sym (same_text w (from w holds)))

  taken_as_by : (old : List ℕ) (outcome : Result T Fault) (new : List ℕ) → TakesBy is text_of old outcome new → TakesBy also text_also old outcome new
  taken_as_by old (Ok v) new takes = (
    takes.0 ∙ ap (λ t. t ++ new) (same_text v takes.1),
    to v takes.1,
    λ w u holds may same. takes.2 w u (from w holds) may (by_other old w u holds same),
  )
  taken_as_by old (Err NotText) new none = λ w u holds may same. none w u (from w holds) may (by_other old w u holds same)
  taken_as_by old (Err OutOfMemory) new takes = tt

  pub taken_as : {old : List ℕ} {outcome : Result T Fault} {new : List ℕ} → Takes is text_of old outcome new → Takes also text_also old outcome new
  taken_as {old} {outcome} {new} takes = record { cases = taken_as_by old outcome new takes.cases }

-- a value is taken if what it is a view of is
module _ {A T : Type 0} (view : A → T) where
  viewed_by : (is : T → Type 0) (text_of : T → List ℕ) (old : List ℕ) (outcome : Result A Fault) (new : List ℕ) → TakesBy is text_of old (outcome_map view outcome) new
      → TakesBy (λ a. is (view a)) (λ a. text_of (view a)) old outcome new
  viewed_by is text_of old (Ok a) new takes = (takes.0, takes.1, λ w u holds may same. takes.2 (view w) u holds may same)
  viewed_by is text_of old (Err NotText) new none = λ w u holds may same. none (view w) u holds may same
  viewed_by is text_of old (Err OutOfMemory) new takes = tt

  pub viewed : {is : T → Type 0} {text_of : T → List ℕ} {old : List ℕ} {outcome : Result A Fault} {new : List ℕ} → Takes is text_of old (outcome_map view outcome) new
      → Takes (λ a. is (view a)) (λ a. text_of (view a)) old outcome new
  viewed {is} {text_of} {old} {outcome} {new} takes = record { cases = viewed_by is text_of old outcome new takes.cases }

  pub viewed_as : {is : T → Type 0} {text_of : T → List ℕ} {a : A} {v : T} → view a ≡ v → {old new : List ℕ} → Takes is text_of old (Ok v) new
      → Takes (λ a. is (view a)) (λ a. text_of (view a)) old (Ok a) new
  viewed_as {is} {text_of} {a} {v} same {old} {new} takes = viewed {outcome = Ok a} (subst (λ w. Takes is text_of old (Ok w) new) (sym same) takes)
