-- What is taken from one text, by what is taken from another.
use Rattle.std.proofs.Common.{◌≡◌, ap, ◌∙◌, subst, List, ℕ, ◌++◌, Result, Ok, Err}
use Rattle.ufmt_grammar.specs.declared.class.Class.TheVariants.{Debug}
use Rattle.ufmt_grammar.specs.Leaves.{MayFollow}
use Rattle.ufmt_parser.specs.declared.parser.Fault.{Fault}
use Rattle.ufmt_parser.specs.declared.parser.Fault.TheVariants.{NotText, OutOfMemory}
use Rattle.ufmt_parser.specs.Blocks.{outcome_map}
use Rattle.ufmt_parser.specs.Taking.{Takes, TakesBy}

-- a value's text is at `old` if and only if one is at `here`, and `make` makes the one value of the other
pub record Reduces {A B : Type 0} (is_a : A → Type 0) (text_a : A → List ℕ) (is_b : B → Type 0) (text_b : B → List ℕ) (make : A → B)
    (here old : List ℕ) : Type 0 where
  pub holds : (a : A) → is_a a → is_b (make a)
  pub builds : (a : A) (u : List ℕ) → here ≡ text_a a ++ u → old ≡ text_b (make a) ++ u
  pub finds : (b : B) (u : List ℕ) → is_b b → MayFollow Debug u → old ≡ text_b b ++ u → (a : A) × is_a a × (here ≡ text_a a ++ u)

module _ {A B : Type 0} {is_a : A → Type 0} {text_a : A → List ℕ} {is_b : B → Type 0} {text_b : B → List ℕ} {make : A → B} {here old : List ℕ} where
  reduced_by : Reduces is_a text_a is_b text_b make here old → (outcome : Result A Fault) (new : List ℕ) → TakesBy is_a text_a here outcome new
      → TakesBy is_b text_b old (outcome_map make outcome) new
  reduced_by r (Ok a) new takes = (
    r.builds a new takes.0,
    r.holds a takes.1,
    λ w u is may same. let found = r.finds w u is may same in takes.2 found.0 u found.1 may found.2,
  )
  reduced_by r (Err NotText) new none = λ w u is may same. let found = r.finds w u is may same in none found.0 u found.1 may found.2
  reduced_by r (Err OutOfMemory) new takes = tt

  -- what is taken at `here` is taken at `old`
  pub reduced : Reduces is_a text_a is_b text_b make here old → {outcome : Result A Fault} {new : List ℕ} → Takes is_a text_a here outcome new
      → Takes is_b text_b old (outcome_map make outcome) new
  reduced r {outcome} {new} takes = record { cases = reduced_by r outcome new takes.cases }

  -- values that are made the same way may be made another way
  pub made_as : (other : A → B) → ((a : A) → make a ≡ other a) → Reduces is_a text_a is_b text_b make here old → Reduces is_a text_a is_b text_b other here old
  made_as other same r = record {
    holds = λ a is. subst is_b (same a) (r.holds a is);
    builds = λ a u at. r.builds a u at ∙ ap (λ b. text_b b ++ u) (same a);
    finds = r.finds;
  }

-- one reduction after another
pub reduced_twice : {A B C : Type 0} {is_a : A → Type 0} {text_a : A → List ℕ} {is_b : B → Type 0} {text_b : B → List ℕ} {is_c : C → Type 0} {text_c : C → List ℕ}
    {make : A → B} {make_more : B → C} {here between old : List ℕ} → Reduces is_a text_a is_b text_b make here between
    → Reduces is_b text_b is_c text_c make_more between old → Reduces is_a text_a is_c text_c (λ a. make_more (make a)) here old
reduced_twice {make = make} r more = record {
  holds = λ a is. more.holds (make a) (r.holds a is);
  builds = λ a u at. more.builds (make a) u (r.builds a u at);
  finds = λ c u is may same. let b = more.finds c u is may same in r.finds b.0 u b.1 may b.2;
}
