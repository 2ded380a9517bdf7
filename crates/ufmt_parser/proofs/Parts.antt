-- A text is taken in parts: a lead, a value's text, a trail, and the text of what comes after it.
use Rattle.std.proofs.Common.{◌≡◌, sym, ap, ◌∙◌, List, ℕ, ◌++◌, append_assoc, Result, Ok, Err}
use Rattle.std.proofs.lemmas.List.{append_cancel_left}
use Rattle.ufmt_grammar.specs.declared.class.Class.TheVariants.{Debug}
use Rattle.ufmt_grammar.specs.Leaves.{MayFollow}
use Rattle.ufmt_parser.specs.declared.parser.Fault.{Fault}
use Rattle.ufmt_parser.specs.declared.parser.Fault.TheVariants.{NotText, OutOfMemory}
use Rattle.ufmt_parser.specs.Taking.{LeavesOnly, BeginsWithNone, DoesNotBegin, Takes, TakesBy}

-- the outcome with this value first
abbrev pub with_first : {A B : Type 0} → A → Result B Fault → Result (A × B) Fault
with_first a (Ok b) = Ok (a, b)
with_first a (Err fault) = Err fault

module _ {A B : Type 0} (is_a : A → Type 0) (text_a : A → List ℕ) (is_b : B → Type 0) (text_b : B → List ℕ) (lead trail : List ℕ)
    (follows : (b : B) (u : List ℕ) → is_b b → MayFollow Debug u → MayFollow Debug (trail ++ (text_b b ++ u))) where
  abbrev pub are : A × B → Type 0
  are p = is_a p.0 × is_b p.1

  abbrev pub texts : A × B → List ℕ
  texts p = lead ++ (text_a p.0 ++ (trail ++ text_b p.1))

  flat : (p : A × B) (u : List ℕ) → texts p ++ u ≡ lead ++ (text_a p.0 ++ (trail ++ (text_b p.1 ++ u)))
  flat p u = simp append_assoc

  pub lead_refused : (old : List ℕ) → DoesNotBegin lead old → BeginsWithNone are texts old
  lead_refused old refuses = λ p u is may same. refuses _ (same ∙ flat p u)

  module _ (old here : List ℕ) (lead_is : old ≡ lead ++ here) where
    past_lead : (p : A × B) (u : List ℕ) → old ≡ texts p ++ u → here ≡ text_a p.0 ++ (trail ++ (text_b p.1 ++ u))
    past_lead p u same = append_cancel_left lead here _ (sym lead_is ∙ same ∙ flat p u)

    pub value_refused : BeginsWithNone is_a text_a here → BeginsWithNone are texts old
    value_refused none = λ p u is may same. none p.0 _ is.0 (follows p.1 u is.1 may) (past_lead p u same)

    module _ (a : A) (after : List ℕ) (value_is : here ≡ text_a a ++ after) (only : LeavesOnly is_a text_a here after) where
      past_value : (p : A × B) (u : List ℕ) → are p → MayFollow Debug u → old ≡ texts p ++ u → after ≡ trail ++ (text_b p.1 ++ u)
      past_value p u is may same = sym (only p.0 _ is.0 (follows p.1 u is.1 may) (past_lead p u same))

      pub trail_refused : DoesNotBegin trail after → BeginsWithNone are texts old
      trail_refused refuses = λ p u is may same. refuses _ (past_value p u is may same)

      module _ (further : List ℕ) (trail_is : after ≡ trail ++ further) where
        past_trail : (p : A × B) (u : List ℕ) → are p → MayFollow Debug u → old ≡ texts p ++ u → further ≡ text_b p.1 ++ u
        past_trail p u is may same = append_cancel_left trail further _ (sym trail_is ∙ past_value p u is may same)

        pub rest_refused : BeginsWithNone is_b text_b further → BeginsWithNone are texts old
        rest_refused none = λ p u is may same. none p.1 u is.1 may (past_trail p u is may same)

        pub leaves_only : (new : List ℕ) → LeavesOnly is_b text_b further new → LeavesOnly are texts old new
        leaves_only new rest_only = λ p u is may same. rest_only p.1 u is.1 may (past_trail p u is may same)

        pub all_taken : (b : B) (new : List ℕ) → further ≡ text_b b ++ new → old ≡ texts (a, b) ++ new
        all_taken b new rest_is =
            lead_is ∙ ap (λ t. lead ++ t) (value_is ∙ ap (λ t. text_a a ++ t) (trail_is ∙ ap (λ t. trail ++ t) rest_is)) ∙ sym (flat (a, b) new)

  -- ---- the same of whole outcomes

  pub without_lead : (old new : List ℕ) → DoesNotBegin lead old → Takes are texts old (Err NotText) new
  without_lead old new refuses = record { cases = lead_refused old refuses }

  failed_value_by : (old here : List ℕ) → old ≡ lead ++ here → (fault : Fault) (new : List ℕ) → TakesBy is_a text_a here (Err fault) new
      → TakesBy are texts old (Err fault) new
  failed_value_by old here lead_is NotText new takes = value_refused old here lead_is takes
  failed_value_by old here lead_is OutOfMemory new takes = tt

  pub failed_value : {old here : List ℕ} → old ≡ lead ++ here → {fault : Fault} {new : List ℕ} → Takes is_a text_a here (Err fault) new → Takes are texts old (Err fault) new
  failed_value {old} {here} lead_is {fault} {new} takes = record { cases = failed_value_by old here lead_is fault new takes.cases }

  module _ (old here : List ℕ) (lead_is : old ≡ lead ++ here) (a : A) (after : List ℕ) (value : Takes is_a text_a here (Ok a) after) where
    pub without_trail : (new : List ℕ) → DoesNotBegin trail after → Takes are texts old (Err NotText) new
    without_trail new refuses = record { cases = trail_refused old here lead_is a after value.cases.0 value.cases.2 refuses }

    with_rest_by : (further : List ℕ) → after ≡ trail ++ further → (outcome : Result B Fault) (new : List ℕ) → TakesBy is_b text_b further outcome new
        → TakesBy are texts old (with_first a outcome) new
    with_rest_by further trail_is (Ok b) new takes = (
      all_taken old here lead_is a after value.cases.0 value.cases.2 further trail_is b new takes.0,
      (value.cases.1, takes.1),
      leaves_only old here lead_is a after value.cases.0 value.cases.2 further trail_is new takes.2,
    )
    with_rest_by further trail_is (Err NotText) new takes = rest_refused old here lead_is a after value.cases.0 value.cases.2 further trail_is takes
    with_rest_by further trail_is (Err OutOfMemory) new takes = tt

  pub with_rest : {old here : List ℕ} → old ≡ lead ++ here → {a : A} {after : List ℕ} → Takes is_a text_a here (Ok a) after → {further : List ℕ} → after ≡ trail ++ further
      → {outcome : Result B Fault} {new : List ℕ} → Takes is_b text_b further outcome new → Takes are texts old (with_first a outcome) new
  with_rest {old} {here} lead_is {a} {after} value {further} trail_is {outcome} {new} takes =
      record { cases = with_rest_by old here lead_is a after value further trail_is outcome new takes.cases }
