-- Entries one after another: each is its text and a trail, and then another lead comes, or the end.
use Rattle.std.proofs.Common.{◌≡◌, ◌≢◌, sym, ap, ◌∙◌, List, [], ◌∷◌, ℕ, ◌++◌, append_assoc, Result, Ok, Err}
use Rattle.std.proofs.lemmas.List.{append_cancel_left}
use Rattle.std.proofs.lemmas.List.Elements.{All-nil, All-cons, All-head, All-tail}
use Rattle.std.specs.Prelude.{All}
use Rattle.ufmt_grammar.specs.declared.class.Class.TheVariants.{Debug}
use Rattle.ufmt_grammar.specs.Leaves.{MayFollow}
use Rattle.ufmt_parser.specs.declared.parser.Fault.{Fault}
use Rattle.ufmt_parser.specs.declared.parser.Fault.TheVariants.{NotText, OutOfMemory}
use Rattle.ufmt_parser.specs.Taking.{DoesNotBegin, Takes, TakesBy}
use Rattle.ufmt_parser.proofs.Reductions.{Reduces}

-- an entry, and those after it
abbrev pub AreEntries : {E : Type 0} → (E → Type 0) → E × List E → Type 0
AreEntries is p = is p.0 × All is p.1

module _ {E : Type 0} (is : E → Type 0) (text_of : E → List ℕ) (lead trail end : List ℕ) where
  -- the rest of a block after an entry
  abbrev pub tail_of : List E → List ℕ
  tail_of [] = end
  tail_of (e ∷ es) = lead ++ (text_of e ++ (trail ++ tail_of es))

  -- an entry, and the rest of a block after it
  abbrev pub entries_text : E × List E → List ℕ
  entries_text p = text_of p.0 ++ (trail ++ tail_of p.1)

  flat : (p : E × List E) (u : List ℕ) → entries_text p ++ u ≡ text_of p.0 ++ (trail ++ (tail_of p.1 ++ u))
  flat p u = simp append_assoc

  -- what comes after an entry may follow it
  pub record GoesOn : Type 0 where
    pub follows : (es : List E) (u : List ℕ) → MayFollow Debug (trail ++ (tail_of es ++ u))

  flat_tail : (e : E) (es : List E) (u : List ℕ) → tail_of (e ∷ es) ++ u ≡ lead ++ (entries_text (e, es) ++ u)
  flat_tail e es u = append_assoc lead (entries_text (e, es)) u

  -- after the lead of another entry, entries are there
  module _ (differs : (u v : List ℕ) → end ++ u ≢ lead ++ v) (here next : List ℕ) (lead_is : here ≡ lead ++ next) where
    after_lead : (es : List E) (u : List ℕ) → All is es → here ≡ tail_of es ++ u → (p : E × List E) × AreEntries is p × (next ≡ entries_text p ++ u)
    after_lead [] u are same = absurd (differs u next (sym same ∙ lead_is))
    after_lead (e ∷ es) u are same =
        ((e, es), (All-head is e es are, All-tail is e es are), append_cancel_left lead next _ (sym lead_is ∙ same ∙ flat_tail e es u))

    pub another_entry : Reduces (AreEntries is) entries_text (All is) tail_of (λ p. p.0 ∷ p.1) next here
    another_entry = record {
      holds = λ p are. All-cons is p.0 p.1 are.0 are.1;
      builds = λ p u at. lead_is ∙ ap (λ t. lead ++ t) at ∙ sym (flat_tail p.0 p.1 u);
      finds = λ es u are may same. after_lead es u are same;
    }

  module _ (here new : List ℕ) (no_lead : DoesNotBegin lead here) where
    ended : here ≡ end ++ new → (es : List E) (u : List ℕ) → here ≡ tail_of es ++ u → u ≡ new
    ended end_is [] u same = append_cancel_left end u new (sym same ∙ end_is)
    ended end_is (e ∷ es) u same = absurd (no_lead _ (same ∙ flat_tail e es u))

    -- the block ends here
    pub end_taken : here ≡ end ++ new → Takes (All is) tail_of here (Ok []) new
    end_taken end_is = record { cases = (end_is, All-nil is, λ es u are may same. ended end_is es u same) }

    not_ended : DoesNotBegin end here → (es : List E) (u : List ℕ) → here ≢ tail_of es ++ u
    not_ended no_end [] u = λ same. no_end u same
    not_ended no_end (e ∷ es) u = λ same. no_lead _ (same ∙ flat_tail e es u)

    -- or there is neither another entry nor the end
    pub end_refused : DoesNotBegin end here → Takes (All is) tail_of here (Err NotText) new
    end_refused no_end = record { cases = λ es u are may same. not_ended no_end es u same }

module _ {E : Type 0} {is : E → Type 0} {text_of : E → List ℕ} {lead trail end : List ℕ} (goes_on : GoesOn is text_of lead trail end) where
  -- the entries of this block
  abbrev EntriesTaken : List ℕ → Result (E × List E) Fault → List ℕ → Type 0
  EntriesTaken here outcome new = Takes (AreEntries is) (entries_text is text_of lead trail end) here outcome new

  entry_refused_by : (here : List ℕ) (fault : Fault) (new further : List ℕ) → TakesBy is text_of here (Err fault) new
      → TakesBy (AreEntries is) (entries_text is text_of lead trail end) here (Err fault) further
  entry_refused_by here NotText new further none = λ p u are may same.
      none p.0 _ are.0 (goes_on.follows p.1 u) (same ∙ flat is text_of lead trail end p u)
  entry_refused_by here OutOfMemory new further takes = tt

  -- without an entry there are no entries
  pub entry_refused : {here : List ℕ} {fault : Fault} {new further : List ℕ} → Takes is text_of here (Err fault) new → EntriesTaken here (Err fault) further
  entry_refused {here} {fault} {new} {further} takes = record { cases = entry_refused_by here fault new further takes.cases }

  module _ {e : E} {here after : List ℕ} (takes : Takes is text_of here (Ok e) after) where
    past_entry : (p : E × List E) (u : List ℕ) → AreEntries is p → here ≡ entries_text is text_of lead trail end p ++ u
        → after ≡ trail ++ (tail_of is text_of lead trail end p.1 ++ u)
    past_entry p u are same = sym (takes.cases.2 p.0 _ are.0 (goes_on.follows p.1 u) (same ∙ flat is text_of lead trail end p u))

    -- without a trail after it there are none
    pub trail_refused : {new : List ℕ} → DoesNotBegin trail after → EntriesTaken here (Err NotText) new
    trail_refused refuses = record { cases = λ p u are may same. refuses _ (past_entry p u are same) }

    -- after an entry and its trail, the rest of the block is there
    pub after_entry : {further : List ℕ} → after ≡ trail ++ further
        → Reduces (All is) (tail_of is text_of lead trail end) (AreEntries is) (entries_text is text_of lead trail end) (λ es. (e, es)) further here
    after_entry {further} trail_is = record {
      holds = λ es are. (takes.cases.1, are);
      builds = λ es u at. takes.cases.0 ∙ ap (λ t. text_of e ++ t) (trail_is ∙ ap (λ t. trail ++ t) at) ∙ sym (flat is text_of lead trail end (e, es) u);
      finds = λ p u are may same. (p.1, are.1, append_cancel_left trail further _ (sym trail_is ∙ past_entry p u are same));
    }
