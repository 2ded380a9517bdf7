-- What is left of a block is taken in parts: an entry's lead, the entry, its trail, and what is left then.
use Rattle.std.proofs.Common.{◌≡◌, inl, inr, refl, sym, List, [], ◌∷◌, ℕ, codes, ◌++◌, ◌-◌, ◌<◌, ◌≤◌, Result, Ok, Err}
use Rattle.ufmt_grammar.specs.declared.class.Class.TheVariants.{Debug}
use Rattle.ufmt_grammar.specs.Leaves.{MayFollow}
use Rattle.ufmt_core.specs.Layout.{block_tail, frame, inside, lead, next, trail}
use Rattle.ufmt_core.specs.declared.layout.Mode.{Mode}
use Rattle.ufmt_core.specs.declared.layout.Kind.{Kind}
use Rattle.ufmt_core.specs.declared.layout.Count.{Count}
use Rattle.ufmt_grammar.proofs.BlocksComplete.{tail_follows}
use Rattle.ufmt_grammar.proofs.ClassLeaves.{Begins, Begins-append, colon_follows as colon_and_value}
use Rattle.ufmt_grammar.proofs.FramesClose.{closes}
use Rattle.ufmt_parser.specs.declared.parser.Fault.{Fault}
use Rattle.ufmt_parser.specs.declared.parser.Fault.TheVariants.{NotText}
use Rattle.ufmt_parser.specs.Taking.{setting_in, DoesNotBegin, Takes}
use Rattle.ufmt_parser.proofs.Parts.{with_first, without_lead, failed_value, without_trail, with_rest}
use Rattle.ufmt_parser.proofs.Settings.{block_fits, inside-setting_in}

module _ (mode : Mode) (kind : Kind) (count : Count) (blocks : ℕ) (some : 0 < blocks) (most : blocks ≤ 255)
    {A B : Type 0} (is_a : A → Type 0) (text_a : A → List ℕ) (is_b : B → Type 0) (texts_b : B → List (List ℕ)) where
  follows : (b : B) (u : List ℕ) → is_b b → MayFollow Debug u → MayFollow Debug (trail mode ++ (block_tail (frame mode kind) (setting_in mode (blocks - 1)) (next count) (texts_b b) ++ u))
  follows b u is may = tail_follows Debug (frame mode kind) (setting_in mode (blocks - 1)) (closes Debug (setting_in mode (blocks - 1)) kind (block_fits mode blocks some most)) count (texts_b b) u

  -- an entry comes first
  abbrev pub EntryTaken : List ℕ → Result (A × B) Fault → List ℕ → Type 0
  EntryTaken old outcome new = Takes (λ p. is_a p.0 × is_b p.1) (λ p. block_tail (frame mode kind) (setting_in mode (blocks - 1)) count (text_a p.0 ∷ texts_b p.1)) old outcome new

  abbrev LeadIs : List ℕ → List ℕ → Type 0
  LeadIs old here = old ≡ lead (frame mode kind) (setting_in mode blocks) count ++ here

  inside_lead : (old here : List ℕ) → LeadIs old here → old ≡ lead (frame mode kind) (inside (setting_in mode (blocks - 1))) count ++ here
  inside_lead old here lead_is = rw (inside-setting_in mode blocks some most) lead_is

  pub no_lead : {old new : List ℕ} → DoesNotBegin (lead (frame mode kind) (setting_in mode blocks) count) old → EntryTaken old (Err NotText) new
  no_lead {old} {new} refuses =
      without_lead is_a text_a is_b (λ b. block_tail (frame mode kind) (setting_in mode (blocks - 1)) (next count) (texts_b b)) _ (trail mode) follows old new
      (λ u same. refuses u (rw (sym (inside-setting_in mode blocks some most)) same))

  pub failed_entry : {old here : List ℕ} → LeadIs old here → {fault : Fault} {new : List ℕ} → Takes is_a text_a here (Err fault) new → EntryTaken old (Err fault) new
  failed_entry {old} {here} lead_is takes =
      failed_value is_a text_a is_b (λ b. block_tail (frame mode kind) (setting_in mode (blocks - 1)) (next count) (texts_b b)) _ (trail mode) follows
      (inside_lead old here lead_is) takes

  module _ {old here : List ℕ} (lead_is : LeadIs old here) {a : A} {after : List ℕ} (entry : Takes is_a text_a here (Ok a) after) where
    pub no_trail : {new : List ℕ} → DoesNotBegin (trail mode) after → EntryTaken old (Err NotText) new
    no_trail {new} refuses =
        without_trail is_a text_a is_b (λ b. block_tail (frame mode kind) (setting_in mode (blocks - 1)) (next count) (texts_b b)) _ (trail mode) follows
        old here (inside_lead old here lead_is) a after entry new refuses

    pub with_others : {further : List ℕ} → after ≡ trail mode ++ further → {outcome : Result B Fault} {new : List ℕ}
        → Takes is_b (λ b. block_tail (frame mode kind) (setting_in mode (blocks - 1)) (next count) (texts_b b)) further outcome new
        → EntryTaken old (with_first a outcome) new
    with_others trail_is takes =
        with_rest is_a text_a is_b (λ b. block_tail (frame mode kind) (setting_in mode (blocks - 1)) (next count) (texts_b b)) _ (trail mode) follows
        (inside_lead old here lead_is) entry trail_is takes

-- a key comes first, and its value after a colon
module _ {A B : Type 0} (is_a : A → Type 0) (text_a : A → List ℕ) (is_b : B → Type 0) (text_b : B → List ℕ) (begins : (b : B) → is_b b → Begins (text_b b)) where
  colon_follows : (b : B) (u : List ℕ) → is_b b → MayFollow Debug u → MayFollow Debug (codes ": " ++ (text_b b ++ u))
  colon_follows b u is may = colon_and_value Debug (text_b b ++ u) (Begins-append (begins b is) u)

  abbrev pub PairTaken : List ℕ → Result (A × B) Fault → List ℕ → Type 0
  PairTaken old outcome new = Takes (λ p. is_a p.0 × is_b p.1) (λ p. text_a p.0 ++ (codes ": " ++ text_b p.1)) old outcome new

  pub failed_key : {old : List ℕ} {fault : Fault} {new : List ℕ} → Takes is_a text_a old (Err fault) new → PairTaken old (Err fault) new
  failed_key takes = failed_value is_a text_a is_b text_b [] (codes ": ") colon_follows refl takes

  module _ {old : List ℕ} {a : A} {after : List ℕ} (key : Takes is_a text_a old (Ok a) after) where
    pub no_colon : {new : List ℕ} → DoesNotBegin (codes ": ") after → PairTaken old (Err NotText) new
    no_colon {new} refuses = without_trail is_a text_a is_b text_b [] (codes ": ") colon_follows old old refl a after key new refuses

    pub with_value : {further : List ℕ} → after ≡ codes ": " ++ further → {outcome : Result B Fault} {new : List ℕ} → Takes is_b text_b further outcome new
        → PairTaken old (with_first a outcome) new
    with_value colon takes = with_rest is_a text_a is_b text_b [] (codes ": ") colon_follows refl key colon takes
