-- The entries of blocks in brackets or braces, as they are taken one after another.
use Rattle.std.proofs.Common.{◌≡◌, ◌≢◌, refl, sym, ap, ◌∙◌, subst, List, [], ◌∷◌, ℕ, ◌-◌, ◌<◌, ◌≤◌, ◌++◌, append_assoc, map, Some, None, Result, Ok, Err}
use Rattle.std.proofs.lemmas.List.{append_cancel_left}
use Rattle.std.proofs.lemmas.List.Elements.{All-cons, All-head, All-tail}
use Rattle.std.specs.Prelude.{All}
use Rattle.ufmt_core.specs.Layout.{block_tail, ending, frame, inside, lead, trail}
use Rattle.ufmt_core.specs.declared.layout.Count.TheVariants.{Zero, One, Several}
use Rattle.ufmt_core.specs.declared.layout.Kind.{Kind}
use Rattle.ufmt_core.specs.declared.layout.Kind.TheVariants.{Brackets, Braces, Struct, Tuple, Unnamed}
use Rattle.ufmt_core.specs.declared.layout.Mode.{Mode}
use Rattle.ufmt_core.specs.declared.layout.Setting.{Setting}
use Rattle.ufmt_grammar.specs.declared.class.Class.TheVariants.{Debug}
use Rattle.ufmt_grammar.specs.Leaves.{MayFollow}
use Rattle.ufmt_grammar.specs.Reading.{strip}
use Rattle.ufmt_grammar.proofs.BlocksComplete.{Closes, tail_follows}
use Rattle.ufmt_grammar.proofs.FramesClose.{closes}
use Rattle.ufmt_grammar.proofs.Parsing.{strip_joined}
use Rattle.ufmt_parser.specs.declared.parser.Fault.{Fault}
use Rattle.ufmt_parser.specs.declared.parser.Fault.TheVariants.{NotText}
use Rattle.ufmt_parser.specs.Blocks.{AreSome, IsBracketed}
use Rattle.ufmt_parser.specs.Taking.{DoesNotBegin, Takes, setting_in}
use Rattle.ufmt_parser.proofs.EntriesInARow.{AreEntries, GoesOn, after_entry, another_entry, end_refused, end_taken, entries_text, entry_refused, tail_of, trail_refused}
use Rattle.ufmt_parser.proofs.Reductions.{Reduces, made_as, reduced, reduced_twice}
use Rattle.ufmt_parser.proofs.Settings.{block_fits, inside-setting_in}

-- one entry and several entries are the same to the end of such a block
several_as_one : (mode : Mode) (kind : Kind) → IsBracketed kind → (s : Setting) (texts : List (List ℕ))
    → block_tail (frame mode kind) s Several texts ≡ block_tail (frame mode kind) s One texts
several_as_one mode Brackets is s [] = refl
several_as_one mode Braces is s [] = refl
several_as_one mode Struct is s [] = absurd is
several_as_one mode Tuple is s [] = absurd is
several_as_one mode Unnamed is s [] = absurd is
several_as_one mode kind is s (text ∷ texts) = refl

some_none : (u : List ℕ) → Some u ≢ None
some_none u e = absurd (cc)

-- what is taken in so many blocks, by another name of their number
pub in_blocks : {E : Type 0} (fit : ℕ → E → Type 0) (text_of : Setting → E → List ℕ) (mode : Mode) {a b : ℕ} → a ≡ b → {old new : List ℕ} {outcome : Result E Fault}
    → Takes (fit a) (text_of (setting_in mode a)) old outcome new → Takes (fit b) (text_of (setting_in mode b)) old outcome new
in_blocks fit text_of mode same {old} {new} {outcome} takes = subst (λ n. Takes (fit n) (text_of (setting_in mode n)) old outcome new) same takes

-- in so many blocks, of which the innermost is this one
module _ {E : Type 0} (is : E → Type 0) (text_of : E → List ℕ) (mode : Mode) (kind : Kind) (blocks : ℕ) where
  abbrev pub later_lead : List ℕ
  later_lead = lead (frame mode kind) (setting_in mode blocks) One

  abbrev pub last_ending : List ℕ
  last_ending = ending (frame mode kind) (setting_in mode (blocks - 1)) One

  -- the rest of the block after an entry
  abbrev pub block_rest : List E → List ℕ
  block_rest es = tail_of is text_of later_lead (trail mode) last_ending es

  -- an entry, and the rest of the block after it
  abbrev pub after_leads : E × List E → List ℕ
  after_leads p = entries_text is text_of later_lead (trail mode) last_ending p

  -- the block after its opening
  abbrev pub after_opening : List E → List ℕ
  after_opening es = block_tail (frame mode kind) (setting_in mode (blocks - 1)) Zero (map text_of es)

  -- in such a block these entries were taken, and what is left is one more and the rest of the block
  pub record TakenSoFar (es : List E) (here old : List ℕ) : Type 0 where
    pub bracketed : IsBracketed kind
    pub some : 0 < blocks
    pub most : blocks ≤ 255
    pub reduces : Reduces (AreEntries is) after_leads (AreSome is) after_opening (λ p. es ++ (p.0 ∷ p.1)) here old

  module _ (bracketed : IsBracketed kind) (some : 0 < blocks) (most : blocks ≤ 255) where
    inside_is : inside (setting_in mode (blocks - 1)) ≡ setting_in mode blocks
    inside_is = inside-setting_in mode blocks some most

    closing : Closes Debug (frame mode kind) (setting_in mode (blocks - 1))
    closing = closes Debug (setting_in mode (blocks - 1)) kind (block_fits mode blocks some most)

    rest_is : (es : List E) → block_tail (frame mode kind) (setting_in mode (blocks - 1)) One (map text_of es) ≡ block_rest es
    rest_is [] = refl
    rest_is (e ∷ es) =
        ap (λ i. lead (frame mode kind) i One ++ (text_of e ++ (trail mode ++ block_tail (frame mode kind) (setting_in mode (blocks - 1)) Several (map text_of es)))) inside_is
        ∙ ap (λ t. later_lead ++ (text_of e ++ (trail mode ++ t))) (several_as_one mode kind bracketed (setting_in mode (blocks - 1)) (map text_of es) ∙ rest_is es)

    follows : (es : List E) (u : List ℕ) → MayFollow Debug (trail mode ++ (block_rest es ++ u))
    follows es u = subst (λ t. MayFollow Debug (trail mode ++ (t ++ u))) (rest_is es)
        (tail_follows Debug (frame mode kind) (setting_in mode (blocks - 1)) closing Zero (map text_of es) u)

    differs : (u v : List ℕ) → last_ending ++ u ≢ later_lead ++ v
    differs u v = λ same. some_none v (
        sym (strip_joined later_lead v) ∙ ap (strip later_lead) (sym same)
        ∙ ap (λ i. strip (lead (frame mode kind) i One) (last_ending ++ u)) (sym inside_is)
        ∙ closing.differs Zero u
        )

    opening_is : (e : E) (es : List E) → after_opening (e ∷ es) ≡ lead (frame mode kind) (setting_in mode blocks) Zero ++ after_leads (e, es)
    opening_is e es =
        ap (λ i. lead (frame mode kind) i Zero ++ (text_of e ++ (trail mode ++ block_tail (frame mode kind) (setting_in mode (blocks - 1)) One (map text_of es)))) inside_is
        ∙ ap (λ t. lead (frame mode kind) (setting_in mode blocks) Zero ++ (text_of e ++ (trail mode ++ t))) (rest_is es)

    flat_opening : (e : E) (es : List E) (u : List ℕ) → after_opening (e ∷ es) ++ u ≡ lead (frame mode kind) (setting_in mode blocks) Zero ++ (after_leads (e, es) ++ u)
    flat_opening e es u = ap (λ t. t ++ u) (opening_is e es) ∙ append_assoc (lead (frame mode kind) (setting_in mode blocks) Zero) (after_leads (e, es)) u

    first_refused : (old : List ℕ) → DoesNotBegin (lead (frame mode kind) (setting_in mode blocks) Zero) old → (es : List E) (u : List ℕ) → AreSome is es
        → old ≢ after_opening es ++ u
    first_refused old refuses [] u are = absurd are
    first_refused old refuses (e ∷ es) u are = λ same. refuses _ (same ∙ flat_opening e es u)

    -- without the lead of a first entry there are no entries
    pub lead_refused : {old new : List ℕ} → DoesNotBegin (lead (frame mode kind) (setting_in mode blocks) Zero) old → Takes (AreSome is) after_opening old (Err NotText) new
    lead_refused {old} refuses = record { cases = λ es u are may same. first_refused old refuses es u are same }

    module _ {here old : List ℕ} where
      first_found : old ≡ lead (frame mode kind) (setting_in mode blocks) Zero ++ here → (es : List E) (u : List ℕ) → AreSome is es → old ≡ after_opening es ++ u
          → (p : E × List E) × AreEntries is p × (here ≡ after_leads p ++ u)
      first_found lead_is [] u are same = absurd are
      first_found lead_is (e ∷ es) u are same = (
        (e, es),
        (All-head is e es are, All-tail is e es are),
        append_cancel_left (lead (frame mode kind) (setting_in mode blocks) Zero) here _ (sym lead_is ∙ same ∙ flat_opening e es u),
      )

      -- after that lead, nothing is taken yet
      pub none_so_far : old ≡ lead (frame mode kind) (setting_in mode blocks) Zero ++ here → TakenSoFar [] here old
      none_so_far lead_is = record {
        bracketed = bracketed;
        some = some;
        most = most;
        reduces = record {
          holds = λ p are. All-cons is p.0 p.1 are.0 are.1;
          builds = λ p u at. lead_is ∙ ap (λ t. lead (frame mode kind) (setting_in mode blocks) Zero ++ t) at ∙ sym (flat_opening p.0 p.1 u);
          finds = λ es u are may same. first_found lead_is es u are same;
        };
      }

module _ {E : Type 0} {is : E → Type 0} {text_of : E → List ℕ} {mode : Mode} {kind : Kind} {blocks : ℕ} {es : List E} {here old : List ℕ}
    (so_far : TakenSoFar is text_of mode kind blocks es here old) where
  abbrev pub comes : List ℕ
  comes = lead (frame mode kind) (setting_in mode blocks) One

  abbrev pub ends : List ℕ
  ends = ending (frame mode kind) (setting_in mode (blocks - 1)) One

  -- the whole block, from its first entry on
  abbrev pub BlockTaken : Result (List E) Fault → List ℕ → Type 0
  BlockTaken outcome new = Takes (AreSome is) (after_opening is text_of mode kind blocks) old outcome new

  goes_on : GoesOn is text_of comes (trail mode) ends
  goes_on = record { follows = follows is text_of mode kind blocks so_far.bracketed so_far.some so_far.most }

  -- the block is refused with its next entry
  pub next_refused : {fault : Fault} {new further : List ℕ} → Takes is text_of here (Err fault) new → BlockTaken (Err fault) further
  next_refused {fault} {new} {further} takes =
      reduced so_far.reduces {outcome = Err fault} {new = further} (entry_refused goes_on takes)

  module _ {e : E} {after : List ℕ} (takes : Takes is text_of here (Ok e) after) where
    -- or with that entry's trail
    pub next_trail_refused : {new : List ℕ} → DoesNotBegin (trail mode) after → BlockTaken (Err NotText) new
    next_trail_refused refuses = reduced so_far.reduces {outcome = Err NotText} (trail_refused goes_on takes refuses)

    module _ {further : List ℕ} (trail_is : after ≡ trail mode ++ further) where
      entry_and : Reduces (All is) (block_rest is text_of mode kind blocks) (AreEntries is) (after_leads is text_of mode kind blocks) (λ more. (e, more)) further here
      entry_and = after_entry goes_on takes trail_is

      -- one entry more was taken, if another lead comes
      pub one_more : {next : List ℕ} → further ≡ comes ++ next → TakenSoFar is text_of mode kind blocks (es ++ e ∷ []) next old
      one_more {next} lead_is = record {
        bracketed = so_far.bracketed;
        some = so_far.some;
        most = so_far.most;
        reduces = made_as (λ p. (es ++ e ∷ []) ++ (p.0 ∷ p.1)) (λ p. sym (append_assoc es (e ∷ []) (p.0 ∷ p.1))) (reduced_twice (reduced_twice
            (another_entry is text_of comes (trail mode) ends (differs is text_of mode kind blocks so_far.bracketed so_far.some so_far.most) further next lead_is)
            entry_and) so_far.reduces);
      }

      -- or it was the last
      pub the_last : {new : List ℕ} → DoesNotBegin comes further → further ≡ ends ++ new → BlockTaken (Ok (es ++ e ∷ [])) new
      the_last {new} no_lead end_is = reduced so_far.reduces (reduced entry_and (end_taken is text_of comes (trail mode) ends further new no_lead end_is))

      -- or the block is refused
      pub end_not_there : {new : List ℕ} → DoesNotBegin comes further → DoesNotBegin ends further → BlockTaken (Err NotText) new
      end_not_there {new} no_lead no_end = reduced so_far.reduces {outcome = Err NotText}
          (reduced entry_and {outcome = Err NotText} (end_refused is text_of comes (trail mode) ends further new no_lead no_end))
