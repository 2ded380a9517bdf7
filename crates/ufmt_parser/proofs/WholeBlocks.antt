-- Blocks in brackets or braces after their opening: without entries, or with some.
use Rattle.std.proofs.Common.{◌≡◌, ◌≢◌, refl, sym, ap, ◌∙◌, true, List, [], ◌∷◌, ℕ, suc, ◌-◌, ◌<◌, ◌≤◌, ◌++◌, map, arith, true≢false, Result, Ok, Err}
use Rattle.std.proofs.lemmas.List.{append_cancel_left}
use Rattle.std.proofs.lemmas.List.Elements.{All-head}
use Rattle.ufmt_core.specs.Layout.{block_tail, ending, frame, indentation, inside, lead, new_line, trail}
use Rattle.ufmt_core.specs.declared.layout.Count.TheVariants.{Zero, One}
use Rattle.ufmt_core.specs.declared.layout.Kind.{Kind}
use Rattle.ufmt_core.specs.declared.layout.Kind.TheVariants.{Brackets, Braces, Struct, Tuple, Unnamed}
use Rattle.ufmt_core.specs.declared.layout.Mode.{Mode}
use Rattle.ufmt_core.specs.declared.layout.Mode.TheVariants.{Plain, Pretty}
use Rattle.ufmt_core.specs.declared.layout.Setting.{Setting}
use Rattle.ufmt_grammar.specs.Leaves.{is_ender}
use Rattle.ufmt_parser.specs.declared.parser.Fault.{Fault}
use Rattle.ufmt_parser.specs.declared.parser.Fault.TheVariants.{NotText, OutOfMemory}
use Rattle.ufmt_parser.specs.Blocks.{AreSome, BeginsEntry, EntriesFit, IsBracketed}
use Rattle.ufmt_parser.specs.Taking.{DoesNotBegin, Takes, TakesBy, setting_in}

-- what begins as an entry begins so with any text after it
pub begins_longer : {t : List ℕ} → BeginsEntry t → (u : List ℕ) → BeginsEntry (t ++ u)
begins_longer h u = record { first = h.first; tail = h.tail ++ u; is = ap (λ t. t ++ u) h.is; no_ender = h.no_ender }

-- also on a new line
begins_on_line : (mode : Mode) (depth : ℕ) {t : List ℕ} → BeginsEntry t → BeginsEntry (new_line mode depth ++ t)
begins_on_line Plain depth b = b
begins_on_line Pretty depth {t} b = record { first = 10; tail = indentation depth ++ t; is = refl; no_ender = refl }

-- a closing bracket is not there
no_closing : (c : ℕ) (u : List ℕ) {t : List ℕ} → is_ender c ≡ true → BeginsEntry t → c ∷ u ≢ t
no_closing c u closes b = λ same. true≢false (sym closes ∙ ap is_ender (first_is c u b.first b.tail (same ∙ b.is)) ∙ b.no_ender)
  where
    first_is : (c : ℕ) (u : List ℕ) (first : ℕ) (tail : List ℕ) → c ∷ u ≡ first ∷ tail → c ≡ first
    first_is c u first tail same = cc

-- the end of an empty block is no entry
empty_is_none : (mode : Mode) (kind : Kind) → IsBracketed kind → (s : Setting) (depth : ℕ) {t : List ℕ} → BeginsEntry t → (u v : List ℕ)
    → ending (frame mode kind) s Zero ++ u ≢ (lead (frame mode kind) (record { mode = mode; depth = depth }) Zero ++ t) ++ v
empty_is_none mode Brackets is s depth b u v = no_closing 93 u refl (begins_longer (begins_on_line mode depth b) v)
empty_is_none mode Braces is s depth b u v = no_closing 125 u refl (begins_longer (begins_on_line mode depth b) v)
empty_is_none mode Struct is s depth b u v = absurd is
empty_is_none mode Tuple is s depth b u v = absurd is
empty_is_none mode Unnamed is s depth b u v = absurd is

module _ {E : Type 0} (fit : ℕ → E → Type 0) (text_of : E → List ℕ) (mode : Mode) (kind : Kind) (blocks : ℕ) where
  -- the block after its opening
  abbrev pub opened : List E → List ℕ
  opened es = block_tail (frame mode kind) (setting_in mode blocks) Zero (map text_of es)

  abbrev pub empty_ending : List ℕ
  empty_ending = ending (frame mode kind) (setting_in mode blocks) Zero

  module _ (bracketed : IsBracketed kind) (begins : (e : E) → fit (suc blocks) e → BeginsEntry (text_of e)) {here new : List ℕ} (end_is : here ≡ empty_ending ++ new) where
    only_empty : (es : List E) (u : List ℕ) → EntriesFit fit blocks es → here ≡ opened es ++ u → u ≡ new
    only_empty [] u fits same = append_cancel_left empty_ending u new (sym same ∙ end_is)
    only_empty (e ∷ es) u fits same = absurd (empty_is_none mode kind bracketed (setting_in mode blocks) (inside (setting_in mode blocks)).depth
        (begins_longer (begins e (All-head (fit (suc blocks)) e es fits.1)) (trail mode ++ block_tail (frame mode kind) (setting_in mode blocks) One (map text_of es))) new u
        (sym end_is ∙ same))

    -- a block without entries is taken
    pub empty_taken : blocks ≤ 255 → Takes (EntriesFit fit blocks) opened here (Ok []) new
    empty_taken most = record { cases = (end_is, most, λ es u fits may same. only_empty es u fits same) }

  module _ {here : List ℕ} (not_empty : DoesNotBegin empty_ending here) where
    none_so_deep : 255 ≤ blocks → (es : List E) (u : List ℕ) → EntriesFit fit blocks es → here ≢ opened es ++ u
    none_so_deep deep [] u fits = not_empty u
    none_so_deep deep (e ∷ es) u fits = absurd (omega (arith, fits.0, deep))

    -- entries in too many blocks are refused
    pub too_deep : {new : List ℕ} → 255 ≤ blocks → Takes (EntriesFit fit blocks) opened here (Err NotText) new
    too_deep deep = record { cases = λ es u fits may same. none_so_deep deep es u fits same }

    module _ (less : blocks < 255) where
      some_fit : (es : List E) → AreSome (fit (suc blocks)) es → EntriesFit fit blocks es
      some_fit [] are = absurd are
      some_fit (e ∷ es) are = (less, are)

      fit_are_some : (es : List E) (u : List ℕ) → EntriesFit fit blocks es → here ≡ opened es ++ u → AreSome (fit (suc blocks)) es
      fit_are_some [] u fits same = absurd (not_empty u same)
      fit_are_some (e ∷ es) u fits same = fits.1

      some_taken_by : (outcome : Result (List E) Fault) (new : List ℕ) → TakesBy (AreSome (fit (suc blocks))) opened here outcome new
          → TakesBy (EntriesFit fit blocks) opened here outcome new
      some_taken_by (Ok es) new takes = (takes.0, some_fit es takes.1, λ w u fits may same. takes.2 w u (fit_are_some w u fits same) may same)
      some_taken_by (Err NotText) new none = λ w u fits may same. none w u (fit_are_some w u fits same) may same
      some_taken_by (Err OutOfMemory) new takes = tt

      -- a block that isn't empty is taken by its entries
      pub some_taken : {outcome : Result (List E) Fault} {new : List ℕ} → Takes (AreSome (fit (suc blocks))) opened here outcome new
          → Takes (EntriesFit fit blocks) opened here outcome new
      some_taken {outcome} {new} takes = record { cases = some_taken_by outcome new takes.cases }

-- what is taken in this block, by another name of how many are open there
pub in_block : {E : Type 0} (fit : ℕ → E → Type 0) (text_of : Setting → E → List ℕ) (mode : Mode) (kind : Kind) (blocks : ℕ) {inner : ℕ} → inner ≡ suc blocks
    → {here new : List ℕ} {outcome : Result (List E) Fault}
    → Takes (AreSome (fit inner)) (λ es. block_tail (frame mode kind) (setting_in mode (inner - 1)) Zero (map (text_of (setting_in mode inner)) es)) here outcome new
    → Takes (AreSome (fit (suc blocks))) (opened fit (text_of (setting_in mode (suc blocks))) mode kind blocks) here outcome new
in_block fit text_of mode kind blocks {inner} is {here} {new} {outcome} takes =
    let outer : inner - 1 ≡ blocks = omega arith in
    rw (← is) (rw (← outer) takes)
