-- A list and a tuple of a debug document don't begin as a leaf does that begins with an address or a word in brackets.
use Rattle.std.proofs.Common.{◌≡◌, ◌∙◌, inl, inr, refl, ap, sym, subst, ℕ, ◌==◌, Bool, true, false, List, [], ◌∷◌, ◌++◌, Some, append_assoc, eqb-true, arith}
use Rattle.std.proofs.lemmas.Bool.Decides.{nat_tests}
use Rattle.std.proofs.lemmas.Bool.{cases_Bool, false_from_ne_true}
use Rattle.ufmt_core.specs.Bytes.{closing_bracket, closing_parenthesis, opening_bracket, opening_parenthesis}
use Rattle.ufmt_core.specs.Document.{Document, leaf, joined, list_of, set_of, map_of, struct_of, non_exhaustive_of, tuple_of, pretty_part, no_documents, first_document, no_fields, first_field}
use Rattle.ufmt_core.specs.Layout.{frame, inside, layout, new_line, setting, trail, block_tail}
use Rattle.ufmt_core.specs.declared.layout.Mode.{Mode}
use Rattle.ufmt_core.specs.declared.layout.Mode.TheVariants.{Plain, Pretty}
use Rattle.ufmt_core.specs.declared.layout.Setting.{Setting}
use Rattle.ufmt_core.specs.declared.layout.Kind.TheVariants.{Brackets, Unnamed}
use Rattle.ufmt_core.specs.declared.layout.Count.TheVariants.{One}
use Rattle.ufmt_grammar.specs.Token.{Class, Token, Debug, IsName, IsBuilt, MayFollow}
use Rattle.ufmt_grammar.specs.Leaves.{is_ender, is_debug_byte, is_name_byte, begins_with, past, is_word_closed, is_port, is_address_closed, Place, beginning, outside, place_outside, place_after, EndsLeaf, IsDebugFollower}
use Rattle.ufmt_grammar.proofs.ReadingWords.{each_ender}
use Rattle.ufmt_grammar.proofs.DebugLeaves.{each_quote, opening_is_quote, outside_step, at_beginning, leaf_no_ender}
use Rattle.ufmt_grammar.proofs.ClassLeaves.{IsNoAddress, IsNoWord, name_some}

-- bytes that a name may have, and what is looked for past them: it begins with a closing bracket
pub record IsSearch (is : ℕ → Bool) (found : List ℕ → Bool) : Type 0 where
  pub named : (c : ℕ) → is c ≡ true → is_name_byte c ≡ true
  pub none : (c : ℕ) (t : List ℕ) → is_ender c ≡ false → found (c ∷ t) ≡ false

no_ender_is : (c k : ℕ) → is_ender k ≡ true → is_ender c ≡ false → (c == k) ≡ false
no_ender_is c k ends other = false_from_ne_true (c == k) (λ e. let is = subst (λ b. is_ender b ≡ false) (eqb-true c k e) other in cc (ends, is))

word_search : IsSearch is_debug_byte (begins_with closing_parenthesis)
word_search = record { named = λ c h. rw h refl; none = λ c t other. no_ender_is c closing_parenthesis refl other }

no_port : (c : ℕ) (t : List ℕ) → is_ender c ≡ false → is_port (c ∷ t) ≡ false
no_port c [] other = refl
no_port c (b ∷ []) other = refl
no_port c (b ∷ d ∷ t) other = rw (no_ender_is c closing_bracket refl other) refl

port_search : IsSearch is_name_byte is_port
port_search = record { named = λ c h. h; none = no_port }

-- a byte of a name stays outside of quotes
pub name_step : (c : ℕ) (t : List ℕ) (next : Place) → is_name_byte c ≡ true → place_outside c t ≡ Some next → next ≡ outside
name_step c t next named h = elim (outside_step c t next h) [
  | inl step ↦ step.1
  | inr (inl step) ↦ let none = each_quote (λ b. is_name_byte b ≡ false) refl refl c (opening_is_quote c t step.0) in absurd (cc (none, named))
  | inr (inr (inl step)) ↦ step.2
  | inr (inr (inr step)) ↦ let opens = subst (λ b. is_name_byte b ≡ true) step.0 named in absurd (cc)
]

-- at a leaf's start too
pub name_begins : (c : ℕ) (t : List ℕ) → is_name_byte c ≡ true → place_after beginning c t ≡ place_outside c t
name_begins c t named =
    let no_parenthesis : (c == opening_parenthesis) ≡ false = grind (arith, nat_tests) in
    let no_bracket : (c == opening_bracket) ≡ false = grind (arith, nat_tests) in
    rw (no_parenthesis, no_bracket) refl

module _ (is : ℕ → Bool) (found : List ℕ → Bool) (search : IsSearch is found) where
  -- what isn't found after a leaf isn't found past its first bytes
  leaf_past : (w r : List ℕ) → EndsLeaf outside w → found (past is r) ≡ false → found (past is (w ++ r)) ≡ false
  leaf_past [] r h none = none
  leaf_past (c ∷ w) r h none = elim (cases_Bool (is c)) [
    | inl e ↦ rw e (leaf_past w r (subst (λ p. EndsLeaf p w) (name_step c w h.0 (search.named c e) h.1) h.2) none)
    | inr e ↦ rw e (search.none c (w ++ r) (leaf_no_ender c w h.0 (at_beginning c w h.0 h.1)))
  ]

  whole_past : (w r : List ℕ) → EndsLeaf beginning w → found (past is r) ≡ false → found (past is (w ++ r)) ≡ false
  whole_past [] r h none = none
  whole_past (c ∷ w) r h none = elim (cases_Bool (is c)) [
    | inl e ↦
        let step : place_outside c w ≡ Some h.0 = sym (name_begins c w (search.named c e)) ∙ h.1 in
        rw e (leaf_past w r (subst (λ p. EndsLeaf p w) (name_step c w h.0 (search.named c e) step) h.2) none)
    | inr e ↦ rw e (search.none c (w ++ r) (leaf_no_ender c w h.0 h.1))
  ]

  -- a byte that no name has, and no closing bracket
  other_first : (c : ℕ) (t : List ℕ) → is_name_byte c ≡ false → is_ender c ≡ false → found (past is (c ∷ t)) ≡ false
  other_first c t no_name no_ender = let none = false_from_ne_true (is c) (λ e. let named = search.named c e in cc (named, no_name)) in rw none (search.none c t no_ender)

  named_past : (name text r : List ℕ) → IsName Debug name → found (past is (text ++ r)) ≡ false → found (past is ((name ++ text) ++ r)) ≡ false
  named_past name text r h none = ap (λ t. found (past is t)) (append_assoc name text r) ∙ whole_past name (text ++ r) h.whole.pieces none

  named_spaced : (name text r : List ℕ) → IsName Debug name → begins_with 32 (text ++ r) ≡ true → found (past is ((name ++ text) ++ r)) ≡ false
  named_spaced name text r h spaced = named_past name text r h (at_space (text ++ r) spaced)
    where
      at_space : (t : List ℕ) → begins_with 32 t ≡ true → found (past is t) ≡ false
      at_space [] e = absurd (cc)
      at_space (c ∷ t) e = subst (λ b. found (past is (b ∷ t)) ≡ false) (sym (eqb-true c 32 e)) (other_first 32 t refl refl)

  -- nor past the first bytes of a document's text
  pub document_past : (i : Setting) (d : Document) (r : List ℕ) → IsBuilt Debug d → found (past is r) ≡ false → found (past is (layout i d ++ r)) ≡ false
  document_past i (leaf text) r h none = whole_past text r h.pieces none
  document_past i (joined ds) r h none = absurd h
  document_past i (list_of ds) r h none = other_first 91 _ refl refl
  document_past i (set_of ds) r h none = other_first 123 _ refl refl
  document_past i (map_of ps) r h none = other_first 123 _ refl refl
  document_past i (struct_of name no_fields) r h none = named_past name [] r h.0 none
  document_past i (struct_of name (first_field field value fs)) r h none = named_spaced name _ r h.0 refl
  document_past i (non_exhaustive_of name no_fields) r h none = named_spaced name _ r h.1 refl
  document_past i (non_exhaustive_of name (first_field field value fs)) r h none = named_spaced name _ r h.1 refl
  document_past i (tuple_of [] no_documents) r h none = absurd (name_some Debug h)
  document_past i (tuple_of (c ∷ name) no_documents) r h none = named_past (c ∷ name) [] r h none
  document_past i (tuple_of [] (first_document d ds)) r h none = other_first 40 _ refl refl
  document_past i (tuple_of (c ∷ name) (first_document d ds)) r h none = named_past (c ∷ name) _ r h.0 (other_first 40 _ refl refl)
  document_past i (pretty_part d) r h none = absurd h

-- what may follow a list is no port
follower_no_port : (u : List ℕ) → IsDebugFollower u → is_port (closing_bracket ∷ u) ≡ false
follower_no_port [] h = refl
follower_no_port (c ∷ []) h = refl
follower_no_port (c ∷ b ∷ u) (inl h) = each_ender (λ d. is_port (closing_bracket ∷ d ∷ b ∷ u) ≡ false) refl refl refl refl c h
follower_no_port (c ∷ b ∷ u) (inr (inl h)) = rw (h.0, h.1) refl
follower_no_port (c ∷ b ∷ u) (inr (inr h)) = rw h.0 refl

pub address_by_port : (t : List ℕ) → is_port (past is_name_byte t) ≡ false → is_address_closed t ≡ false
address_by_port [] h = refl
address_by_port (c ∷ t) h = elim (cases_Bool (is_name_byte c)) [ inl named ↦ rw named (rw named at h) | inr other ↦ rw other refl ]

pub word_by_end : (t : List ℕ) → begins_with closing_parenthesis (past is_debug_byte t) ≡ false → is_word_closed t ≡ false
word_by_end [] h = refl
word_by_end (c ∷ t) h = elim (cases_Bool (is_debug_byte c)) [ inl word ↦ rw word (rw word at h) | inr other ↦ rw other refl ]

-- after a document's text
list_by : (i : Setting) (d : Document) (rest u : List ℕ) → IsBuilt Debug d → is_port (past is_name_byte (rest ++ u)) ≡ false → is_address_closed ((layout i d ++ rest) ++ u) ≡ false
list_by i d rest u h none = address_by_port ((layout i d ++ rest) ++ u)
    (ap (λ t. is_port (past is_name_byte t)) (append_assoc (layout i d) rest u) ∙ document_past is_name_byte is_port port_search i d (rest ++ u) h none)

tuple_by : (i : Setting) (d : Document) (rest u : List ℕ) → IsBuilt Debug d → begins_with closing_parenthesis (past is_debug_byte (rest ++ u)) ≡ false
    → is_word_closed ((layout i d ++ rest) ++ u) ≡ false
tuple_by i d rest u h none = word_by_end ((layout i d ++ rest) ++ u)
    (ap (λ t. begins_with closing_parenthesis (past is_debug_byte t)) (append_assoc (layout i d) rest u)
    ∙ document_past is_debug_byte (begins_with closing_parenthesis) word_search i d (rest ++ u) h none)

-- a comma is no port
no_comma_port : (t : List ℕ) → begins_with 44 t ≡ true → is_port (past is_name_byte t) ≡ false
no_comma_port [] h = absurd (cc)
no_comma_port (c ∷ t) h = subst (λ b. is_port (past is_name_byte (b ∷ t)) ≡ false) (sym (eqb-true c 44 h)) (comma t)
  where
    comma : (t : List ℕ) → is_port (44 ∷ t) ≡ false
    comma [] = refl
    comma (b ∷ []) = refl
    comma (b ∷ d ∷ t) = refl

list_at : (mode : Mode) (k : ℕ) (d : Document) (texts : List (List ℕ)) (u : List ℕ) → IsBuilt Debug d → IsDebugFollower u
    → is_address_closed ((new_line mode (inside (setting mode k)).depth ++ (layout (inside (setting mode k)) d ++ (trail mode ++ block_tail (frame mode Brackets) (setting mode k) One texts))) ++ u) ≡ false
list_at Plain k d [] u h follows = list_by (inside (setting Plain k)) d (trail Plain ++ block_tail (frame Plain Brackets) (setting Plain k) One []) u h (follower_no_port u follows)
list_at Plain k d (text ∷ texts) u h follows =
    let rest = trail Plain ++ block_tail (frame Plain Brackets) (setting Plain k) One (text ∷ texts) in
    list_by (inside (setting Plain k)) d rest u h (no_comma_port (rest ++ u) refl)
list_at Pretty k d texts u h follows = refl

tuple_at : (mode : Mode) (k : ℕ) (d : Document) (texts : List (List ℕ)) (u : List ℕ) → IsBuilt Debug d
    → is_word_closed ((new_line mode (inside (setting mode k)).depth ++ (layout (inside (setting mode k)) d ++ (trail mode ++ block_tail (frame mode Unnamed) (setting mode k) One texts))) ++ u) ≡ false
tuple_at Plain k d [] u h = tuple_by (inside (setting Plain k)) d (trail Plain ++ block_tail (frame Plain Unnamed) (setting Plain k) One []) u h refl
tuple_at Plain k d (text ∷ texts) u h = tuple_by (inside (setting Plain k)) d (trail Plain ++ block_tail (frame Plain Unnamed) (setting Plain k) One (text ∷ texts)) u h refl
tuple_at Pretty k d texts u h = refl

-- a list with entries doesn't begin as an address does, nor a tuple without a name as a word in parentheses
pub list_no_address : (class : Class) (s : Setting) (d : Document) (texts : List (List ℕ)) (u : List ℕ) → IsBuilt class d → MayFollow class u
    → IsNoAddress class ((new_line (inside s).mode (inside s).depth ++ (layout (inside s) d ++ (trail s.mode ++ block_tail (frame s.mode Brackets) s One texts))) ++ u)
list_no_address Token s d texts u h follows = tt
list_no_address Debug s d texts u h follows = list_at s.mode s.depth d texts u h follows

pub tuple_no_word : (class : Class) (s : Setting) (d : Document) (texts : List (List ℕ)) (u : List ℕ) → IsBuilt class d
    → IsNoWord class ((new_line (inside s).mode (inside s).depth ++ (layout (inside s) d ++ (trail s.mode ++ block_tail (frame s.mode Unnamed) s One texts))) ++ u)
tuple_no_word Token s d texts u h = tt
tuple_no_word Debug s d texts u h = tuple_at s.mode s.depth d texts u h

pub no_entry_no_address : (class : Class) (u : List ℕ) → IsNoAddress class (closing_bracket ∷ u)
no_entry_no_address Token u = tt
no_entry_no_address Debug u = refl
