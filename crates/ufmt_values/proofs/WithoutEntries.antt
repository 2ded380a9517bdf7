-- No block with entries has a bracket that is closed at once, or in a pretty text one that no line feed follows.
use Rattle.std.proofs.Common.{◌≡◌, ◌⊎◌, inl, inr, ◌∙◌, refl, ap, sym, subst, ℕ, zero, suc, ◌+◌, ◌<◌, ◌≤◌, ◌==◌, ◌&&◌, not, nat_le, Bool, true, false, cond, List, [], ◌∷◌, Option, Some, None, option_and_then, drop, get_or, length, length-drop, arith}
use Rattle.std.proofs.lemmas.Bool.Decides.{nat_tests}
use Rattle.std.proofs.lemmas.Bool.{and_parts, cases_Bool, cond_both}
use Rattle.std.proofs.lemmas.List.{drop_more, get_or-drop}
use Rattle.std.specs.Prelude.{◌-◌, ◌||◌, slice_index_or}
use Rattle.ufmt.specs.Document.{Document, list_of, map_of, no_documents, no_pairs}
use Rattle.ufmt.specs.Layout.{inside, setting}
use Rattle.ufmt.specs.Leaves.{Place, beginning, outside, in_address, in_parentheses, in_word, begins_quote, begins_with, has_name_bytes, is_address_closed, is_debug_byte, is_in_word, is_name_byte, is_opening, is_quote, is_spaced, is_word_closed, place_after, place_outside}
use Rattle.ufmt.specs.Reading.{Parse, after_leaf, choose, is_name, is_whole, leaf_from, read, read_by_front, read_without_name, strip}
use Rattle.ufmt_core.specs.declared.layout.Mode.{Mode}
use Rattle.ufmt_core.specs.declared.layout.Mode.TheVariants.{Plain, Pretty}
use Rattle.ufmt_grammar.specs.declared.class.Class.TheVariants.{Debug}
use Rattle.ufmt_values.proofs.NameBrackets.{each_opening}
use Rattle.ufmt_values.specs.Private.WithoutEntries.{is_without_entries}
use Rattle.ufmt_values.specs.Values.{before_bracket, if_entries, is_after_name, is_in_struct, is_named, run_start, value_from, value_start}
use Rattle.ufmt_scan.specs.Fronts.{has_entries}
use Rattle.ufmt_scan.specs.Texts.{other_mode}

-- the next bracket is an opening one
opens_at : (t : List ℕ) → before_bracket t < length t → is_opening (get_or t (before_bracket t) 0) ≡ true
opens_at [] within = absurd (omega (arith, within))
opens_at (c ∷ t) within = grind (arith, opens_at t)

pub bracket_opens : (text : List ℕ) (at bracket : ℕ) → at ≤ bracket → bracket ≡ at + before_bracket (drop at text) → bracket < length text → is_opening (slice_index_or text bracket 0) ≡ true
bracket_opens text at bracket order next within =
    let left = length-drop at text in
    ap (λ k. is_opening (get_or text k 0)) next ∙ ap is_opening (sym (get_or-drop at text (before_bracket (drop at text)) 0)) ∙ opens_at (drop at text) (omega (arith, order, next, within, left))

-- what reads the entries of a document at depth 0
abbrev entries_in : Mode → Parse Document
entries_in mode = read Debug (inside (setting mode 0)) 254

-- how a text is read by its front
abbrev by_front : Mode → List ℕ → List ℕ → List ℕ → Option (Document × List ℕ)
by_front to t front rest = option_and_then if_entries (read_by_front Debug (setting (other_mode to) 0) (entries_in (other_mode to)) t front rest)

read_front_is : (to : Mode) (t : List ℕ) → value_from to t ≡ by_front to t (leaf_from beginning t) (after_leaf beginning t)
unfolding read
read_front_is to t = refl

-- a leaf that is no name is no block
unnamed_front : (to : Mode) (t : List ℕ) (c : ℕ) (front after : List ℕ) → has_name_bytes (c ∷ front) ≡ false → by_front to t (c ∷ front) after ≡ None
unnamed_front to t c front after unnamed = rw unnamed (grind arith)

-- so is one that begins with a bracket
opening_front : (to : Mode) (c : ℕ) (t : List ℕ) (next : Place) → place_after beginning c t ≡ Some next → is_name_byte c ≡ false → value_from to (c ∷ t) ≡ None
opening_front to c t next is unnamed =
    read_front_is to (c ∷ t)
    ∙ ap (λ f. by_front to (c ∷ t) f (after_leaf beginning (c ∷ t))) (ap (λ o. choose o (λ n. c ∷ leaf_from n t) []) is)
    ∙ unnamed_front to (c ∷ t) c (leaf_from next t) (after_leaf beginning (c ∷ t)) (ap (λ b. b && has_name_bytes (leaf_from next t)) unnamed)

-- else the bracket decides
no_front : (to : Mode) (c : ℕ) (t : List ℕ) → place_after beginning c t ≡ None
    → value_from to (c ∷ t) ≡ option_and_then if_entries (read_without_name Debug (setting (other_mode to) 0) (entries_in (other_mode to)) (c ∷ t))
no_front to c t none = read_front_is to (c ∷ t) ∙ ap (λ f. by_front to (c ∷ t) f (after_leaf beginning (c ∷ t))) (ap (λ o. choose o (λ n. c ∷ leaf_from n t) []) none)

-- a text that begins otherwise isn't stripped of a text with this first byte
not_stripped : (b : ℕ) (text t : List ℕ) → begins_with b t ≡ false → strip (b ∷ text) t ≡ None
not_stripped b text [] other = refl
not_stripped b text (c ∷ t) other = let apart : (b == c) ≡ false = grind (arith, nat_tests) in ap (λ x. cond x (strip text t) None) apart

record Stripped (b : ℕ) (t : List ℕ) : Type 0 where
  rest : List ℕ
  is : strip (b ∷ []) t ≡ Some rest

byte_stripped : (b : ℕ) (t : List ℕ) → begins_with b t ≡ true → Stripped b t
byte_stripped b [] is = absurd (cc)
byte_stripped b (c ∷ t) is = let same : (b == c) ≡ true = grind (arith, nat_tests) in record { rest = t; is = ap (λ x. cond x (Some t) None) same }

not_true : (b : Bool) → not b ≡ true → b ≡ false
not_true true h = absurd (cc)
not_true false h = refl

and-false : (b : Bool) → b && false ≡ false
and-false true = refl
and-false false = refl

-- a block without entries is empty, or doesn't open
empty_or_none : (empty : Document) → has_entries empty ≡ false → (ends : Option (List ℕ)) → option_and_then if_entries (choose ends (λ u. Some (empty, u)) None) ≡ None
empty_or_none empty none None = refl
empty_or_none empty none (Some u) = ap (λ b. cond b (Some (empty, u)) None) none

-- ---- a list, a set or a map, and a tuple without a name, from the bracket on

abbrev without_name : Mode → List ℕ → Option (Document × List ℕ)
without_name to t = option_and_then if_entries (read_without_name Debug (setting (other_mode to) 0) (entries_in (other_mode to)) t)

in_list : (to : Mode) (t : List ℕ) → is_without_entries to 91 t ≡ true → without_name to (91 ∷ t) ≡ None
in_list Pretty t closed = rw (byte_stripped 93 t closed).is refl
in_list Plain t closed = rw (not_stripped 10 (32 ∷ 32 ∷ 32 ∷ 32 ∷ []) t (not_true (begins_with 10 t) closed)) (empty_or_none (list_of no_documents) refl (strip (93 ∷ []) t))

list_none : (to : Mode) (t : List ℕ) → is_without_entries to 91 t ≡ true → value_from to (91 ∷ t) ≡ None
list_none to t closed = elim (cases_Bool (is_address_closed t)) [
  | inl is ↦ opening_front to 91 t in_address (rw is refl) refl
  | inr is ↦ no_front to 91 t (rw is refl) ∙ in_list to t closed
]

in_braces : (to : Mode) (t : List ℕ) → is_without_entries to 123 t ≡ true → without_name to (123 ∷ t) ≡ None
in_braces Pretty t closed = rw (byte_stripped 125 t closed).is refl
in_braces Plain t closed = rw (not_stripped 10 (32 ∷ 32 ∷ 32 ∷ 32 ∷ []) t (not_true (begins_with 10 t) closed)) (empty_or_none (map_of no_pairs) refl (strip (125 ∷ []) t))

braces_none : (to : Mode) (t : List ℕ) → is_without_entries to 123 t ≡ true → value_from to (123 ∷ t) ≡ None
braces_none to t closed = no_front to 123 t refl ∙ in_braces to t closed

unnamed_none : (to : Mode) (t : List ℕ) → is_without_entries to 40 t ≡ true → value_from to (40 ∷ t) ≡ None
unnamed_none to t closed = elim (cases_Bool (is_word_closed t)) [
  | inl is ↦ opening_front to 40 t in_word (rw is refl) refl
  | inr is ↦ elim (cases_Bool (begins_with 41 t)) [
    | inl ends ↦ opening_front to 40 t in_parentheses (rw (is, ends) refl) refl
    | inr ends ↦ no_front to 40 t (rw (is, ends) refl) ∙ not_closed to closed ends
  ]
]
  where
    not_closed : (mode : Mode) → is_without_entries mode 40 t ≡ true → begins_with 41 t ≡ false → without_name mode (40 ∷ t) ≡ None
    not_closed Pretty closed other = absurd (cc)
    not_closed Plain closed other = rw (not_stripped 41 [] t other, not_stripped 10 (32 ∷ 32 ∷ 32 ∷ 32 ∷ []) t (not_true (begins_with 10 t) closed)) refl

block_none : (to : Mode) (c : ℕ) (t : List ℕ) → is_opening c ≡ true → is_without_entries to c t ≡ true → value_from to (c ∷ t) ≡ None
block_none to c t = each_opening (λ b. is_without_entries to b t ≡ true → value_from to (b ∷ t) ≡ None) (unnamed_none to t) (list_none to t) (braces_none to t) c

-- ---- a tuple with a name

-- in a name before the parenthesis of a block without entries: the leaf has a bracket, or ends at the parenthesis of no pretty block
record InName (to : Mode) (after t : List ℕ) : Type 0 where
  no_space : is_spaced t ≡ false
  no_quote : begins_quote t ≡ false
  ends : (has_name_bytes (leaf_from outside t) ≡ false) ⊎ ((to ≡ Plain) × (begins_with 10 after ≡ false) × (after_leaf outside t ≡ 40 ∷ after))

at_parenthesis : (to : Mode) (after : List ℕ) → is_without_entries to 40 after ≡ true → InName to after (40 ∷ after)
at_parenthesis Pretty after closed = record { no_space = refl; no_quote = refl; ends = inl (rw closed refl) }
at_parenthesis Plain after closed = record {
  no_space = refl;
  no_quote = refl;
  ends = elim (cases_Bool (begins_with 41 after)) [
    | inl is ↦ inl (rw is refl)
    | inr is ↦ inr (refl, not_true (begins_with 10 after) closed, rw is refl)
  ];
}

in_word_is : (ends word escapes : Bool) → word || ends ≡ true → cond ends true (word && not (escapes && false)) ≡ true
in_word_is true word escapes h = refl
in_word_is false true true h = refl
in_word_is false true false h = refl
in_word_is false false escapes h = absurd (cc)

name_continues : (c : ℕ) (t : List ℕ) → is_name_byte c ≡ true → is_spaced t ≡ false → begins_quote t ≡ false → place_outside c t ≡ Some outside
name_continues c t named no_space no_quote =
    let in_word : is_in_word c t ≡ true = rw (no_space, no_quote) (in_word_is (c == 58) (is_debug_byte c) (c == 92) named) in
    rw in_word refl

no_space_byte : (c : ℕ) → is_name_byte c ≡ true → (c == 32) ≡ false
no_space_byte c named = grind (arith, nat_tests)

no_quote_byte : (c : ℕ) → is_name_byte c ≡ true → is_quote c ≡ false
no_quote_byte c named = grind (arith, nat_tests)

module _ (to : Mode) (after : List ℕ) where
  with_byte : (c : ℕ) (t : List ℕ) → is_name_byte c ≡ true → InName to after t → InName to after (c ∷ t)
  with_byte c t named rest =
      let on = name_continues c t named rest.no_space rest.no_quote in
      record {
        no_space = ap (λ b. b && not (begins_with 125 t)) (no_space_byte c named);
        no_quote = no_quote_byte c named;
        ends = elim rest.ends [
          | inl unnamed ↦ inl (ap (λ o. has_name_bytes (choose o (λ n. c ∷ leaf_from n t) [])) on ∙ rw (named, unnamed) refl)
          | inr ends ↦ inr (ends.0, ends.1, ap (λ o. choose o (λ n. after_leaf n t) (c ∷ t)) on ∙ ends.2)
        ];
      }

  -- a text that begins with a name byte of such a name
  record Named (t : List ℕ) : Type 0 where
    first : ℕ
    rest : List ℕ
    is : t ≡ first ∷ rest
    named : is_name_byte first ≡ true
    in_name : InName to after rest

  -- no byte of a name is the bracket of a leaf's start
  at_beginning : (c : ℕ) (t : List ℕ) → is_name_byte c ≡ true → place_after beginning c t ≡ place_outside c t
  at_beginning c t named =
      let no_parenthesis : (c == 40) ≡ false = grind (arith, nat_tests) in
      let no_bracket : (c == 91) ≡ false = grind (arith, nat_tests) in
      rw (no_parenthesis, no_bracket) refl

  -- a name before no bracket of a pretty tuple is a leaf
  leaf_only : (t : List ℕ) (c : ℕ) (front : List ℕ) → begins_with 10 after ≡ false → by_front Plain t (c ∷ front) (40 ∷ after) ≡ None
  leaf_only t c front no_line = rw (not_stripped 10 (32 ∷ 32 ∷ 32 ∷ 32 ∷ []) after no_line) (cond_both (is_whole Debug (c ∷ front)) _ None (λ o. option_and_then if_entries o ≡ None)
      (λ _. cond_both (is_name Debug (c ∷ front)) _ _ (λ o. option_and_then if_entries o ≡ None) (λ _. refl) (λ _. refl)) (λ _. refl))

  named_none : (t : List ℕ) → Named t → value_from to t ≡ None
  named_none t h =
      let on = at_beginning h.first h.rest h.named ∙ name_continues h.first h.rest h.named h.in_name.no_space h.in_name.no_quote in
      let front : leaf_from beginning (h.first ∷ h.rest) ≡ h.first ∷ leaf_from outside h.rest = ap (λ o. choose o (λ n. h.first ∷ leaf_from n h.rest) []) on in
      let left : after_leaf beginning (h.first ∷ h.rest) ≡ after_leaf outside h.rest = ap (λ o. choose o (λ n. after_leaf n h.rest) (h.first ∷ h.rest)) on in
      ap (value_from to) h.is ∙ read_front_is to (h.first ∷ h.rest)
      ∙ ap (λ f. by_front to (h.first ∷ h.rest) f (after_leaf beginning (h.first ∷ h.rest))) front
      ∙ ap (by_front to (h.first ∷ h.rest) (h.first ∷ leaf_from outside h.rest)) left
      ∙ by_end h.first h.rest h.named h.in_name.ends
    where
      by_end : (c : ℕ) (rest : List ℕ) → is_name_byte c ≡ true
          → (has_name_bytes (leaf_from outside rest) ≡ false) ⊎ ((to ≡ Plain) × (begins_with 10 after ≡ false) × (after_leaf outside rest ≡ 40 ∷ after))
          → by_front to (c ∷ rest) (c ∷ leaf_from outside rest) (after_leaf outside rest) ≡ None
      by_end c rest named (inl unnamed) = unnamed_front to (c ∷ rest) c (leaf_from outside rest) (after_leaf outside rest) (rw (named, unnamed) refl)
      by_end c rest named (inr ends) =
          ap (by_front to (c ∷ rest) (c ∷ leaf_from outside rest)) ends.2 ∙ ap (λ mode. by_front mode (c ∷ rest) (c ∷ leaf_from outside rest) (40 ∷ after)) ends.0
          ∙ leaf_only (c ∷ rest) c (leaf_from outside rest) ends.1

  module _ (text : List ℕ) (low : ℕ) where
    -- the run of bytes of a name that ends at a place in such a name is empty, or begins with a byte of it
    run_named : (n : ℕ) → n ≤ length text → InName to after (drop n text) → (run_start text low n ≡ n) ⊎ Named (drop (run_start text low n) text)
    run_named zero within here = inl refl
    run_named (suc n) within here = cond_both (nat_le low n && is_name_byte (get_or text n 0)) (run_start text low n) (suc n) (λ k. (k ≡ suc n) ⊎ Named (drop k text))
        (λ both. let named = (and_parts (nat_le low n) (is_name_byte (get_or text n 0)) both).1 in inr (further named (run_named n (omega (arith, within)) (in_it named)))) (λ none. inl refl)
      where
        one_more : is_name_byte (get_or text n 0) ≡ true → Named (drop n text)
        one_more named = record {
          first = get_or text n 0;
          rest = drop (suc n) text;
          is = let next : n + 1 ≡ suc n = omega arith in drop_more text n 0 (omega (arith, within)) ∙ ap (λ k. get_or text n 0 ∷ drop k text) next;
          named = named;
          in_name = here;
        }

        in_it : is_name_byte (get_or text n 0) ≡ true → InName to after (drop n text)
        in_it named = subst (InName to after) (sym (one_more named).is) (with_byte (get_or text n 0) (drop (suc n) text) named here)

        further : is_name_byte (get_or text n 0) ≡ true → (run_start text low n ≡ n) ⊎ Named (drop (run_start text low n) text) → Named (drop (run_start text low n) text)
        further named (inl same) = subst (λ k. Named (drop k text)) (sym same) (one_more named)
        further named (inr begun) = begun

-- ---- wherever the value would begin

module _ (to : Mode) (text : List ℕ) (low bracket : ℕ) (within : bracket < length text) where
  abbrev after : List ℕ
  after = drop (bracket + 1) text

  from_bracket : (c : ℕ) → slice_index_or text bracket 0 ≡ c → drop bracket text ≡ c ∷ after
  from_bracket c is = drop_more text bracket 0 within ∙ ap (λ b. b ∷ after) is

  at_bracket : (c : ℕ) → slice_index_or text bracket 0 ≡ c → is_opening c ≡ true → is_without_entries to c after ≡ true → value_from to (drop bracket text) ≡ None
  at_bracket c is opens closed = ap (value_from to) (from_bracket c is) ∙ block_none to c after opens closed

  -- a tuple
  tuple_none : slice_index_or text bracket 0 ≡ 40 → is_without_entries to 40 after ≡ true → (named : Bool) → is_named text (run_start text low bracket) bracket ≡ named
      → value_from to (drop (cond named (run_start text low bracket) bracket) text) ≡ None
  tuple_none is closed false named = at_bracket 40 is refl closed
  tuple_none is closed true named =
      elim (run_named to after text low bracket (omega (arith, within)) (subst (InName to after) (sym (from_bracket 40 is)) (at_parenthesis to after closed))) [
        | inl same ↦ ap (λ k. value_from to (drop k text)) same ∙ at_bracket 40 is refl closed
        | inr begun ↦ named_none to after (drop (run_start text low bracket) text) begun
      ]

  -- no struct
  not_in_struct : (mode : Mode) → is_without_entries mode 123 after ≡ true → is_in_struct mode after ≡ false
  not_in_struct Pretty closed = otherwise after closed
    where
      otherwise : (t : List ℕ) → begins_with 125 t ≡ true → begins_with 32 t ≡ false
      otherwise [] h = refl
      otherwise (c ∷ t) h = grind (arith, nat_tests)
  not_in_struct Plain closed = rw (not_stripped 10 (32 ∷ 32 ∷ 32 ∷ 32 ∷ []) after (not_true (begins_with 10 after) closed)) refl

  -- so a brace begins a map or a set
  abbrev starts : ℕ → ℕ
  starts c = cond (c == 123) (cond (is_after_name text low bracket && is_in_struct to after) (run_start text low (bracket - 1)) bracket)
      (cond (c == 40) (cond (is_named text (run_start text low bracket) bracket) (run_start text low bracket) bracket) bracket)

  by_bracket : (c : ℕ) → slice_index_or text bracket 0 ≡ c → is_opening c ≡ true → is_without_entries to c after ≡ true → value_from to (drop (starts c) text) ≡ None
  by_bracket c is opens closed = each_opening (λ b. slice_index_or text bracket 0 ≡ b → is_without_entries to b after ≡ true → value_from to (drop (starts b) text) ≡ None)
      (λ is closed. tuple_none is closed (is_named text (run_start text low bracket) bracket) refl)
      (λ is closed. at_bracket 91 is refl closed)
      (λ is closed. rw (not_in_struct to closed, and-false (is_after_name text low bracket)) (at_bracket 123 is refl closed)) c opens is closed

  pub none_with_entries : low ≤ bracket → is_opening (slice_index_or text bracket 0) ≡ true → is_without_entries to (slice_index_or text bracket 0) after ≡ true
      → value_from to (drop (value_start to text low bracket) text) ≡ None
  none_with_entries order opens closed = by_bracket (slice_index_or text bracket 0) refl opens closed
