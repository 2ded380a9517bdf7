-- A text without a closing bracket has no value.
use Rattle.std.proofs.Common.{◌≡◌, inl, ◌∙◌, refl, ap, sym, subst, ℕ, zero, suc, ◌+◌, ◌-◌, ◌≤◌, ◌||◌, not, Bool, true, false, List, [], ◌∷◌, ◌++◌, Some, None, option_and_then, drop, length, codes, arith}
use Rattle.std.proofs.lemmas.Bool.Decides.{nat_tests}
use Rattle.std.proofs.lemmas.Bool.{or_parts, true≢false}
use Rattle.std.proofs.lemmas.List.{drop-drop}
use Rattle.std.proofs.lemmas.List.Elements.{All-head, All-tail}
use Rattle.std.specs.List.{All, suffix_len}
use Rattle.ufmt.specs.Document.{Document, leaf, joined, list_of, set_of, map_of, struct_of, non_exhaustive_of, tuple_of, pretty_part, no_documents, first_document, no_pairs, first_pair, no_fields, first_field}
use Rattle.ufmt.specs.Layout.{block_tail, block_text, count_after, dots_ending, dots_line, ending, frame, framed_all, if_any, inside, layout, lead, line_start, next, setting, trail, tuple_kind, texts, pair_texts, field_texts}
use Rattle.ufmt_core.specs.declared.layout.Count.{Count}
use Rattle.ufmt_core.specs.declared.layout.Count.TheVariants.{Zero, One, Several}
use Rattle.ufmt_core.specs.declared.layout.Kind.{Kind}
use Rattle.ufmt_core.specs.declared.layout.Kind.TheVariants.{Brackets, Braces, Struct, Tuple, Unnamed}
use Rattle.ufmt_core.specs.declared.layout.Mode.{Mode}
use Rattle.ufmt_core.specs.declared.layout.Mode.TheVariants.{Plain, Pretty}
use Rattle.ufmt_core.specs.declared.layout.Setting.{Setting}
use Rattle.ufmt_grammar.specs.declared.class.Class.{Class}
use Rattle.ufmt_grammar.specs.declared.class.Class.TheVariants.{Debug}
use Rattle.ufmt_grammar.proofs.ReadingSound.{read_sound}
use Rattle.ufmt_values.specs.Unclosed.{HasNoMore, IsUnclosed, has_closing, is_closing}
use Rattle.ufmt_values.specs.Values.{if_entries, run_start, value_from, value_start}
use Rattle.ufmt_values.proofs.FoundValues.{block_entries, block_read, none_unless}
use Rattle.ufmt_scan.specs.Fronts.{has_entries, read_front}
use Rattle.ufmt_scan.specs.Texts.{other_mode}
use Rattle.ufmt_values.proofs.Searches.{last_end, rest_has_none}

-- ---- where closing brackets are

or-true : (b : Bool) → b || true ≡ true
or-true true = refl
or-true false = refl

closing_after : (a b : List ℕ) → has_closing b ≡ true → has_closing (a ++ b) ≡ true
closing_after [] b h = h
closing_after (c ∷ a) b h = ap (λ x. is_closing c || x) (closing_after a b h) ∙ or-true (is_closing c)

closing_before : (a b : List ℕ) → has_closing a ≡ true → has_closing (a ++ b) ≡ true
closing_before [] b h = absurd (cc)
closing_before (c ∷ a) b h = grind (arith, closing_before a b)

-- what is left of a text without a closing bracket has none
rest_unclosed : (k : ℕ) (t : List ℕ) → IsUnclosed t → IsUnclosed (drop k t)
rest_unclosed zero t h = h
rest_unclosed (suc k) [] h = h
rest_unclosed (suc k) (c ∷ t) h = rest_unclosed k t (or_parts (is_closing c) (has_closing t) h).1

-- bytes that aren't closing brackets are such a text
none_close : (t : List ℕ) → All (λ c. is_closing c ≡ false) t → IsUnclosed t
none_close [] none = refl
none_close (c ∷ t) none =
    ap (λ x. x || has_closing t) (All-head (λ c. is_closing c ≡ false) c t none) ∙ none_close t (All-tail (λ c. is_closing c ≡ false) c t none)

-- so is what follows the last closing bracket
pub past_last : (t : List ℕ) (end : ℕ) → end ≡ length t - suffix_len (λ c. not (is_closing c)) t → IsUnclosed (drop end t)
past_last t end is = rw is (none_close (drop (last_end is_closing t) t) (rest_has_none is_closing t))

-- ---- the text of a block with entries has a closing bracket

closes : (mode : Mode) (kind : Kind) (count : Count) → has_closing ((frame mode kind).closing (next count)) ≡ true
closes mode Brackets count = refl
closes mode Braces count = refl
closes Plain Struct Zero = refl
closes Plain Struct One = refl
closes Plain Struct Several = refl
closes Pretty Struct Zero = refl
closes Pretty Struct One = refl
closes Pretty Struct Several = refl
closes mode Tuple Zero = refl
closes mode Tuple One = refl
closes mode Tuple Several = refl
closes Plain Unnamed Zero = refl
closes Plain Unnamed One = refl
closes Plain Unnamed Several = refl
closes Pretty Unnamed Zero = refl
closes Pretty Unnamed One = refl
closes Pretty Unnamed Several = refl

module _ (s : Setting) where
  ending_closes : (kind : Kind) (count : Count) → has_closing (ending (frame s.mode kind) s (next count)) ≡ true
  ending_closes kind count = closing_after (if_any (next count) (line_start s.mode s.depth)) ((frame s.mode kind).closing (next count)) (closes s.mode kind count)

  module _ (kind : Kind) where
    abbrev tail : Count → List (List ℕ) → List ℕ
    tail count ts = block_tail (frame s.mode kind) s count ts

    -- what follows the lead of an entry has one, if what is left of the block has one
    entry_closes : (t left : List ℕ) → has_closing left ≡ true → has_closing (t ++ (trail s.mode ++ left)) ≡ true
    entry_closes t left h = closing_after t (trail s.mode ++ left) (closing_after (trail s.mode) left h)

    tail_closes : (count : Count) (ts : List (List ℕ)) → has_closing (tail (next count) ts) ≡ true
    tail_closes count [] = ending_closes kind count
    tail_closes count (t ∷ ts) = closing_after (lead (frame s.mode kind) (inside s) (next count)) (t ++ (trail s.mode ++ tail (next (next count)) ts))
        (entry_closes t (tail (next (next count)) ts) (tail_closes (next count) ts))

    block_closes : (name t : List ℕ) (ts : List (List ℕ)) → has_closing (block_text kind s name (t ∷ ts)) ≡ true
    block_closes name t ts =
        let entries = t ++ (trail s.mode ++ tail One ts) in
        let led = lead (frame s.mode kind) (inside s) Zero ++ entries in
        closing_after name ((frame s.mode kind).opening ++ led) (closing_after ((frame s.mode kind).opening) led
        (closing_after (lead (frame s.mode kind) (inside s) Zero) entries (entry_closes t (tail One ts) (tail_closes Zero ts))))

  dots_close : (count : Count) → has_closing (dots_ending s count) ≡ true
  dots_close Zero = refl
  dots_close One = closing_after (dots_line s.mode (inside s).depth) (ending (frame s.mode Struct) s One) (ending_closes Struct Zero)
  dots_close Several = closing_after (dots_line s.mode (inside s).depth) (ending (frame s.mode Struct) s One) (ending_closes Struct Zero)

  pub entries_close : (d : Document) → has_entries d ≡ true → has_closing (layout s d) ≡ true
  entries_close (leaf text) h = absurd (cc)
  entries_close (joined ds) h = absurd (cc)
  entries_close (list_of no_documents) h = absurd (cc)
  entries_close (list_of (first_document d ds)) h = block_closes Brackets [] (layout (inside s) d) (texts (inside s) ds)
  entries_close (set_of no_documents) h = absurd (cc)
  entries_close (set_of (first_document d ds)) h = block_closes Braces [] (layout (inside s) d) (texts (inside s) ds)
  entries_close (map_of no_pairs) h = absurd (cc)
  entries_close (map_of (first_pair key value ps)) h = block_closes Braces [] (layout (inside s) key ++ (codes ": " ++ layout (inside s) value)) (pair_texts (inside s) ps)
  entries_close (struct_of name no_fields) h = absurd (cc)
  entries_close (struct_of name (first_field field value fs)) h = block_closes Struct name (field ++ (codes ": " ++ layout (inside s) value)) (field_texts (inside s) fs)
  entries_close (non_exhaustive_of name fs) h =
      let shown = framed_all (frame s.mode Struct) (inside s) Zero (field_texts (inside s) fs) in
      let dots = dots_ending s (count_after Zero (field_texts (inside s) fs)) in
      closing_after name (shown ++ dots) (closing_after shown dots (dots_close (count_after Zero (field_texts (inside s) fs))))
  entries_close (tuple_of name no_documents) h = absurd (cc)
  entries_close (tuple_of name (first_document d ds)) h = block_closes (tuple_kind name) name (layout (inside s) d) (texts (inside s) ds)
  entries_close (pretty_part d) h = absurd (cc)

-- so no block with entries is at the front of a text without a closing bracket
pub no_block : (class : Class) (mode : Mode) (t : List ℕ) → IsUnclosed t → option_and_then if_entries (read_front class mode t) ≡ None
no_block class mode t none = none_unless (option_and_then if_entries (read_front class mode t)) (λ x is. true≢false (sym (closed x.0 x.1 is) ∙ none))
  where
    closed : (d : Document) (u : List ℕ) → option_and_then if_entries (read_front class mode t) ≡ Some (d, u) → has_closing t ≡ true
    closed d u is =
        let found = read_sound class 255 (setting mode 0) t d u (block_read (read_front class mode t) d u is) in
        ap has_closing found.whole ∙ closing_before (layout (setting mode 0) d) u (entries_close (setting mode 0) d (block_entries (read_front class mode t) d u is))

pub no_value : (to : Mode) (t : List ℕ) → IsUnclosed t → value_from to t ≡ None
no_value to t none = no_block Debug (other_mode to) t none

-- ---- where a text has no closing bracket any more, no value begins

run_low : (text : List ℕ) (low n : ℕ) → low ≤ n → low ≤ run_start text low n
run_low text low zero h = h
run_low text low (suc n) h = grind (arith, nat_tests, run_low text low n)

pub further_unclosed : (text : List ℕ) (at k : ℕ) → at ≤ k → IsUnclosed (drop at text) → IsUnclosed (drop k text)
further_unclosed text at k order h =
    let same : at + (k - at) ≡ k = omega (arith, order) in
    subst IsUnclosed (drop-drop (k - at) at text ∙ ap (λ i. drop i text) same) (rest_unclosed (k - at) (drop at text) h)

module _ (to : Mode) (text : List ℕ) (at b : ℕ) (order : at ≤ b) where
  pub start_low : at ≤ value_start to text at b
  start_low = grind (arith, nat_tests, run_low text at b, run_low text at (b - 1))

-- no value begins at the end of a text
pub none_at_end : (text : List ℕ) (at : ℕ) → length text ≤ at → HasNoMore text at
none_at_end text at past = inl (omega (arith, past))
