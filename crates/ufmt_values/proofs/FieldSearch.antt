-- The field of a line, from one bracket to the next.
use Rattle.std.proofs.Common.{◌≡◌, inl, inr, ◌∙◌, refl, ap, sym, subst, ℕ, zero, suc, List, ◌++◌, bytes_eq, ◌+◌, ◌-◌, ◌<◌, ◌≤◌, nat_lt, Bool, true, false, cond, Option, Some, None, option_map, drop, take, length, length-append, length-drop, arith}
use Rattle.std.proofs.Math.Seq.{drop-append_seam, take-append_seam}
use Rattle.std.proofs.lemmas.Bool.Decides.{nat_tests}
use Rattle.std.proofs.lemmas.List.{drop-drop}
use Rattle.ufmt.specs.Document.{Document, leaf, joined, list_of, set_of, map_of, struct_of, non_exhaustive_of, tuple_of, pretty_part, Fields, no_fields, first_field}
use Rattle.ufmt.specs.Layout.{setting}
use Rattle.ufmt.specs.Reading.{choose}
use Rattle.ufmt_core.specs.declared.layout.Mode.TheVariants.{Plain, Pretty}
use Rattle.ufmt_grammar.specs.declared.class.Class.{Class}
use Rattle.ufmt_grammar.proofs.ReadingSound.{read_sound}
use Rattle.ufmt_scan.specs.Fronts.{read_front}
use Rattle.ufmt_values.specs.Fields.{Found, IsPlaced, field_at, field_from, field_in, field_with, first_leaf, leaf_of, leaf_start, leaf_text}
use Rattle.ufmt_values.specs.Private.FieldsLeft.{LeafAndRest, after_field, leaf_among, leaf_in}
use Rattle.ufmt_values.specs.Unclosed.{HasNoMore, IsUnclosed}
use Rattle.ufmt_values.specs.Values.{before_bracket, value_in, value_start}
use Rattle.ufmt_values.proofs.FoundValues.{block_entries, block_read}
use Rattle.ufmt_values.proofs.StructTexts.{Shape, StartsAfter, none_or_some, shape_of}
use Rattle.ufmt_values.proofs.Unclosed.{further_unclosed, no_block, start_low}

-- ---- the value at the front of a text

-- it is a struct, of which this is the text, or another value
pub value_shape : (class : Class) (t : List ℕ) (d : Document) (rest : List ℕ) → value_in class Plain t ≡ Some (d, rest) → Shape class d rest t
value_shape class t d rest is =
    let found = read_sound class 255 (setting Plain 0) t d rest (block_read (read_front class Plain t) d rest is) in
    subst (Shape class d rest) (sym found.whole) (shape_of class rest d found.tokens found.nests found.is_normal (block_entries (read_front class Plain t) d rest is))

-- its leaf comes after what is before it in the struct's text
leaf_starts_in : (class : Class) (t : List ℕ) (d : Document) (rest : List ℕ) → value_in class Plain t ≡ Some (d, rest) → (name text after : List ℕ) → leaf_in name d rest ≡ Some (text, after)
    → StartsAfter t (leaf_start name d) text after
leaf_starts_in class t d rest is name text after there = by (value_shape class t d rest is)
  where
    by : Shape class d rest t → StartsAfter t (leaf_start name d) text after
    by (inl h) = h.starts name text after there
    by (inr h) = absurd (none_or_some (sym (h.none name)) there)

-- the leaf is that of the struct, without what follows it
abbrev text_of : Option LeafAndRest → Option (List ℕ)
text_of o = option_map (λ x. x.0) o

first_leaf_of : (name : List ℕ) (fs : Fields) (dots : Bool) (rest : List ℕ) → text_of (leaf_among name fs dots rest) ≡ first_leaf name fs
first_leaf_of name no_fields dots rest = refl
first_leaf_of name (first_field field value fs) dots rest = by_name (bytes_eq field name) (first_leaf_of name fs dots rest)
  where
    by_leaf : (o : Option (List ℕ)) → text_of (option_map {U = LeafAndRest} (λ t. (t, after_field fs dots rest)) o) ≡ o
    by_leaf None = refl
    by_leaf (Some t) = refl

    by_name : (same : Bool) → text_of (leaf_among name fs dots rest) ≡ first_leaf name fs
        → text_of (cond same (option_map {U = LeafAndRest} (λ t. (t, after_field fs dots rest)) (leaf_text value)) (leaf_among name fs dots rest)) ≡ cond same (leaf_text value) (first_leaf name fs)
    by_name true further = by_leaf (leaf_text value)
    by_name false further = further

leaf_of_same : (name : List ℕ) (d : Document) (rest : List ℕ) → text_of (leaf_in name d rest) ≡ leaf_of name d
leaf_of_same name (leaf text) rest = refl
leaf_of_same name (joined ds) rest = refl
leaf_of_same name (list_of ds) rest = refl
leaf_of_same name (set_of ds) rest = refl
leaf_of_same name (map_of ps) rest = refl
leaf_of_same name (struct_of its_name fs) rest = first_leaf_of name fs false rest
leaf_of_same name (non_exhaustive_of its_name fs) rest = first_leaf_of name fs true rest
leaf_of_same name (tuple_of its_name ds) rest = refl
leaf_of_same name (pretty_part d) rest = refl

leaf_of_in : (name : List ℕ) (d : Document) (rest : List ℕ) (o : Option LeafAndRest) → leaf_in name d rest ≡ o → leaf_of name d ≡ text_of o
leaf_of_in name d rest o is = sym (leaf_of_same name d rest) ∙ ap text_of is

-- ---- where a text is in a line

-- it has no more bytes with what follows it than the line
pub leaf_fits : (class : Class) (line : List ℕ) (at : ℕ) (d : Document) (rest : List ℕ) → value_in class Plain (drop at line) ≡ Some (d, rest) → (name text after : List ℕ)
    → Some (text, after) ≡ leaf_in name d rest → length after + length text ≤ length line
leaf_fits class line at d rest is name text after there =
    let starts = leaf_starts_in class (drop at line) d rest is name text after (sym there) in
    omega (arith, length-drop at line, ap length starts.is, length-append starts.front (text ++ after), length-append text after)

-- counted from the line's end, it begins where it begins counted from the front
placed_in : (line : List ℕ) (at size : ℕ) (text after : List ℕ) → at ≤ length line → StartsAfter (drop at line) size text after → (place : ℕ) → place ≡ length line - length after - length text
    → (place ≡ at + size) × IsPlaced line place text
placed_in line at size text after within starts place counted =
    let left = length-drop at line in
    let whole : length (drop at line) ≡ length starts.front + (length text + length after) =
    ap length starts.is ∙ length-append starts.front (text ++ after) ∙ ap (λ n. length starts.front + n) (length-append text after) in
    let same : place ≡ at + size = omega (arith, within, left, whole, counted, starts.size_is) in
    let seam : drop place line ≡ text ++ after =
    ap (λ k. drop k line) (same ∙ ap (λ n. at + n) (sym starts.size_is)) ∙ sym (drop-drop (length starts.front) at line) ∙ ap (drop (length starts.front)) starts.is
    ∙ drop-append_seam starts.front (text ++ after) in (
      same,
      record { within = omega (arith, within, left, whole, same, starts.size_is); is = sym (ap (take (length text)) seam ∙ take-append_seam text after) },
    )

-- ---- from one bracket to the next

module _ (class : Class) (name line : List ℕ) (at : ℕ) where
  -- the next bracket decides
  at_bracket : (n bracket : ℕ) → bracket ≡ at + before_bracket (drop at line) → bracket < length line
      → field_from class name (suc n) line at ≡ field_with class name (field_from class name n line) line bracket (value_start Pretty line at bracket)
  unfolding field_from
  at_bracket n bracket next within =
      let less : nat_lt bracket (length line) ≡ true = grind (arith, nat_tests) in
      ap (field_at class name (field_from class name n line) line at) (sym next)
      ∙ ap (λ b. cond b (field_with class name (field_from class name n line) line bracket (value_start Pretty line at bracket)) None) less

  -- one of no value is passed
  pub bracket_passed : (n bracket : ℕ) → bracket ≡ at + before_bracket (drop at line) → bracket < length line → value_in class Plain (drop (value_start Pretty line at bracket) line) ≡ None
      → field_from class name (suc n) line at ≡ field_from class name n line (bracket + 1)
  bracket_passed n bracket next within none =
      at_bracket n bracket next within ∙ ap (field_in name (field_from class name n line) line bracket (value_start Pretty line at bracket)) none

  -- a value has the field, or the rest after it
  pub value_decides : (n bracket start size : ℕ) (d : Document) → bracket ≡ at + before_bracket (drop at line) → bracket < length line → start ≡ value_start Pretty line at bracket
      → start ≤ length line → size ≤ length (drop start line) → value_in class Plain (drop start line) ≡ Some (d, drop size (drop start line))
      → field_from class name (suc n) line at ≡ choose (leaf_of name d) (λ text. Some (start + leaf_start name d, text)) (field_from class name n line (start + size))
  value_decides n bracket start size d next within is inside fits some =
      let from_start = length-drop start line in
      let left = length-drop size (drop start line) in
      let end : length line - length (drop size (drop start line)) ≡ start + size = omega (arith, fits, inside, from_start, left) in
      at_bracket n bracket next within ∙ ap (field_with class name (field_from class name n line) line bracket) (sym is)
      ∙ ap (field_in name (field_from class name n line) line bracket start) some
      ∙ ap (λ k. choose (leaf_of name d) (λ text. Some (start + leaf_start name d, text)) (field_from class name n line k)) end

  module _ (n bracket start size : ℕ) (d : Document) (next : bracket ≡ at + before_bracket (drop at line)) (within : bracket < length line) (is : start ≡ value_start Pretty line at bracket)
      (inside : start ≤ length line) (fits : size ≤ length (drop start line)) (some : value_in class Plain (drop start line) ≡ Some (d, drop size (drop start line))) where
    decided : (o : Option (List ℕ)) → leaf_of name d ≡ o → field_from class name (suc n) line at ≡ choose o (λ text. Some (start + leaf_start name d, text)) (field_from class name n line (start + size))
    decided o there =
        value_decides n bracket start size d next within is inside fits some ∙ ap (λ o. choose o (λ text. Some (start + leaf_start name d, text)) (field_from class name n line (start + size))) there

    pub value_has : (text after : List ℕ) → Some (text, after) ≡ leaf_in name d (drop size (drop start line)) → (place : ℕ) → place ≡ length line - length after - length text
        → IsPlaced line place text × (field_from class name (suc n) line at ≡ Some (place, text))
    value_has text after there place counted =
        let starts = leaf_starts_in class (drop start line) d (drop size (drop start line)) some name text after (sym there) in
        let placed = placed_in line start (leaf_start name d) text after inside starts place counted in (
          placed.1,
          decided (Some text) (leaf_of_in name d (drop size (drop start line)) (Some (text, after)) (sym there)) ∙ ap (λ k. Some (k, text)) (sym placed.0),
        )

    pub value_has_none : None ≡ leaf_in name d (drop size (drop start line)) → field_from class name (suc n) line at ≡ field_from class name n line (start + size)
    value_has_none none = decided None (leaf_of_in name d (drop size (drop start line)) None (sym none))

  -- no bracket is left
  none_left : (n : ℕ) → length line ≤ at + before_bracket (drop at line) → field_from class name n line at ≡ None
  unfolding field_from
  none_left zero none = refl
  none_left (suc n) none =
      let b = at + before_bracket (drop at line) in
      let more : nat_lt b (length line) ≡ false = grind (arith, nat_tests) in
      ap (λ t. cond t (field_with class name (field_from class name n line) line b (value_start Pretty line at b)) None) more

  -- one bracket less is left
  pub looked_further : (place : ℕ) (whole : Option Found) → at < length line → at < place → (n : ℕ) × (length line - at ≤ n) × (whole ≡ field_from class name n line at)
      → ((n : ℕ) → field_from class name (suc n) line at ≡ field_from class name n line place) → (n : ℕ) × (length line - place ≤ n) × (whole ≡ field_from class name n line place)
  looked_further place whole within more (zero, room, is) step = absurd (omega (arith, room, within))
  looked_further place whole within more (suc n, room, is) step = (n, omega (arith, room, more), is ∙ step n)

  -- it was found
  pub found_here : (whole : Option Found) (found : Found) → at < length line → (n : ℕ) × (length line - at ≤ n) × (whole ≡ field_from class name n line at)
      → ((n : ℕ) → field_from class name (suc n) line at ≡ Some found) → whole ≡ Some found
  found_here whole found within (zero, room, is) step = absurd (omega (arith, room, within))
  found_here whole found within (suc n, room, is) step = is ∙ step n

-- no closing bracket is left
unclosed_none : (class : Class) (name line : List ℕ) (n at : ℕ) → IsUnclosed (drop at line) → field_from class name n line at ≡ None
unfolding field_from
unclosed_none class name line zero at none = refl
unclosed_none class name line (suc n) at none =
    let b = at + before_bracket (drop at line) in
    let order : at ≤ b = omega arith in
    let start = value_start Pretty line at b in
    let there = no_block class Plain (drop start line) (further_unclosed line at start (start_low Pretty line at b order) none) in
    all_none (nat_lt b (length line)) (ap (field_in name (field_from class name n line) line b start) there ∙ unclosed_none class name line n (b + 1) (further_unclosed line at (b + 1) (omega arith) none))
  where
    all_none : (less : Bool) {o : Option Found} → o ≡ None → cond less o None ≡ None
    all_none less none = rw none (grind arith)

pub no_more_none : (class : Class) (name line : List ℕ) (n at : ℕ) → HasNoMore line at → field_from class name n line at ≡ None
no_more_none class name line n at (inl none) = none_left class name line at n none
no_more_none class name line n at (inr none) = unclosed_none class name line n at none

-- a value ends in the line
pub value_within : (line : List ℕ) (start size : ℕ) → start ≤ length line → size ≤ length (drop start line) → start + size ≤ length line
value_within line start size inside fits = let left = length-drop start line in omega (arith, inside, fits, left)
