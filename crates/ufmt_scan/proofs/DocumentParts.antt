-- The events of documents, pairs and fields, by how they begin.
use Rattle.std.proofs.Common.{◌≡◌, ◌≢◌, refl, ap, ◌∙◌, sym, ℕ, zero, suc, ◌<◌, ◌≤◌, ◌==◌, cond, Bool, true, false, List, [], ◌∷◌, ◌++◌, length, length-append, eqb-true, map, Option, Some, None, option_and_then, codes, subst, Bor, Result, Ok, Err, arith}
use Rattle.std.proofs.lemmas.Bool.Decides.{nat_tests}
use Rattle.ufmt_core.specs.Document.{Document, leaf, list_of, set_of, map_of, tuple_of, no_documents, no_pairs, Documents, first_document, documents, pairs_of, fields_of}
use Rattle.ufmt_core.specs.declared.layout.Setting.{Setting}
use Rattle.ufmt_core.specs.declared.layout.Kind.{Kind}
use Rattle.ufmt_core.specs.declared.layout.Kind.TheVariants.{Brackets, Braces, Struct, Tuple, Unnamed}
use Rattle.ufmt_core.specs.declared.layout.Count.TheVariants.{Zero, One, Several}
use Rattle.ufmt_core.specs.Layout.{frame, inside, lead}
use Rattle.ufmt_grammar.specs.declared.class.Class.{Class}
use Rattle.ufmt_grammar.specs.Token.{IsWordOrEmpty}
use Rattle.ufmt_grammar.proofs.ReadingWords.{word_of_bytes}
use Rattle.ufmt_grammar.specs.declared.class.Class.TheVariants.{Token, Debug}
use Rattle.ufmt_grammar.specs.ReadingQuoted.{read_quoted}
use Rattle.ufmt_grammar.specs.Reading.{Parse, choose, no_dots, last_dots, strip_dots, strip_only_dots, map_with, struct_with, parse_map, strip, word_of, front_of, after_front, is_whole, is_name, read_after_first, read_quotes, read_symbol, read_name, read_value, read_list, read_braces, read_map_or_set, read_named, read_without_name, read_by_front, read}
use Rattle.ufmt_grammar.proofs.Parsing.{strip_found}
use Rattle.ufmt_grammar.proofs.ReadingTurns.{Takes, read_name_takes, strip_within}
use Rattle.ufmt_grammar.proofs.ClassLeaves.{fronts_whole, leaf_begins, nothing_is_whole, symbol_is_leaf}
use Rattle.ufmt_scan.specs.declared.front.Front.{Front}
use Rattle.ufmt_scan.specs.Private.Fronts.{IsSplit}
use Rattle.ufmt_scan.specs.declared.scan.step.Stage.TheVariants as stages
use Rattle.ufmt_scan.specs.Scan.{TextEvent, events_of, events_of_entries, events_of_fields, events_of_pairs, tail_events, ScanError, Colon, Empty, FieldName, Leaf, OnlyDots, Open}
use Rattle.ufmt_scan.specs.Private.Level.{budget_of, entry_at, entry_of, setting_at, Level}
use Rattle.ufmt_scan.specs.Private.Scanning.{Steps, Stops, Emits, Scanned, after, scan_block, scan_front, entries, fields, kind_of, later, scan_opened, pairs, prefixed, scan_rest, scan_stage, then_scan, turn_of, scan_turn, scan_value, Stage}
use Rattle.ufmt_scan.proofs.EntrySteps.{entry_of_takes, field_takes, pair_takes}
use Rattle.ufmt_scan.proofs.ScanTurns.{block_scans, prefixed_twice}

-- the events of a list of entries, pairs or fields are those of each
events_of_entries-documents : (ds : List Document) → events_of_entries (documents ds) ≡ map events_of ds
events_of_entries-documents [] = refl
events_of_entries-documents (d ∷ ds) = ap (λ es. events_of d ∷ es) (events_of_entries-documents ds)

events_of_pairs-pairs_of : (level : Level) (ps : List (Document × Document)) → events_of_pairs (pairs_of ps) ≡ map (pairs level).events ps
events_of_pairs-pairs_of level [] = refl
events_of_pairs-pairs_of level (p ∷ ps) = ap (λ es. (pairs level).events p ∷ es) (events_of_pairs-pairs_of level ps)

events_of_fields-fields_of : (level : Level) (fs : List (List ℕ × Document)) → events_of_fields (fields_of fs) ≡ map (fields level).events fs
events_of_fields-fields_of level [] = refl
events_of_fields-fields_of level (f ∷ fs) = ap (λ es. (fields level).events f ∷ es) (events_of_fields-fields_of level fs)

module _ (level : Level) where
  -- the events of a list, a set or a tuple, from its first entry on
  entries_scan : (kind : Kind) (name : List ℕ) (make : Documents → Document)
      → ((d : Document) (ds : Documents) → events_of (make (first_document d ds)) ≡ Open kind name ∷ (events_of d ++ tail_events kind One false (events_of_entries ds)))
      → (o : Option (Document × List ℕ))
      → parse_map events_of (option_and_then (λ x. read_after_first (entry_of level) no_dots (frame level.mode kind) (setting_at level) (λ left. make
      (documents left.0)) x.0 x.1) o)
      ≡ prefixed (Open kind name ∷ []) (then_scan (parse_map events_of o) (scan_rest (entries level) level kind One))
  entries_scan kind name make shape = block_scans (entries level) level kind (λ left. make (documents left.0)) (Open kind name)
      (λ d left. shape d (documents left.0) ∙ ap (λ ess. Open kind name ∷ (events_of d ++ tail_events kind One false ess)) (events_of_entries-documents left.0))

  -- the events of a tuple or struct with a name, from its first field on
  pub tuple_scans : (w t r : List ℕ) → w ≢ [] → strip (lead (frame level.mode Tuple) (inside (setting_at level)) Zero) t ≡ Some r
      → parse_map events_of (read_named level.class (setting_at level) (entry_of level) w t) ≡ scan_opened level Tuple w r
  tuple_scans [] t r word opening = absurd (word refl)
  tuple_scans (c ∷ w) t r word opening = rw opening (entries_scan Tuple (c ∷ w) (tuple_of (c ∷ w)) (λ d ds. refl) (entry_of level r))

  -- the events of a struct with this name, whichever its end
  struct_shape : (w : List ℕ) (f : List ℕ × Document) (fs : List (List ℕ × Document)) (b : Bool)
      → events_of (struct_with w (f ∷ fs, b)) ≡ Open Struct w ∷ ((fields level).events f ++ tail_events Struct One b (map (fields level).events fs))
  struct_shape w f fs true = ap (λ ess. Open Struct w ∷ ((fields level).events f ++ tail_events Struct One true ess)) (events_of_fields-fields_of level fs)
  struct_shape w f fs false = ap (λ ess. Open Struct w ∷ ((fields level).events f ++ tail_events Struct One false ess)) (events_of_fields-fields_of level fs)

  pub struct_scans : (w t r : List ℕ) → w ≢ [] → strip (lead (frame level.mode Tuple) (inside (setting_at level)) Zero) t ≡ None
      → strip_only_dots level.class t ≡ None → strip (lead (frame level.mode Struct) (inside (setting_at level)) Zero) t ≡ Some r
      → parse_map events_of (read_named level.class (setting_at level) (entry_of level) w t) ≡ scan_opened level Struct w r
  struct_scans [] t r word tuple dots opening = absurd (word refl)
  struct_scans (c ∷ w) t r word tuple dots opening = rw (tuple, dots, opening) (block_scans (fields level) level Struct (struct_with (c ∷ w))
      (Open Struct (c ∷ w)) (λ f left. struct_shape (c ∷ w) f left.0 left.1) ((fields level).read r))

  -- a struct of which no field is shown is one event
  pub only_dots_scans : (w t r : List ℕ) → w ≢ [] → strip (lead (frame level.mode Tuple) (inside (setting_at level)) Zero) t ≡ None
      → strip_only_dots level.class t ≡ Some r
      → parse_map events_of (read_named level.class (setting_at level) (entry_of level) w t) ≡ Some (OnlyDots w ∷ [], r)
  only_dots_scans [] t r word tuple dots = absurd (word refl)
  only_dots_scans (c ∷ w) t r word tuple dots = rw (tuple, dots) refl

  pub name_scans : (w t : List ℕ) → w ≢ [] → strip (lead (frame level.mode Tuple) (inside (setting_at level)) Zero) t ≡ None
      → strip_only_dots level.class t ≡ None → strip (lead (frame level.mode Struct) (inside (setting_at level)) Zero) t ≡ None
      → parse_map events_of (read_named level.class (setting_at level) (entry_of level) w t) ≡ Some (Leaf w ∷ [], t)
  name_scans [] t word tuple dots struct = absurd (word refl)
  name_scans (c ∷ w) t word tuple dots struct = rw (tuple, dots, struct) refl

  -- the events of a tuple without a name
  pub unnamed_scans : (t r : List ℕ) → strip (codes "[") t ≡ None → strip (codes "{") t ≡ None → read_symbol level.class t ≡ None
      → strip (lead (frame level.mode Unnamed) (inside (setting_at level)) Zero) t ≡ Some r
      → parse_map events_of (read_without_name level.class (setting_at level) (entry_of level) t) ≡ scan_opened level Unnamed [] r
  unnamed_scans t r bracket brace symbol opening = rw (bracket, brace, symbol, opening) (entries_scan Unnamed [] (tuple_of []) (λ d ds. refl)
      (entry_of level r))

  -- the events of a list, a set or a map, after its bracket
  block_opens : (kind : Kind) (empty : Document) (q : Parse Document) → events_of empty ≡ Empty kind ∷ []
      → ((u : List ℕ) → parse_map events_of (q u) ≡ scan_opened level kind [] u) → (ends opens : Option (List ℕ))
      → parse_map events_of (choose ends (λ u. Some (empty, u)) (option_and_then q opens))
      ≡ choose ends (λ u. Some (Empty kind ∷ [], u)) (option_and_then (scan_opened level kind []) opens)
  block_opens kind empty q none some None None = refl
  block_opens kind empty q none some None (Some u) = some u
  block_opens kind empty q none some (Some u) opens = ap (λ es. Some (es, u)) none

  pub list_scans : (t : List ℕ) → parse_map events_of (read_list (setting_at level) (entry_of level) t) ≡ scan_block level Brackets t
  list_scans t = block_opens Brackets (list_of no_documents) _ refl (λ u. entries_scan Brackets [] list_of (λ d ds. refl) (entry_of level u)) _ _

  -- the events of a pair are those of its key, a colon and those of its value
  value_scans : (key : Document) (o : Option (Document × List ℕ)) (more : Parse (List TextEvent))
      → then_scan (parse_map (pairs level).events (parse_map (λ value. (key, value)) o)) more
      ≡ prefixed (events_of key) (prefixed (Colon ∷ []) (then_scan (parse_map events_of o) more))
  value_scans key None more = refl
  value_scans key (Some x) more =
      sym (ap (prefixed (events_of key)) (prefixed_twice (Colon ∷ []) (events_of x.0) (more x.1))
      ∙ prefixed_twice (events_of key) (Colon ∷ events_of x.0) (more x.1))

  -- the events of a set or a map, from its first entry on
  first_scans : (o : Option (Document × List ℕ)) → parse_map events_of (option_and_then (λ x. read_map_or_set (setting_at level) (entry_of level) x.0 x.1) o)
      ≡ prefixed (Open Braces [] ∷ []) (then_scan (parse_map events_of o) (scan_stage level stages.BracesFirst))
  first_scans None = refl
  first_scans (Some x) = by_colon (strip (codes ": ") x.1) refl
    where
      by_colon : (o : Option (List ℕ)) → strip (codes ": ") x.1 ≡ o → parse_map events_of (read_map_or_set (setting_at level) (entry_of level) x.0 x.1)
          ≡ prefixed (Open Braces [] ∷ []) (prefixed (events_of x.0) (choose o (scan_value level Zero) (scan_rest (entries level) level Braces One x.1)))
      by_colon None colon = rw colon (entries_scan Braces [] set_of (λ d ds. refl) (Some x))
      by_colon (Some u) colon = rw colon (block_scans (pairs level) level Braces map_with (Open Braces [])
          (λ q left. ap (λ ess. Open Braces [] ∷ ((pairs level).events q ++ tail_events Braces One false ess)) (events_of_pairs-pairs_of level left.0)) (parse_map (λ value.
          (x.0, value)) (entry_of level u))
          ∙ ap (prefixed (Open Braces [] ∷ [])) (value_scans x.0 (entry_of level u) (scan_rest (pairs level) level Braces One)))

  pub braces_scans : (t : List ℕ) → parse_map events_of (read_braces (setting_at level) (entry_of level) t) ≡ scan_block level Braces t
  braces_scans t = block_opens Braces (map_of no_pairs) _ refl (λ u. first_scans (entry_of level u)) _ _

  pair_scans : (t : List ℕ) → after level (Some stages.KeyLater) t ≡ then_scan (scan_turn (pairs level) t) (scan_rest (pairs level) level Braces Several)
  pair_scans t = by_key (entry_of level t)
    where
      by_colon : (key : Document) (o : Option (List ℕ)) → prefixed (events_of key) (option_and_then (scan_value level Several) o)
          ≡ then_scan (parse_map (pairs level).events (option_and_then (λ u. parse_map (λ value. (key, value)) (entry_of level u)) o)) (scan_rest
          (pairs level) level Braces Several)
      by_colon key None = refl
      by_colon key (Some u) = sym (value_scans key (entry_of level u) (scan_rest (pairs level) level Braces Several))

      by_key : (o : Option (Document × List ℕ)) → then_scan (parse_map events_of o) (scan_stage level stages.KeyLater)
          ≡ then_scan (parse_map (pairs level).events (option_and_then (λ x. read_value (entry_of level) x.0 x.1) o)) (scan_rest
          (pairs level) level Braces Several)
      by_key None = refl
      by_key (Some x) = by_colon x.0 (strip (codes ": ") x.1)

-- each entry, pair or field of a block takes at least a byte
pub turn_takes : (level : Level) (stage : Stage) → Takes (turn_of level stage).read
turn_takes level stages.KeyLater = pair_takes level
turn_takes level stages.ValueFirst = pair_takes level
turn_takes level stages.ValueLater = pair_takes level
turn_takes level stages.FieldFirst = field_takes level
turn_takes level stages.FieldLater = field_takes level
turn_takes level _ = entry_of_takes level

-- only a block that may end in dots has them
pub turn_dots : (level : Level) (stage : Stage) (t u : List ℕ) → (turn_of level stage).dots t ≡ Some u → (turn_of level stage).in_dots ≡ true
turn_dots level stages.KeyLater t u h = absurd (cc)
turn_dots level stages.ValueFirst t u h = absurd (cc)
turn_dots level stages.ValueLater t u h = absurd (cc)
turn_dots level stages.FieldFirst t u h = refl
turn_dots level stages.FieldLater t u h = refl
turn_dots level _ t u h = absurd (cc)

strip_dots_within : (class : Class) (s : Setting) (t u : List ℕ) → strip_dots class s t ≡ Some u → length u ≤ length t
strip_dots_within Token s t u h = absurd (cc)
strip_dots_within Debug s t u h = strip_within (last_dots s) t u h

-- a text does not get longer when dots are stripped from it
pub turn_dots_within : (level : Level) (stage : Stage) (t u : List ℕ) → (turn_of level stage).dots t ≡ Some u → length u ≤ length t
turn_dots_within level stages.KeyLater t u h = absurd (cc)
turn_dots_within level stages.ValueFirst t u h = absurd (cc)
turn_dots_within level stages.ValueLater t u h = absurd (cc)
turn_dots_within level stages.FieldFirst t u h = strip_dots_within level.class (setting_at level) t u h
turn_dots_within level stages.FieldLater t u h = strip_dots_within level.class (setting_at level) t u h
turn_dots_within level _ t u h = absurd (cc)

pub only_dots_within : (class : Class) (t u : List ℕ) → strip_only_dots class t ≡ Some u → length u ≤ length t
only_dots_within Token t u h = absurd (cc)
only_dots_within Debug t u h = strip_within (codes " { .. }") t u h

-- after an entry, a block continues at the stage of the next entry
pub later_continues : (level : Level) (stage : Stage) (t : List ℕ)
    → after level (Some (later stage)) t ≡ then_scan (scan_turn (turn_of level stage) t) (scan_rest (turn_of level stage) level (kind_of stage) Several)
later_continues level stages.ListFirst t = refl
later_continues level stages.ListLater t = refl
later_continues level stages.BracesFirst t = refl
later_continues level stages.SetLater t = refl
later_continues level stages.KeyLater t = pair_scans level t
later_continues level stages.ValueFirst t = pair_scans level t
later_continues level stages.ValueLater t = pair_scans level t
later_continues level stages.FieldFirst t = refl
later_continues level stages.FieldLater t = refl
later_continues level stages.TupleFirst t = refl
later_continues level stages.TupleLater t = refl
later_continues level stages.UnnamedFirst t = refl
later_continues level stages.UnnamedLater t = refl

-- a leaf that begins as no name does and isn't `()` is in quotes
pub symbol_is_quoted : (class : Class) (t : List ℕ) (o : Option (List ℕ × List ℕ)) → strip (codes "()") t ≡ None → o ≡ read_quotes class t
    → read_symbol class t ≡ o
symbol_is_quoted class t o none is = rw none (sym is)

pub opens_no_quote : (class : Class) (text t r : List ℕ) → strip (40 ∷ text) t ≡ Some r → read_quotes class t ≡ None
unfolding read_quoted
opens_no_quote Token text t r opening = rw (strip_found (40 ∷ text) t r opening) refl
opens_no_quote Debug text t r opening = refl

-- such a leaf is one event
pub symbol_scans : (level : Level) (t text r : List ℕ) → strip (codes "[") t ≡ None → strip (codes "{") t ≡ None → read_symbol level.class t ≡ Some (text, r)
    → (parse_map events_of (read_without_name level.class (setting_at level) (entry_of level) t) ≡ Some (Leaf text ∷ [], r)) × (length r < length t)
symbol_scans level t text r bracket brace symbol =
    let sound = symbol_is_leaf level.class t text r symbol in
    let begins = leaf_begins level.class text sound.0 in
    (rw (bracket, brace, symbol) refl, omega (arith, ap length sound.1, length-append text r, ap length begins.is))

-- a document is read by the leaf at its front, if there is one
read_is : (class : Class) (s : Setting) (n : ℕ) (t : List ℕ) → read class s n t ≡ read_by_front class s (entry_at class s n) t (front_of class t) (after_front class t)
unfolding read
read_is class s zero t = refl
read_is class s (suc n) t = refl

module _ (level : Level) (t : List ℕ) where
  abbrev reading : Parse Document
  reading u = read level.class (setting_at level) (budget_of level) u

  -- a front that isn't whole is not read
  pub no_front : is_whole level.class (front_of level.class t) ≡ false → reading t ≡ None
  no_front broken = read_is level.class (setting_at level) (budget_of level) t
      ∙ (elim (front_of level.class t) as (λ w. is_whole level.class w ≡ false → read_by_front level.class (setting_at level) (entry_of level) t w (after_front level.class t) ≡ None) [
        | [] ↦ λ none. let whole = nothing_is_whole level.class in absurd (cc)
        | c ∷ w ↦ λ none. rw none refl
      ]) broken

  -- a text with a leaf at its front is read by it, and another text by its first bracket or quote
  pub without_front : (front : Front) → IsSplit level.class t front → (length front.text.now == 0) ≡ true
      → reading t ≡ read_without_name level.class (setting_at level) (entry_of level) t
  without_front front is empty = read_is level.class (setting_at level) (budget_of level) t
      ∙ (elim (front_of level.class t) as (λ w. front.text.now ≡ w → read_by_front level.class (setting_at level) (entry_of level) t w (after_front level.class t)
      ≡ read_without_name level.class (setting_at level) (entry_of level) t) [
        | [] ↦ λ same. refl
        | c ∷ w ↦ λ same. let none = eqb-true (length front.text.now) 0 empty in let some = ap length same in absurd (omega (arith, none, some))
      ]) is.text

  pub with_front : (front : Front) → IsSplit level.class t front → (length front.text.now == 0) ≡ false
      → (parse_map events_of (reading t) ≡ scan_front level front.is_name front.text.now front.rest.now) × (suc (length front.rest.now) ≤ length t)
  with_front front is some = (
    ap (parse_map events_of) (read_is level.class (setting_at level) (budget_of level) t
        ∙ (elim (front_of level.class t) as (λ w. w ≡ front.text.now → is_whole level.class w ≡ true
        → read_by_front level.class (setting_at level) (entry_of level) t w (after_front level.class t)
        ≡ cond (is_name level.class w) (read_named level.class (setting_at level) (entry_of level) w (after_front level.class t)) (Some (leaf w, after_front level.class t))) [
          | [] ↦ λ same whole. absurd (let none = ap length same in let more = longer front.text.now some in omega (arith, none, more))
          | c ∷ w ↦ λ same whole. rw whole refl
        ]) (sym is.text) is.whole) ∙ front_is,
    omega (arith, ap length (fronts_whole level.class t), length-append (front_of level.class t) (after_front level.class t), ap length is.text, ap length is.rest, longer front.text.now some),
  )
    where
      longer : (w : List ℕ) → (length w == 0) ≡ false → 0 < length w
      longer [] none = absurd (cc)
      longer (c ∷ w) none = omega arith

      front_is : parse_map events_of (cond (is_name level.class (front_of level.class t))
          (read_named level.class (setting_at level) (entry_of level) (front_of level.class t) (after_front level.class t))
          (Some (leaf (front_of level.class t), after_front level.class t)))
          ≡ scan_front level front.is_name front.text.now front.rest.now
      front_is = rw (is.name, is.text, is.rest) refl

-- a step of a text is a step of any text with the same events, and for any larger bound of the bytes left
pub steps_as : {S E : Type 0} (took stopped : S → List TextEvent → S → Type 0) (old new : S) (onward : Option Stage → Parse (List TextEvent)) {m : ℕ} (n : ℕ)
    (outcome : Result (Option Stage × Bor (List ℕ)) (ScanError E)) {there : Scanned} (other : Scanned)
    → m ≤ n → there ≡ other → Steps took stopped outcome old new m other onward → Steps took stopped outcome old new n there onward
steps_as took stopped old new onward n (Ok x) other longer same h =
    (subst (λ o. Emits took took old new o (onward x.0 x.1.now)) (sym same) h.0, let less = h.1 in omega (arith, less))
steps_as took stopped old new onward n (Err why) other longer same h = (subst (λ o. Stops took stopped old new o why) (sym same) h.0, tt)

pub has_bytes : (w : List ℕ) → w ≢ [] → (length w == 0) ≡ false
has_bytes [] some = absurd (some refl)
has_bytes (c ∷ w) some = grind (arith, nat_tests)

-- a field begins with its name and a colon
pub field_name_scans : (level : Level) (t w u v : List ℕ) → read_name level.class t ≡ Some (w, u) → strip (codes ": ") u ≡ Some v
    → (scan_turn (fields level) t ≡ prefixed (FieldName w ∷ []) (scan_turn (entries level) v)) × (length v < length t)
field_name_scans level t w u v name colon = (
  rw (name, colon) (named_value (entry_of level v)),
  let shorter = (read_name_takes level.class).takes t w u name in
      let within = strip_within (codes ": ") u v colon in
      omega (arith, shorter, within),
)
  where
    named_value : (o : Option (Document × List ℕ)) → parse_map (fields level).events (parse_map (λ value. (w, value)) o) ≡ prefixed (FieldName w ∷ [])
        (parse_map events_of o)
    named_value None = refl
    named_value (Some x) = refl

pub front_is_bytes : (t w : List ℕ) → w ≡ word_of t → IsWordOrEmpty w
front_is_bytes t w word = rw word (word_of_bytes t)
