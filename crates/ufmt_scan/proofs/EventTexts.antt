-- The texts of a document's events make up its layout.
use Rattle.std.proofs.Common.{◌≡◌, ◌∙◌, refl, ap, subst, sym, ℕ, suc, ◌+◌, ◌≤◌, Bool, true, false, List, [], ◌∷◌, ◌++◌, append_assoc, append-nil, arith}
use Rattle.std.specs.Prelude.{⊤}
use Rattle.ufmt_core.specs.Document.{Document, leaf, joined, list_of, set_of, map_of, struct_of, non_exhaustive_of, tuple_of, pretty_part, Documents, no_documents, first_document, Pairs, no_pairs, first_pair, Fields, no_fields, first_field, nest, nest_all, nest_pairs, nest_fields}
use Rattle.ufmt_core.specs.Layout.{frame, setting, inside, entry_depth, later_lead, trail, lead, line_start, ending, next, block_text, tuple_kind, layout, texts, pair_texts, field_texts}
use Rattle.ufmt_core.specs.declared.layout.Count.{Count}
use Rattle.ufmt_core.specs.declared.layout.Count.TheVariants.{Zero, One, Several}
use Rattle.ufmt_core.specs.declared.layout.Kind.{Kind}
use Rattle.ufmt_core.specs.declared.layout.Kind.TheVariants.{Brackets, Braces, Struct}
use Rattle.ufmt_core.specs.declared.layout.Mode.{Mode}
use Rattle.ufmt_core.specs.declared.layout.Mode.TheVariants.{Plain, Pretty}
use Rattle.ufmt_core.specs.declared.layout.Setting.{Setting}
use Rattle.ufmt_grammar.specs.declared.class.Class.{Class}
use Rattle.ufmt_grammar.specs.Token.{IsBuilt, AreBuilt, PairsAreBuilt, FieldsAreBuilt}
use Rattle.ufmt_scan.specs.Scan.{TextEvent, events_of, tail_events, block_events, events_of_entries, events_of_pairs, events_of_fields, Leaf, Empty, OnlyDots}
use Rattle.ufmt_grammar.proofs.ClassLeaves.{name_some}
use Rattle.ufmt_grammar.proofs.DottedStructs.{dotted_layout, rest_text, rest_text-false}
use Rattle.ufmt_grammar.specs.Reading.{last_dots}
use Rattle.ufmt_scan.specs.ScanTexts.{block_depth, written, setting_after, texts_written, last_setting}

-- the text of two lists of events is that of one, and then that of the other
pub texts_written-append : (s : Setting) (es fs : List TextEvent)
    → texts_written s (es ++ fs) ≡ texts_written s es ++ texts_written (last_setting s es) fs
texts_written-append s [] fs = refl
texts_written-append s (e ∷ es) fs = ap (λ t. written s e ++ t) (texts_written-append (setting_after s e) es fs)
    ∙ sym (append_assoc (written s e) (texts_written (setting_after s e) es) (texts_written (last_setting (setting_after s e) es) fs))

pub last_setting-append : (s : Setting) (es fs : List TextEvent) → last_setting s (es ++ fs) ≡ last_setting (last_setting s es) fs
last_setting-append s [] fs = refl
last_setting-append s (e ∷ es) fs = last_setting-append (setting_after s e) es fs

-- these events have this text, and those after them continue at the same mode and depth
record AreWritten (s : Setting) (es : List TextEvent) (text : List ℕ) : Type 0 where
  pub before : (more : List TextEvent) → texts_written s (es ++ more) ≡ text ++ texts_written s more

-- entries with these events have these texts, each at this mode and depth
abbrev EntriesAreWritten : Setting → List (List TextEvent) → List (List ℕ) → Type 0
EntriesAreWritten i [] [] = ⊤
EntriesAreWritten i [] (t ∷ ts) = ⊥
EntriesAreWritten i (es ∷ ess) [] = ⊥
EntriesAreWritten i (es ∷ ess) (t ∷ ts) = AreWritten i es t × EntriesAreWritten i ess ts

-- the depth of a block's entries determines that of the block
around : (mode : Mode) (k : ℕ) → k + 1 ≤ 255 → block_depth mode (entry_depth mode k) ≡ k
around Plain k few = refl
around Pretty k few = grind (arith, few)

-- what fits in a block fits at the depth of its entries
deeper : (mode : Mode) (k n : ℕ) → suc n + k ≤ 255 → n + entry_depth mode k ≤ 255
deeper Plain k n few = omega (arith, few)
deeper Pretty k n few = grind (arith, few)

module _ (mode : Mode) (k n : ℕ) (few : suc n + k ≤ 255) (kind : Kind) where
  abbrev s : Setting
  s = setting mode k

  -- after an entry, the next one's lead follows, or a line's start before the closing
  later : (count : Count) → (lead (frame mode kind) (inside s) (next count) ≡ later_lead mode (entry_depth mode k))
      × (ending (frame mode kind) s (next count) ≡ line_start mode k ++ (frame mode kind).closing (next count))
  later Zero = (refl, refl)
  later One = (refl, refl)
  later Several = (refl, refl)

  -- the events that are left of a block after an entry have the text that is left
  tail_written : (count : Count) (dots : Bool) (ess : List (List TextEvent)) (ts : List (List ℕ)) (more : List TextEvent) → EntriesAreWritten (inside s) ess ts
      → texts_written (inside s) (tail_events kind (next count) dots ess ++ more)
      ≡ (trail mode ++ rest_text (frame mode kind) s (last_dots s) (next count) ts dots) ++ texts_written s more
  tail_written count false [] [] more h = rw (around mode k (omega arith), (later count).1) refl
  tail_written count true [] [] more h = rw (around mode k (omega arith)) (simp (append_assoc, (later count).0))
  tail_written count dots [] (t ∷ ts) more h = absurd h
  tail_written count dots (es ∷ ess) [] more h = absurd h
  tail_written count dots (es ∷ ess) (t ∷ ts) more h = simp (append_assoc, h.0.before, tail_written (next count) dots ess ts more h.1, (later count).0)

  -- the events of a block with entries have its text
  rest_written : (name : List ℕ) (alone : TextEvent) (dots : Bool) (ess : List (List TextEvent)) (ts : List (List ℕ)) {es : List TextEvent} {t : List ℕ}
      → EntriesAreWritten (inside s) (es ∷ ess) (t ∷ ts)
      → AreWritten s (block_events kind name alone dots (es ∷ ess)) (name ++ ((frame mode kind).opening ++ rest_text (frame mode kind) s (last_dots s) Zero (t ∷ ts) dots))
  rest_written name alone dots ess ts h = record { before = λ more. simp (append_assoc, h.0.before, tail_written Zero dots ess ts more h.1) }

  block_written : (name : List ℕ) (alone : TextEvent) (ess : List (List TextEvent)) (ts : List (List ℕ)) {es : List TextEvent} {t : List ℕ}
      → EntriesAreWritten (inside s) (es ∷ ess) (t ∷ ts) → AreWritten s (block_events kind name alone false (es ∷ ess)) (block_text kind s name (t ∷ ts))
  block_written name alone ess ts {es} {t} h =
      subst (λ rest. AreWritten s (block_events kind name alone false (es ∷ ess)) (name ++ ((frame mode kind).opening ++ rest)))
      (rest_text-false (frame mode kind) s (last_dots s) Zero (t ∷ ts)) (rest_written name alone false ess ts h)

name_written : {s : Setting} (name : List ℕ) → AreWritten s (Leaf name ∷ []) (name ++ [])
name_written name = record { before = λ more. rw append-nil refl }

-- the events of a document of a class have its layout as their text
module _ (mode : Mode) (class : Class) where
  mutual
    document_written : (k : ℕ) (d : Document) → IsBuilt class d → nest d + k ≤ 255
        → AreWritten (setting mode k) (events_of d) (layout (setting mode k) d)
    document_written k (leaf text) h few = record { before = λ more. refl }
    document_written k (joined ds) h few = absurd h
    document_written k (list_of no_documents) h few = record { before = λ more. refl }
    document_written k (list_of (first_document d ds)) h few = block_written mode k _ few Brackets [] (Empty Brackets) _ _ (entries_written k (first_document d ds) h few)
    document_written k (set_of no_documents) h few = record { before = λ more. refl }
    document_written k (set_of (first_document d ds)) h few = block_written mode k _ few Braces [] (Empty Braces) _ _ (entries_written k (first_document d ds) h few)
    document_written k (map_of no_pairs) h few = record { before = λ more. refl }
    document_written k (map_of (first_pair key value ps)) h few = block_written mode k _ few Braces [] (Empty Braces) _ _ (pairs_written k (first_pair key value ps) h few)
    document_written k (struct_of name no_fields) h few = name_written name
    document_written k (struct_of name (first_field field_name value fs)) h few = block_written mode k _ few Struct name (Leaf name) _ _ (fields_written k (first_field field_name value fs) h.1 few)
    document_written k (tuple_of [] no_documents) h few = absurd (name_some class h)
    document_written k (tuple_of (c ∷ name) no_documents) h few = name_written (c ∷ name)
    document_written k (tuple_of name (first_document d ds)) h few = block_written mode k _ few (tuple_kind name) name (Leaf name) _ _ (entries_written k (first_document d ds) (h.1, h.2) few)
    document_written k (non_exhaustive_of name no_fields) h few = record { before = λ more. refl }
    document_written k (non_exhaustive_of name (first_field field_name value fs)) h few =
        rw (dotted_layout (setting mode k) name field_name value fs)
        (rest_written mode k _ few Struct name (OnlyDots name) true _ _ (fields_written k (first_field field_name value fs) h.2 few))
    document_written k (pretty_part d) h few = absurd h

    -- the same for the entries, pairs and fields of a block at this depth
    entries_written : (k : ℕ) (ds : Documents) → AreBuilt class ds → suc (nest_all ds) + k ≤ 255
        → EntriesAreWritten (inside (setting mode k)) (events_of_entries ds) (texts (inside (setting mode k)) ds)
    entries_written k no_documents h few = tt
    entries_written k (first_document d ds) h few =
        (document_written (entry_depth mode k) d h.0 (deeper mode k (nest d) (omega arith)), entries_written k ds h.1 (omega arith))

    pairs_written : (k : ℕ) (ps : Pairs) → PairsAreBuilt class ps → suc (nest_pairs ps) + k ≤ 255
        → EntriesAreWritten (inside (setting mode k)) (events_of_pairs ps) (pair_texts (inside (setting mode k)) ps)
    pairs_written k no_pairs h few = tt
    pairs_written k (first_pair key value ps) h few =
        let first = document_written (entry_depth mode k) key h.0 (deeper mode k (nest key) (omega arith)) in
        let second = document_written (entry_depth mode k) value h.1 (deeper mode k (nest value) (omega arith)) in
        (record { before = λ more. simp (append_assoc, first.before, second.before) }, pairs_written k ps h.2 (omega arith))

    fields_written : (k : ℕ) (fs : Fields) → FieldsAreBuilt class fs → suc (nest_fields fs) + k ≤ 255
        → EntriesAreWritten (inside (setting mode k)) (events_of_fields fs) (field_texts (inside (setting mode k)) fs)
    fields_written k no_fields h few = tt
    fields_written k (first_field name value fs) h few =
        let second = document_written (entry_depth mode k) value h.1 (deeper mode k (nest value) (omega arith)) in
        (record { before = λ more. simp (append_assoc, second.before) }, fields_written k fs h.2 (omega arith))

  pub events_written : (k : ℕ) (d : Document) → IsBuilt class d → nest d + k ≤ 255 → texts_written (setting mode k) (events_of d) ≡ layout (setting mode k) d
  events_written k d h few = let whole = (document_written k d h few).before [] in simp append-nil at whole
