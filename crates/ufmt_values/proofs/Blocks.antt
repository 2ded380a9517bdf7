-- A document with entries is a block, and each block with entries has some.
use Rattle.std.proofs.Common.{◌≡◌, ◌∙◌, refl, ap, ℕ, true, false, List, [], ◌∷◌, ◌++◌}
use Rattle.ufmt.specs.Document.{Document, leaf, joined, list_of, set_of, map_of, struct_of, non_exhaustive_of, tuple_of, pretty_part, no_documents, first_document, no_pairs, first_pair, no_fields, first_field}
use Rattle.ufmt.specs.Layout.{tuple_kind}
use Rattle.ufmt_core.specs.declared.layout.Count.TheVariants.{One}
use Rattle.ufmt_core.specs.declared.layout.Kind.{Kind}
use Rattle.ufmt_core.specs.declared.layout.Kind.TheVariants.{Brackets, Braces, Struct}
use Rattle.ufmt_grammar.proofs.ReadingComplete.{IsBlock}
use Rattle.ufmt_scan.specs.Fronts.{has_entries, opened_after, opened_by}
use Rattle.ufmt_scan.specs.Scan.{TextEvent, events_of, events_of_entries, events_of_fields, events_of_pairs, tail_events}
use Rattle.ufmt_scan.specs.declared.scan.event.Event.TheVariants.{Close, Colon, Dots, Empty, FieldName, Leaf, Next, OnlyDots, Open}

-- a document with entries is such a block
pub entries_block : (d : Document) → has_entries d ≡ true → IsBlock d
entries_block (leaf text) h = absurd (cc)
entries_block (joined ds) h = absurd (cc)
entries_block (list_of no_documents) h = absurd (cc)
entries_block (list_of (first_document d ds)) h = tt
entries_block (set_of no_documents) h = absurd (cc)
entries_block (set_of (first_document d ds)) h = tt
entries_block (map_of no_pairs) h = absurd (cc)
entries_block (map_of (first_pair key value ps)) h = tt
entries_block (struct_of name no_fields) h = absurd (cc)
entries_block (struct_of name (first_field field value fs)) h = tt
entries_block (non_exhaustive_of name no_fields) h = absurd (cc)
entries_block (non_exhaustive_of name (first_field field value fs)) h = tt
entries_block (tuple_of name no_documents) h = absurd (cc)
entries_block (tuple_of name (first_document d ds)) h = tt
entries_block (pretty_part d) h = absurd (cc)

opened_by_any : (e : TextEvent) → opened_by true e ≡ true
opened_by_any (Leaf text) = refl
opened_by_any (Empty kind) = refl
opened_by_any (OnlyDots name) = refl
opened_by_any (Open kind name) = refl
opened_by_any (FieldName name) = refl
opened_by_any Colon = refl
opened_by_any Next = refl
opened_by_any (Close kind count) = refl
opened_by_any Dots = refl

-- a block that has opened stays so
opened_before : (es : List TextEvent) → opened_after true es ≡ true
opened_before [] = refl
opened_before (e ∷ es) = ap (λ b. opened_after b es) (opened_by_any e) ∙ opened_before es

opened_first : (kind : Kind) (name : List ℕ) (es : List TextEvent) → opened_after false (Open kind name ∷ es) ≡ true
opened_first kind name es = opened_before es

-- and each such block has entries
pub block_entries : (d : Document) → IsBlock d → has_entries d ≡ true
block_entries (leaf text) h = absurd h
block_entries (joined ds) h = absurd h
block_entries (list_of no_documents) h = absurd h
block_entries (list_of (first_document d ds)) h = opened_first Brackets [] (events_of d ++ tail_events Brackets One false (events_of_entries ds))
block_entries (set_of no_documents) h = absurd h
block_entries (set_of (first_document d ds)) h = opened_first Braces [] (events_of d ++ tail_events Braces One false (events_of_entries ds))
block_entries (map_of no_pairs) h = absurd h
block_entries (map_of (first_pair key value ps)) h = opened_first Braces [] ((events_of key ++ (Colon ∷ events_of value)) ++ tail_events Braces One false (events_of_pairs ps))
block_entries (struct_of name no_fields) h = absurd h
block_entries (struct_of name (first_field field value fs)) h = opened_first Struct name ((FieldName field ∷ events_of value) ++ tail_events Struct One false (events_of_fields fs))
block_entries (non_exhaustive_of name no_fields) h = absurd h
block_entries (non_exhaustive_of name (first_field field value fs)) h = opened_first Struct name ((FieldName field ∷ events_of value) ++ tail_events Struct One true (events_of_fields fs))
block_entries (tuple_of name no_documents) h = absurd h
block_entries (tuple_of name (first_document d ds)) h = opened_first (tuple_kind name) name (events_of d ++ tail_events (tuple_kind name) One false (events_of_entries ds))
block_entries (pretty_part d) h = absurd h
