-- A document and its normal form have the same events, and so the same leaves.
use Rattle.std.proofs.Common.{◌≡◌, ◌∙◌, refl, ap, true, false, [], ◌∷◌, ◌++◌}
use Rattle.ufmt.specs.Document.{Document, leaf, joined, list_of, set_of, map_of, struct_of, non_exhaustive_of, tuple_of, pretty_part, Documents, no_documents, first_document, Pairs, no_pairs, first_pair, Fields, no_fields, first_field}
use Rattle.ufmt.specs.Layout.{tuple_kind}
use Rattle.ufmt.specs.Token.{normal, normal_all, normal_fields, normal_pairs}
use Rattle.ufmt_core.specs.declared.layout.Kind.TheVariants.{Brackets, Braces, Struct}
use Rattle.ufmt_scan.specs.Scan.{block_events, events_of, events_of_entries, events_of_fields, events_of_pairs}
use Rattle.ufmt_scan.specs.declared.scan.event.Event.TheVariants.{Colon, Empty, FieldName, Leaf, OnlyDots}

mutual
  pub normal_events : (d : Document) → events_of (normal d) ≡ events_of d
  normal_events (leaf text) = refl
  normal_events (joined ds) = refl
  normal_events (list_of ds) = ap (block_events Brackets [] (Empty Brackets) false) (normal_entries ds)
  normal_events (set_of no_documents) = refl
  normal_events (set_of (first_document d ds)) = ap (block_events Braces [] (Empty Braces) false) (normal_entries (first_document d ds))
  normal_events (map_of ps) = ap (block_events Braces [] (Empty Braces) false) (normal_pairs_events ps)
  normal_events (struct_of name no_fields) = refl
  normal_events (struct_of name (first_field field value fs)) = ap (block_events Struct name (Leaf name) false) (normal_fields_events (first_field field value fs))
  normal_events (non_exhaustive_of name fs) = ap (block_events Struct name (OnlyDots name) true) (normal_fields_events fs)
  normal_events (tuple_of name no_documents) = refl
  normal_events (tuple_of name (first_document d ds)) = ap (block_events (tuple_kind name) name (Leaf name) false) (normal_entries (first_document d ds))
  normal_events (pretty_part d) = refl

  normal_entries : (ds : Documents) → events_of_entries (normal_all ds) ≡ events_of_entries ds
  normal_entries no_documents = refl
  normal_entries (first_document d ds) = ap (λ e. e ∷ events_of_entries (normal_all ds)) (normal_events d) ∙ ap (λ es. events_of d ∷ es) (normal_entries ds)

  normal_pairs_events : (ps : Pairs) → events_of_pairs (normal_pairs ps) ≡ events_of_pairs ps
  normal_pairs_events no_pairs = refl
  normal_pairs_events (first_pair key value ps) =
      ap (λ e. (e ++ Colon ∷ events_of (normal value)) ∷ events_of_pairs (normal_pairs ps)) (normal_events key)
      ∙ ap (λ e. (events_of key ++ Colon ∷ e) ∷ events_of_pairs (normal_pairs ps)) (normal_events value)
      ∙ ap (λ es. (events_of key ++ Colon ∷ events_of value) ∷ es) (normal_pairs_events ps)

  normal_fields_events : (fs : Fields) → events_of_fields (normal_fields fs) ≡ events_of_fields fs
  normal_fields_events no_fields = refl
  normal_fields_events (first_field name value fs) =
      ap (λ e. (FieldName name ∷ e) ∷ events_of_fields (normal_fields fs)) (normal_events value) ∙ ap (λ es. (FieldName name ∷ events_of value) ∷ es) (normal_fields_events fs)
