-- What grows from the events of a document of a class is its normal form.
use Rattle.std.proofs.Common.{◌≡◌, ◌∙◌, refl, ap, sym, cond, ℕ, ◌+◌, ◌<◌, ◌≤◌, Bool, true, false, List, [], ◌∷◌, ◌++◌, length, append_assoc, append-nil, arith, Option, None, Some, Result, Ok, Err}
use Rattle.std.specs.Prelude.{nat_lt, suc, ⊤}
use Rattle.std.proofs.lemmas.Bool.Decides.{nat_tests}
use Rattle.std.specs.Result.{OnOk, is_ok}
use Rattle.ufmt.specs.Document.{Document, leaf, joined, list_of, set_of, map_of, struct_of, non_exhaustive_of, tuple_of, pretty_part, nest, nest_all, nest_fields, nest_pairs, Documents, no_documents, first_document, documents, Pairs, no_pairs, first_pair, pairs_of, Fields, no_fields, first_field, fields_of}
use Rattle.ufmt.specs.Layout.{next, tuple_kind}
use Rattle.ufmt_grammar.specs.declared.class.Class.{Class}
use Rattle.ufmt.specs.Token.{IsDocument, IsBuilt, AreBuilt, MayEndInDots, PairsAreBuilt, FieldsAreBuilt, normal, normal_all, normal_pairs, normal_fields}
use Rattle.ufmt_core.specs.declared.layout.Count.{Count}
use Rattle.ufmt_core.specs.declared.layout.Count.TheVariants.{Zero, One}
use Rattle.ufmt_core.specs.declared.layout.Kind.{Kind}
use Rattle.ufmt_core.specs.declared.layout.Kind.TheVariants.{Brackets, Braces, Struct}
use Rattle.ufmt_grammar.proofs.ClassLeaves.{name_some}
use Rattle.ufmt_doc.specs.declared.reader.document_sink.DocumentSink.{DocumentSink}
use Rattle.ufmt_doc.specs.Private.Growing.{Growing, grow, growing, grown}
use Rattle.ufmt_doc.specs.Private.OpenBlock.{Block, ended, entered, keyed, open_list, open_map, open_set, open_struct, open_tuple, opened, put}
use Rattle.ufmt_doc.specs.StructNames.{named_struct}
use Rattle.ufmt_doc.proofs.StructNames.{dotted_struct}
use Rattle.ufmt_scan.specs.declared.scan.event.Event.TheVariants.{Open, FieldName, Colon}
use Rattle.ufmt_scan.specs.Scan.{TextEvent, TakesEvent, events_of, events_of_entries, events_of_fields, events_of_pairs, tail_events}

-- the entries of a row, as a list
abbrev all_of : Documents → List Document
all_of no_documents = []
all_of (first_document d ds) = d ∷ all_of ds

abbrev all_pairs : Pairs → List (Document × Document)
all_pairs no_pairs = []
all_pairs (first_pair key value ps) = (key, value) ∷ all_pairs ps

abbrev all_fields : Fields → List (List ℕ × Document)
all_fields no_fields = []
all_fields (first_field name value fs) = (name, value) ∷ all_fields fs

documents-all_of : (ds : Documents) → documents (all_of ds) ≡ ds
documents-all_of no_documents = refl
documents-all_of (first_document d ds) = ap (first_document d) (documents-all_of ds)

pairs_of-all_pairs : (ps : Pairs) → pairs_of (all_pairs ps) ≡ ps
pairs_of-all_pairs no_pairs = refl
pairs_of-all_pairs (first_pair key value ps) = ap (first_pair key value) (pairs_of-all_pairs ps)

fields_of-all_fields : (fs : Fields) → fields_of (all_fields fs) ≡ fs
fields_of-all_fields no_fields = refl
fields_of-all_fields (first_field name value fs) = ap (first_field name value) (fields_of-all_fields fs)

module _ (dots : Bool) where
  grown-append : (g : Growing) (es fs : List TextEvent) → grown dots g (es ++ fs) ≡ grown dots (grown dots g es) fs
  grown-append g [] fs = refl
  grown-append g (e ∷ es) fs = grown-append (grow dots g e) es fs

  -- a block is opened if fewer than 256 are open
  opens : (whole : Option Document) (outer : List Block) (kind : Kind) (name : List ℕ) → length outer < 256
      → ◌≡◌ {A = Growing} (grow dots (whole, outer) (Open kind name)) (whole, opened kind name ∷ outer)
  opens whole outer kind name room =
      let few : nat_lt (length outer) 256 ≡ true = grind (arith, nat_tests) in
      ap (λ (b : Bool). (whole, cond b (opened kind name ∷ outer) outer)) few

  -- whether a struct ends in dots, if it does by its events
  abbrev ends_in : Bool → Bool
  ends_in true = dots
  ends_in false = false

  -- a sink that grows with each event takes it as `Sink` asks
  pub takes_event : {N E : Type 0} (shown : N → List ℕ × Bool) (old new : DocumentSink N) (e : TextEvent) (outcome : Result (⊤) E)
      → OnOk outcome (growing shown new ≡ grow dots (growing shown old) e)
      → TakesEvent (λ start es sink. growing shown sink ≡ grown dots (growing shown start) es) (λ _ _ _. ⊤) old e (is_ok outcome) new
  takes_event shown old new e (Ok x) h = λ start es before. h ∙ ap (λ g. grow dots g e) before ∙ sym (grown-append (growing shown start) es (e ∷ []))
  takes_event shown old new e (Err x) h = λ start es before. tt

-- a tuple is opened with its name, or without one
opened_tuple : (name : List ℕ) → opened (tuple_kind name) name ≡ open_tuple name []
opened_tuple [] = refl
opened_tuple (c ∷ name) = refl

-- a key and its value, if each comes in the innermost block
pair_grows : (dots : Bool) (key value : Document) (whole : Option Document) (block : Block) (outer : List Block)
    → grown dots (whole, block ∷ outer) (events_of key) ≡ put (normal key) (whole, block ∷ outer)
    → ((b : Block) → grown dots (whole, b ∷ outer) (events_of value) ≡ put (normal value) (whole, b ∷ outer))
    → ◌≡◌ {A = Growing} (grown dots (whole, block ∷ outer) (events_of key ++ Colon ∷ events_of value))
    (whole, entered (normal value) (keyed (entered (normal key) block)) ∷ outer)
pair_grows dots key value whole block outer k v =
    grown-append dots (whole, block ∷ outer) (events_of key) (Colon ∷ events_of value)
    ∙ ap (λ g. grown dots g (Colon ∷ events_of value)) k
    ∙ v (keyed (entered (normal key) block))

module _ (class : Class) (dots : Bool) (may : MayEndInDots class → dots ≡ true) where
  mutual
    -- the events of a document of the class put its normal form where the next document belongs
    document_grows : (d : Document) → IsBuilt class d → (whole : Option Document) (outer : List Block) → length outer + nest d ≤ 256
        → grown dots (whole, outer) (events_of d) ≡ put (normal d) (whole, outer)
    document_grows (leaf text) h whole outer deep = refl
    document_grows (joined ds) h whole outer deep = absurd h
    document_grows (list_of no_documents) h whole outer deep = refl
    document_grows (list_of (first_document d ds)) h whole outer deep =
        ap (λ g. grown dots g (events_of d ++ tail_events Brackets One false (events_of_entries ds))) (opens dots whole outer Brackets [] (omega arith))
        ∙ entries_grow open_list (λ e es. refl) Brackets Zero (first_document d ds) h whole outer [] (omega arith)
        ∙ ap (λ l. put (list_of l) (whole, outer)) (documents-all_of (normal_all (first_document d ds)))
    document_grows (set_of no_documents) h whole outer deep = refl
    document_grows (set_of (first_document d ds)) h whole outer deep =
        ap (λ g. grown dots g (events_of d ++ tail_events Braces One false (events_of_entries ds))) (opens dots whole outer Braces [] (omega arith))
        ∙ entries_grow open_set (λ e es. refl) Braces Zero (first_document d ds) h whole outer [] (omega arith)
        ∙ ap (λ l. put (set_of l) (whole, outer)) (documents-all_of (normal_all (first_document d ds)))
    document_grows (map_of no_pairs) h whole outer deep = refl
    document_grows (map_of (first_pair key value ps)) h whole outer deep =
        let rest = tail_events Braces One false (events_of_pairs ps) in
        ap (λ g. grown dots g ((events_of key ++ Colon ∷ events_of value) ++ rest)) (opens dots whole outer Braces [] (omega arith))
        ∙ grown-append dots (whole, open_set [] ∷ outer) (events_of key ++ Colon ∷ events_of value) rest
        ∙ ap (λ g. grown dots g rest) (pair_grows dots key value whole (open_set []) outer
        (document_grows key h.0 whole (open_set [] ∷ outer) (omega arith)) (λ b. document_grows value h.1 whole (b ∷ outer) (omega arith)))
        ∙ pairs_grow One ps h.2 whole outer ((normal key, normal value) ∷ []) (omega arith)
        ∙ ap (λ l. put (map_of (first_pair (normal key) (normal value) l)) (whole, outer)) (pairs_of-all_pairs (normal_pairs ps))
    document_grows (struct_of name no_fields) h whole outer deep = refl
    document_grows (struct_of name (first_field field_name value fs)) h whole outer deep =
        ap (λ g. grown dots g (FieldName field_name ∷ (events_of value ++ tail_events Struct One false (events_of_fields fs)))) (opens dots whole outer Struct name (omega arith))
        ∙ fields_grow name false Zero (first_field field_name value fs) h.1 whole outer [] (omega arith)
        ∙ ap (λ l. put (struct_of name l) (whole, outer)) (fields_of-all_fields (normal_fields (first_field field_name value fs)))
    document_grows (tuple_of [] no_documents) h whole outer deep = absurd (name_some class h)
    document_grows (tuple_of (c ∷ name) no_documents) h whole outer deep = refl
    document_grows (tuple_of name (first_document d ds)) h whole outer deep =
        ap (λ g. grown dots g (events_of d ++ tail_events (tuple_kind name) One false (events_of_entries ds)))
        (opens dots whole outer (tuple_kind name) name (omega arith) ∙ ap (λ (b : Block). (whole, b ∷ outer)) (opened_tuple name))
        ∙ entries_grow (open_tuple name) (λ e es. refl) (tuple_kind name) Zero (first_document d ds) (h.1, h.2) whole outer [] (omega arith)
        ∙ ap (λ l. put (tuple_of name l) (whole, outer)) (documents-all_of (normal_all (first_document d ds)))
    document_grows (non_exhaustive_of name no_fields) h whole outer deep = ap (λ l. put l (whole, outer)) (dotted_struct (name, dots) no_fields (may h.0))
    document_grows (non_exhaustive_of name (first_field field_name value fs)) h whole outer deep =
        ap (λ g. grown dots g (FieldName field_name ∷ (events_of value ++ tail_events Struct One true (events_of_fields fs)))) (opens dots whole outer Struct name (omega arith))
        ∙ fields_grow name true Zero (first_field field_name value fs) h.2 whole outer [] (omega arith)
        ∙ ap (λ l. put (named_struct (name, dots) l) (whole, outer)) (fields_of-all_fields (normal_fields (first_field field_name value fs)))
        ∙ ap (λ l. put l (whole, outer)) (dotted_struct (name, dots) (normal_fields (first_field field_name value fs)) (may h.0))
    document_grows (pretty_part d) h whole outer deep = absurd h

    -- further entries, and the end of their block
    entries_grow : (block : List Document → Block) → ((d : Document) (ds : List Document) → entered d (block ds) ≡ block (ds ++ d ∷ []))
        → (kind : Kind) (count : Count) (ds : Documents) → AreBuilt class ds → (whole : Option Document) (outer : List Block) (before : List Document)
        → suc (length outer) + nest_all ds ≤ 256
        → grown dots (whole, block before ∷ outer) (tail_events kind count false (events_of_entries ds))
        ≡ put (ended false (block (before ++ all_of (normal_all ds)))) (whole, outer)
    entries_grow block step kind count no_documents h whole outer before deep =
        ap (λ l. put (ended false (block l)) (whole, outer)) (sym (append-nil before))
    entries_grow block step kind count (first_document d ds) h whole outer before deep =
        let rest = tail_events kind (next count) false (events_of_entries ds) in
        grown-append dots (whole, block before ∷ outer) (events_of d) rest
        ∙ ap (λ g. grown dots g rest) (document_grows d h.0 whole (block before ∷ outer) (omega arith) ∙ ap (λ (b : Block). (whole, b ∷ outer)) (step (normal d) before))
        ∙ entries_grow block step kind (next count) ds h.1 whole outer (before ++ normal d ∷ []) (omega arith)
        ∙ ap (λ l. put (ended false (block l)) (whole, outer)) (append_assoc before (normal d ∷ []) (all_of (normal_all ds)))

    -- further pairs, and the end of their map
    pairs_grow : (count : Count) (ps : Pairs) → PairsAreBuilt class ps → (whole : Option Document) (outer : List Block) (before : List (Document × Document))
        → suc (length outer) + nest_pairs ps ≤ 256
        → grown dots (whole, open_map before None ∷ outer) (tail_events Braces count false (events_of_pairs ps))
        ≡ put (map_of (pairs_of (before ++ all_pairs (normal_pairs ps)))) (whole, outer)
    pairs_grow count no_pairs h whole outer before deep = ap (λ l. put (map_of (pairs_of l)) (whole, outer)) (sym (append-nil before))
    pairs_grow count (first_pair key value ps) h whole outer before deep =
        let rest = tail_events Braces (next count) false (events_of_pairs ps) in
        grown-append dots (whole, open_map before None ∷ outer) (events_of key ++ Colon ∷ events_of value) rest
        ∙ ap (λ g. grown dots g rest) (pair_grows dots key value whole (open_map before None) outer
        (document_grows key h.0 whole (open_map before None ∷ outer) (omega arith)) (λ b. document_grows value h.1 whole (b ∷ outer) (omega arith)))
        ∙ pairs_grow (next count) ps h.2 whole outer (before ++ (normal key, normal value) ∷ []) (omega arith)
        ∙ ap (λ l. put (map_of (pairs_of l)) (whole, outer)) (append_assoc before ((normal key, normal value) ∷ []) (all_pairs (normal_pairs ps)))

    -- further fields, and the end of their struct, which may be dots
    fields_grow : (name : List ℕ) (ends : Bool) (count : Count) (fs : Fields) → FieldsAreBuilt class fs → (whole : Option Document) (outer : List Block)
        (before : List (List ℕ × Document)) → suc (length outer) + nest_fields fs ≤ 256
        → grown dots (whole, open_struct name before None ∷ outer) (tail_events Struct count ends (events_of_fields fs))
        ≡ put (named_struct (name, ends_in dots ends) (fields_of (before ++ all_fields (normal_fields fs)))) (whole, outer)
    fields_grow name true count no_fields h whole outer before deep =
        ap (λ l. put (named_struct (name, dots) (fields_of l)) (whole, outer)) (sym (append-nil before))
    fields_grow name false count no_fields h whole outer before deep =
        ap (λ l. put (named_struct (name, false) (fields_of l)) (whole, outer)) (sym (append-nil before))
    fields_grow name ends count (first_field field_name value fs) h whole outer before deep =
        let rest = tail_events Struct (next count) ends (events_of_fields fs) in
        grown-append dots (whole, open_struct name before (Some field_name) ∷ outer) (events_of value) rest
        ∙ ap (λ g. grown dots g rest) (document_grows value h.1 whole (open_struct name before (Some field_name) ∷ outer) (omega arith))
        ∙ fields_grow name ends (next count) fs h.2 whole outer (before ++ (field_name, normal value) ∷ []) (omega arith)
        ∙ ap (λ l. put (named_struct (name, ends_in dots ends) (fields_of l)) (whole, outer)) (append_assoc before ((field_name, normal value) ∷ []) (all_fields (normal_fields fs)))

  -- what has grown from the events of a document in normal form is that document
  pub whole_is : (d : Document) (new : Growing) → IsDocument class d → normal d ≡ d → new ≡ grown dots (None, []) (events_of d) → new ≡ (Some d, [])
  whole_is d new built form grew = grew ∙ document_grows d built.0 None [] (omega (arith, built.1)) ∙ ap (λ (x : Document). put x (None, [])) form
