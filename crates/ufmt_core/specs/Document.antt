-- A document: what a value's `fmt` lays out. Only contracts see it.
use Rattle.std.specs.Prelude.{ℕ, suc, max, List, [], ◌∷◌}

mutual
  pub data Document : Type 0 where
    leaf : List ℕ → Document
    joined : Documents → Document
    list_of : Documents → Document
    set_of : Documents → Document
    map_of : Pairs → Document
    struct_of : List ℕ → Fields → Document
    non_exhaustive_of : List ℕ → Fields → Document
    tuple_of : List ℕ → Documents → Document
    pretty_part : Document → Document

  pub data Documents : Type 0 where
    no_documents : Documents
    first_document : Document → Documents → Documents

  pub data Pairs : Type 0 where
    no_pairs : Pairs
    first_pair : Document → Document → Pairs → Pairs

  pub data Fields : Type 0 where
    no_fields : Fields
    first_field : List ℕ → Document → Fields → Fields

-- documents in a row
abbrev pub documents : List Document → Documents
documents [] = no_documents
documents (d ∷ ds) = first_document d (documents ds)

-- pairs in a row, each the document of a key and of a value
abbrev pub pairs_of : List (Document × Document) → Pairs
pairs_of [] = no_pairs
pairs_of (p ∷ ps) = first_pair p.0 p.1 (pairs_of ps)

-- fields in a row, each a name and a document
abbrev pub fields_of : List (List ℕ × Document) → Fields
fields_of [] = no_fields
fields_of (f ∷ fs) = first_field f.0 f.1 (fields_of fs)

-- how deep blocks with entries are nested
abbrev mutual
  pub nest : Document → ℕ
  nest (leaf text) = 0
  nest (joined ds) = nest_all ds
  nest (list_of no_documents) = 0
  nest (list_of (first_document d ds)) = suc (max (nest d) (nest_all ds))
  nest (set_of no_documents) = 0
  nest (set_of (first_document d ds)) = suc (max (nest d) (nest_all ds))
  nest (map_of no_pairs) = 0
  nest (map_of (first_pair key value ps)) = suc (max (nest key) (max (nest value) (nest_pairs ps)))
  nest (struct_of name no_fields) = 0
  nest (struct_of name (first_field field_name value fs)) = suc (max (nest value) (nest_fields fs))
  nest (non_exhaustive_of name no_fields) = 0
  nest (non_exhaustive_of name (first_field field_name value fs)) = suc (max (nest value) (nest_fields fs))
  nest (tuple_of name no_documents) = 0
  nest (tuple_of name (first_document d ds)) = suc (max (nest d) (nest_all ds))
  nest (pretty_part d) = nest d

  pub nest_all : Documents → ℕ
  nest_all no_documents = 0
  nest_all (first_document d ds) = max (nest d) (nest_all ds)

  pub nest_pairs : Pairs → ℕ
  nest_pairs no_pairs = 0
  nest_pairs (first_pair key value ps) = max (nest key) (max (nest value) (nest_pairs ps))

  pub nest_fields : Fields → ℕ
  nest_fields no_fields = 0
  nest_fields (first_field name value fs) = max (nest value) (nest_fields fs)
