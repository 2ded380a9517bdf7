-- The normal form of a document is its own normal form, and keeps the document's nesting, class and texts.
use Rattle.std.proofs.Common.{◌≡◌, List, [], ◌∷◌, ◌++◌, ℕ, ◌≤◌, refl, sym, ap, ap₂, ◌∙◌, subst, append-nil}
use Rattle.ufmt_core.specs.Document.{Document, leaf, joined, list_of, set_of, map_of, struct_of, non_exhaustive_of, tuple_of, pretty_part, Documents, no_documents, first_document, Pairs, no_pairs, first_pair, Fields, no_fields, first_field, nest, nest_all, nest_pairs, nest_fields}
use Rattle.ufmt_core.specs.Layout.{setting, inside, tuple_kind, block_text, dotted_fields, layout, layouts, texts, pair_texts, field_texts}
use Rattle.ufmt_core.specs.declared.layout.Mode.TheVariants.{Pretty}
use Rattle.ufmt_core.specs.declared.layout.Setting.{Setting}
use Rattle.ufmt_core.specs.declared.layout.Kind.TheVariants.{Brackets, Braces, Struct}
use Rattle.ufmt_grammar.specs.Token.{Class, IsBuilt, AreBuilt, PairsAreBuilt, FieldsAreBuilt, IsDocument, normal, normal_all, normal_pairs, normal_fields}
use Rattle.ufmt_grammar.proofs.ClassLeaves.{name_leaf}

mutual
  pub normal-normal : (d : Document) → normal (normal d) ≡ normal d
  normal-normal (leaf text) = refl
  normal-normal (joined ds) = ap joined (normal_all-normal_all ds)
  normal-normal (list_of ds) = ap list_of (normal_all-normal_all ds)
  normal-normal (set_of no_documents) = refl
  normal-normal (set_of (first_document d ds)) = rw (normal-normal d, normal_all-normal_all ds)
  normal-normal (map_of ps) = ap map_of (normal_pairs-normal_pairs ps)
  normal-normal (struct_of name no_fields) = refl
  normal-normal (struct_of name (first_field field_name value fs)) = rw (normal-normal value, normal_fields-normal_fields fs)
  normal-normal (non_exhaustive_of name fs) = ap (non_exhaustive_of name) (normal_fields-normal_fields fs)
  normal-normal (tuple_of name no_documents) = refl
  normal-normal (tuple_of name (first_document d ds)) = rw (normal-normal d, normal_all-normal_all ds)
  normal-normal (pretty_part d) = ap pretty_part (normal-normal d)

  pub normal_all-normal_all : (ds : Documents) → normal_all (normal_all ds) ≡ normal_all ds
  normal_all-normal_all no_documents = refl
  normal_all-normal_all (first_document d ds) = ap₂ first_document (normal-normal d) (normal_all-normal_all ds)

  pub normal_pairs-normal_pairs : (ps : Pairs) → normal_pairs (normal_pairs ps) ≡ normal_pairs ps
  normal_pairs-normal_pairs no_pairs = refl
  normal_pairs-normal_pairs (first_pair key value ps) = rw (normal-normal key, normal-normal value, normal_pairs-normal_pairs ps)

  pub normal_fields-normal_fields : (fs : Fields) → normal_fields (normal_fields fs) ≡ normal_fields fs
  normal_fields-normal_fields no_fields = refl
  normal_fields-normal_fields (first_field name value fs) = rw (normal-normal value, normal_fields-normal_fields fs)

mutual
  pub nest-normal : (d : Document) → nest (normal d) ≡ nest d
  nest-normal (leaf text) = refl
  nest-normal (joined ds) = nest_all-normal_all ds
  nest-normal (list_of no_documents) = refl
  nest-normal (list_of (first_document d ds)) = rw (nest-normal d, nest_all-normal_all ds)
  nest-normal (set_of no_documents) = refl
  nest-normal (set_of (first_document d ds)) = rw (nest-normal d, nest_all-normal_all ds)
  nest-normal (map_of no_pairs) = refl
  nest-normal (map_of (first_pair key value ps)) = rw (nest-normal key, nest-normal value, nest_pairs-normal_pairs ps)
  nest-normal (struct_of name no_fields) = refl
  nest-normal (struct_of name (first_field field_name value fs)) = rw (nest-normal value, nest_fields-normal_fields fs)
  nest-normal (non_exhaustive_of name no_fields) = refl
  nest-normal (non_exhaustive_of name (first_field field_name value fs)) = rw (nest-normal value, nest_fields-normal_fields fs)
  nest-normal (tuple_of name no_documents) = refl
  nest-normal (tuple_of name (first_document d ds)) = rw (nest-normal d, nest_all-normal_all ds)
  nest-normal (pretty_part d) = nest-normal d

  pub nest_all-normal_all : (ds : Documents) → nest_all (normal_all ds) ≡ nest_all ds
  nest_all-normal_all no_documents = refl
  nest_all-normal_all (first_document d ds) = rw (nest-normal d, nest_all-normal_all ds)

  pub nest_pairs-normal_pairs : (ps : Pairs) → nest_pairs (normal_pairs ps) ≡ nest_pairs ps
  nest_pairs-normal_pairs no_pairs = refl
  nest_pairs-normal_pairs (first_pair key value ps) = rw (nest-normal key, nest-normal value, nest_pairs-normal_pairs ps)

  pub nest_fields-normal_fields : (fs : Fields) → nest_fields (normal_fields fs) ≡ nest_fields fs
  nest_fields-normal_fields no_fields = refl
  nest_fields-normal_fields (first_field name value fs) = rw (nest-normal value, nest_fields-normal_fields fs)

module _ (class : Class) where
  mutual
    pub IsBuilt-normal : (d : Document) → IsBuilt class d → IsBuilt class (normal d)
    IsBuilt-normal (leaf text) h = h
    IsBuilt-normal (joined ds) h = absurd h
    IsBuilt-normal (list_of ds) h = AreBuilt-normal_all ds h
    IsBuilt-normal (set_of no_documents) h = tt
    IsBuilt-normal (set_of (first_document d ds)) h = (IsBuilt-normal d h.0, AreBuilt-normal_all ds h.1)
    IsBuilt-normal (map_of ps) h = PairsAreBuilt-normal_pairs ps h
    IsBuilt-normal (struct_of name no_fields) h = name_leaf class name h.0
    IsBuilt-normal (struct_of name (first_field field_name value fs)) h = (h.0, (h.1.0, IsBuilt-normal value h.1.1, FieldsAreBuilt-normal_fields fs h.1.2))
    IsBuilt-normal (tuple_of name no_documents) h = name_leaf class name h
    IsBuilt-normal (tuple_of name (first_document d ds)) h = (h.0, IsBuilt-normal d h.1, AreBuilt-normal_all ds h.2)
    IsBuilt-normal (non_exhaustive_of name fs) h = (h.0, h.1, FieldsAreBuilt-normal_fields fs h.2)
    IsBuilt-normal (pretty_part d) h = absurd h

    pub AreBuilt-normal_all : (ds : Documents) → AreBuilt class ds → AreBuilt class (normal_all ds)
    AreBuilt-normal_all no_documents h = tt
    AreBuilt-normal_all (first_document d ds) h = (IsBuilt-normal d h.0, AreBuilt-normal_all ds h.1)

    pub PairsAreBuilt-normal_pairs : (ps : Pairs) → PairsAreBuilt class ps → PairsAreBuilt class (normal_pairs ps)
    PairsAreBuilt-normal_pairs no_pairs h = tt
    PairsAreBuilt-normal_pairs (first_pair key value ps) h = (IsBuilt-normal key h.0, IsBuilt-normal value h.1, PairsAreBuilt-normal_pairs ps h.2)

    pub FieldsAreBuilt-normal_fields : (fs : Fields) → FieldsAreBuilt class fs → FieldsAreBuilt class (normal_fields fs)
    FieldsAreBuilt-normal_fields no_fields h = tt
    FieldsAreBuilt-normal_fields (first_field name value fs) h = (h.0, IsBuilt-normal value h.1, FieldsAreBuilt-normal_fields fs h.2)

  pub IsDocument-normal : (d : Document) → IsDocument class d → IsDocument class (normal d)
  IsDocument-normal d h = (IsBuilt-normal d h.0, subst (λ n. n ≤ 255) (sym (nest-normal d)) h.1)

-- a set's normal form has the text of the set of normal forms, also if it is the empty map
layout-normal-set_of : (s : Setting) (ds : Documents) → layout s (normal (set_of ds)) ≡ layout s (set_of (normal_all ds))
layout-normal-set_of s no_documents = refl
layout-normal-set_of s (first_document d ds) = refl

-- the same holds of a struct, also if its normal form is the leaf of its name
layout-normal-struct_of : (s : Setting) (name : List ℕ) (fs : Fields) → layout s (normal (struct_of name fs)) ≡ layout s (struct_of name (normal_fields fs))
layout-normal-struct_of s name no_fields = sym (append-nil name)
layout-normal-struct_of s name (first_field field_name value fs) = refl

-- the same holds of a tuple
layout-normal-tuple_of : (s : Setting) (name : List ℕ) (ds : Documents) → layout s (normal (tuple_of name ds)) ≡ layout s (tuple_of name (normal_all ds))
layout-normal-tuple_of s [] no_documents = refl
layout-normal-tuple_of s (c ∷ name) no_documents = ap (λ text. c ∷ text) (sym (append-nil name))
layout-normal-tuple_of s name (first_document d ds) = refl

mutual
  pub layout-normal : (s : Setting) (d : Document) → layout s (normal d) ≡ layout s d
  layout-normal s (leaf text) = refl
  layout-normal s (joined ds) = layouts-normal_all s ds
  layout-normal s (list_of ds) = ap (block_text Brackets s []) (texts-normal_all (inside s) ds)
  layout-normal s (set_of ds) = layout-normal-set_of s ds ∙ ap (block_text Braces s []) (texts-normal_all (inside s) ds)
  layout-normal s (map_of ps) = ap (block_text Braces s []) (pair_texts-normal_pairs (inside s) ps)
  layout-normal s (struct_of name fs) = layout-normal-struct_of s name fs ∙ ap (block_text Struct s name) (field_texts-normal_fields (inside s) fs)
  layout-normal s (tuple_of name ds) = layout-normal-tuple_of s name ds ∙ ap (block_text (tuple_kind name) s name) (texts-normal_all (inside s) ds)
  layout-normal s (non_exhaustive_of name fs) = ap (λ ts. name ++ dotted_fields s ts) (field_texts-normal_fields (inside s) fs)
  layout-normal s (pretty_part d) = layout-normal (setting Pretty s.depth) d

  pub layouts-normal_all : (s : Setting) (ds : Documents) → layouts s (normal_all ds) ≡ layouts s ds
  layouts-normal_all s no_documents = refl
  layouts-normal_all s (first_document d ds) = rw (layout-normal s d, layouts-normal_all s ds)

  pub texts-normal_all : (i : Setting) (ds : Documents) → texts i (normal_all ds) ≡ texts i ds
  texts-normal_all i no_documents = refl
  texts-normal_all i (first_document d ds) = rw (layout-normal i d, texts-normal_all i ds)

  pub pair_texts-normal_pairs : (i : Setting) (ps : Pairs) → pair_texts i (normal_pairs ps) ≡ pair_texts i ps
  pair_texts-normal_pairs i no_pairs = refl
  pair_texts-normal_pairs i (first_pair key value ps) = rw (layout-normal i key, layout-normal i value, pair_texts-normal_pairs i ps)

  pub field_texts-normal_fields : (i : Setting) (fs : Fields) → field_texts i (normal_fields fs) ≡ field_texts i fs
  field_texts-normal_fields i no_fields = refl
  field_texts-normal_fields i (first_field name value fs) = rw (layout-normal i value, field_texts-normal_fields i fs)
