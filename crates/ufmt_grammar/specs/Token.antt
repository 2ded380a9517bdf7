-- Documents whose texts can be read again, of each class, and their normal form.
use Rattle.std.specs.Prelude.{ℕ, ◌≤◌, List, ⊤}
use Rattle.ufmt_core.specs.Document.{Document, leaf, joined, list_of, set_of, map_of, struct_of, non_exhaustive_of, tuple_of, pretty_part, Documents, no_documents, first_document, Pairs, no_pairs, first_pair, Fields, no_fields, first_field, nest}
pub use Rattle.ufmt_grammar.specs.Leaves.{Class, Token, Debug, is_word_byte, IsWordOrEmpty, IsWord, IsUnquotedLeaf, IsSymbol, IsTokenLeaf, is_closer, IsFollower, OrEmpty, IsName, IsLeaf, MayFollow}

-- built from these: each leaf is as `Leaf` says, each name as `Name` says, a struct ends in dots only as `Dots` says, and nothing is `joined` or a `pretty_part`; the name of a tuple with fields may be empty
module _ (Name Leaf : List ℕ → Type 0) (Dots : Type 0) where
  abbrev mutual
    pub IsBuiltFrom : Document → Type 0
    IsBuiltFrom (leaf text) = Leaf text
    IsBuiltFrom (joined ds) = ⊥
    IsBuiltFrom (list_of ds) = AreBuiltFrom ds
    IsBuiltFrom (set_of ds) = AreBuiltFrom ds
    IsBuiltFrom (map_of ps) = PairsAreBuiltFrom ps
    IsBuiltFrom (struct_of name fs) = Name name × FieldsAreBuiltFrom fs
    IsBuiltFrom (non_exhaustive_of name fs) = Dots × Name name × FieldsAreBuiltFrom fs
    IsBuiltFrom (tuple_of name no_documents) = Name name
    IsBuiltFrom (tuple_of name (first_document d ds)) = OrEmpty Name name × IsBuiltFrom d × AreBuiltFrom ds
    IsBuiltFrom (pretty_part d) = ⊥

    pub AreBuiltFrom : Documents → Type 0
    AreBuiltFrom no_documents = ⊤
    AreBuiltFrom (first_document d ds) = IsBuiltFrom d × AreBuiltFrom ds

    pub PairsAreBuiltFrom : Pairs → Type 0
    PairsAreBuiltFrom no_pairs = ⊤
    PairsAreBuiltFrom (first_pair key value ps) = IsBuiltFrom key × IsBuiltFrom value × PairsAreBuiltFrom ps

    pub FieldsAreBuiltFrom : Fields → Type 0
    FieldsAreBuiltFrom no_fields = ⊤
    FieldsAreBuiltFrom (first_field name value fs) = Name name × IsBuiltFrom value × FieldsAreBuiltFrom fs

-- whether structs of the class may end in dots
abbrev pub MayEndInDots : Class → Type 0
MayEndInDots Token = ⊥
MayEndInDots Debug = ⊤

-- each leaf and each name is one of the class
module _ (class : Class) where
  abbrev pub IsBuilt : Document → Type 0
  IsBuilt d = IsBuiltFrom (IsName class) (IsLeaf class) (MayEndInDots class) d

  abbrev pub AreBuilt : Documents → Type 0
  AreBuilt ds = AreBuiltFrom (IsName class) (IsLeaf class) (MayEndInDots class) ds

  abbrev pub PairsAreBuilt : Pairs → Type 0
  PairsAreBuilt ps = PairsAreBuiltFrom (IsName class) (IsLeaf class) (MayEndInDots class) ps

  abbrev pub FieldsAreBuilt : Fields → Type 0
  FieldsAreBuilt fs = FieldsAreBuiltFrom (IsName class) (IsLeaf class) (MayEndInDots class) fs

  -- a document of the class: its blocks with entries are nested at most 255 deep
  abbrev pub IsDocument : Document → Type 0
  IsDocument d = IsBuilt d × (nest d ≤ 255)

-- a token document has only token leaves, and words for names
abbrev pub IsTokenDocument : Document → Type 0
IsTokenDocument d = IsDocument Token d

-- what most types print by `{:?}`
abbrev pub IsDebugDocument : Document → Type 0
IsDebugDocument d = IsDocument Debug d

-- the normal form: at every level, a struct or tuple without fields becomes the leaf of its name, and an empty set becomes the empty map
abbrev mutual
  pub normal : Document → Document
  normal (leaf text) = leaf text
  normal (joined ds) = joined (normal_all ds)
  normal (list_of ds) = list_of (normal_all ds)
  normal (set_of no_documents) = map_of no_pairs
  normal (set_of (first_document d ds)) = set_of (first_document (normal d) (normal_all ds))
  normal (map_of ps) = map_of (normal_pairs ps)
  normal (struct_of name no_fields) = leaf name
  normal (struct_of name (first_field field_name value fs)) = struct_of name (first_field field_name (normal value) (normal_fields fs))
  normal (non_exhaustive_of name fs) = non_exhaustive_of name (normal_fields fs)
  normal (tuple_of name no_documents) = leaf name
  normal (tuple_of name (first_document d ds)) = tuple_of name (first_document (normal d) (normal_all ds))
  normal (pretty_part d) = pretty_part (normal d)

  pub normal_all : Documents → Documents
  normal_all no_documents = no_documents
  normal_all (first_document d ds) = first_document (normal d) (normal_all ds)

  pub normal_pairs : Pairs → Pairs
  normal_pairs no_pairs = no_pairs
  normal_pairs (first_pair key value ps) = first_pair (normal key) (normal value) (normal_pairs ps)

  pub normal_fields : Fields → Fields
  normal_fields no_fields = no_fields
  normal_fields (first_field name value fs) = first_field name (normal value) (normal_fields fs)
