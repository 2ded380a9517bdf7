-- What is said of each leaf and each name of a document.
use Rattle.std.specs.Prelude.{ℕ, List, ⊤}
use Rattle.ufmt_core.specs.Document.{Document, leaf, joined, list_of, set_of, map_of, struct_of, non_exhaustive_of, tuple_of, pretty_part, Documents, no_documents, first_document, Pairs, no_pairs, first_pair, Fields, no_fields, first_field}

-- each leaf of the document is as `Leaf` says, and each name of a block or a field as `Name` says
module _ (Name Leaf : List ℕ → Type 0) where
  abbrev mutual
    pub EachText : Document → Type 0
    EachText (leaf text) = Leaf text
    EachText (joined ds) = EachTextOfEntries ds
    EachText (list_of ds) = EachTextOfEntries ds
    EachText (set_of ds) = EachTextOfEntries ds
    EachText (map_of ps) = EachTextOfPairs ps
    EachText (struct_of name fs) = Name name × EachTextOfFields fs
    EachText (non_exhaustive_of name fs) = Name name × EachTextOfFields fs
    EachText (tuple_of name ds) = Name name × EachTextOfEntries ds
    EachText (pretty_part d) = EachText d

    pub EachTextOfEntries : Documents → Type 0
    EachTextOfEntries no_documents = ⊤
    EachTextOfEntries (first_document d ds) = EachText d × EachTextOfEntries ds

    pub EachTextOfPairs : Pairs → Type 0
    EachTextOfPairs no_pairs = ⊤
    EachTextOfPairs (first_pair key value ps) = EachText key × EachText value × EachTextOfPairs ps

    pub EachTextOfFields : Fields → Type 0
    EachTextOfFields no_fields = ⊤
    EachTextOfFields (first_field name value fs) = Name name × EachText value × EachTextOfFields fs
