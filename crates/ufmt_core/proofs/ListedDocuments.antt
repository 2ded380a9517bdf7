-- Documents, pairs and fields can be made into lists and back.
use Rattle.std.proofs.Common.{◌≡◌, refl, ap, ℕ, List, [], ◌∷◌}
use Rattle.ufmt_core.specs.Document.{Document, Documents, no_documents, first_document, Pairs, no_pairs, first_pair, Fields, no_fields, first_field, documents, pairs_of, fields_of}

unfoldable pub listed : Documents → List Document
listed no_documents = []
listed (first_document d ds) = d ∷ listed ds

pub documents-listed : (ds : Documents) → documents (listed ds) ≡ ds
unfolding listed
documents-listed no_documents = refl
documents-listed (first_document d ds) = ap (first_document d) (documents-listed ds)

unfoldable pub listed_pairs : Pairs → List (Document × Document)
listed_pairs no_pairs = []
listed_pairs (first_pair key value ps) = (key, value) ∷ listed_pairs ps

pub pairs_of-listed_pairs : (ps : Pairs) → pairs_of (listed_pairs ps) ≡ ps
unfolding listed_pairs
pairs_of-listed_pairs no_pairs = refl
pairs_of-listed_pairs (first_pair key value ps) = ap (first_pair key value) (pairs_of-listed_pairs ps)

unfoldable pub listed_fields : Fields → List (List ℕ × Document)
listed_fields no_fields = []
listed_fields (first_field name value fs) = (name, value) ∷ listed_fields fs

pub fields_of-listed_fields : (fs : Fields) → fields_of (listed_fields fs) ≡ fs
unfolding listed_fields
fields_of-listed_fields no_fields = refl
fields_of-listed_fields (first_field name value fs) = ap (first_field name value) (fields_of-listed_fields fs)
