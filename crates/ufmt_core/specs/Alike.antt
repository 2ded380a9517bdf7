-- Fields and documents that a caller's are compared with: a name by a test, which is computed where both names are known,
-- and a document by an equation. So a search finds a call's document and keeps the names in it whole.
use Rattle.std.specs.Prelude.{◌≡◌, ⊤, true}
use Rattle.std.specs.Str.{bytes_eq}
use Rattle.ufmt_core.specs.Document.{Documents, no_documents, first_document, Fields, no_fields, first_field}

-- as many fields, each with the same name and the same document
abbrev pub SameFields : Fields → Fields → Type 0
SameFields no_fields no_fields = ⊤
SameFields no_fields (first_field name d fs) = ⊥
SameFields (first_field other e es) no_fields = ⊥
SameFields (first_field other e es) (first_field name d fs) = (bytes_eq other name ≡ true) × ((e ≡ d) × SameFields es fs)

-- as many documents, each the same
abbrev pub SameDocuments : Documents → Documents → Type 0
SameDocuments no_documents no_documents = ⊤
SameDocuments no_documents (first_document d ds) = ⊥
SameDocuments (first_document e es) no_documents = ⊥
SameDocuments (first_document e es) (first_document d ds) = (e ≡ d) × SameDocuments es ds
