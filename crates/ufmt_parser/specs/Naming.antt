-- The name at the front of a document's text, where a name is over, and which names a document may have.
use Rattle.std.specs.Prelude.{ℕ, ◌&&◌, ◌==◌, not, if◌then◌else◌, List, [], ◌∷◌, Bool, true, false}
use Rattle.std.specs.Str.{bytes_eq}
use Rattle.ufmt_core.specs.Bytes.{closing_parenthesis, colon, opening_parenthesis}
use Rattle.ufmt_core.specs.Document.{Document, leaf, joined, list_of, set_of, map_of, struct_of, non_exhaustive_of, tuple_of, pretty_part, no_documents, first_document, no_fields, first_field}
use Rattle.ufmt_grammar.specs.Bytes.{ends_name}
use Rattle.ufmt_grammar.specs.Leaves.{begins_with, ends_in_colon, has_name_bytes, is_spaced}

-- the text of a leaf, or the name of a struct or a tuple; other documents have none
abbrev pub document_name : Document → List ℕ
document_name (leaf text) = text
document_name (joined ds) = []
document_name (list_of ds) = []
document_name (set_of ds) = []
document_name (map_of ps) = []
document_name (struct_of name fs) = name
document_name (non_exhaustive_of name fs) = name
document_name (tuple_of name ds) = name
document_name (pretty_part d) = []

-- a document that prints as this name alone: a leaf, or a struct or a tuple without fields
abbrev pub is_unit : List ℕ → Document → Bool
is_unit name (leaf text) = bytes_eq text name
is_unit name (joined ds) = false
is_unit name (list_of ds) = false
is_unit name (set_of ds) = false
is_unit name (map_of ps) = false
is_unit name (struct_of other no_fields) = bytes_eq other name
is_unit name (struct_of other (first_field field value fs)) = false
is_unit name (non_exhaustive_of other fs) = false
is_unit name (tuple_of other no_documents) = bytes_eq other name
is_unit name (tuple_of other (first_document d ds)) = false
is_unit name (pretty_part d) = false

-- as many names, and each is the same: a test, which is computed where the names are known
abbrev pub same_names : List (List ℕ) → List (List ℕ) → Bool
same_names [] [] = true
same_names [] (name ∷ names) = false
same_names (other ∷ others) [] = false
same_names (other ∷ others) (name ∷ names) = bytes_eq other name && same_names others names

-- a name of a debug document may have each byte, and the last is no colon
abbrev pub is_debug_name_or_empty : List ℕ → Bool
is_debug_name_or_empty text = has_name_bytes text && not (ends_in_colon text)

-- a text, which is UTF-8, may be a name of a debug document: a test, which is computed where the text is known
abbrev pub is_debug_name : List ℕ → Bool
is_debug_name [] = false
is_debug_name (c ∷ text) = is_debug_name_or_empty (c ∷ text)

-- each of these texts may
abbrev pub are_debug_names : List (List ℕ) → Bool
are_debug_names [] = true
are_debug_names (name ∷ names) = is_debug_name name && are_debug_names names

-- whether a name before this text is over: a colon ends it only as the end of a key, and an opening parenthesis only if it isn't closed at once
abbrev pub is_past_name : List ℕ → Bool
is_past_name [] = true
is_past_name (c ∷ text) = if c == colon then is_spaced text else if c == opening_parenthesis then not (begins_with closing_parenthesis text) else ends_name c
