-- The parts of a document.
use Rattle.std.specs.Prelude.{ℕ, List, Option, Some, None, bytes_eq, if◌then◌else◌}
use Rattle.ufmt.specs.Document.{Document, leaf, list_of, set_of, map_of, struct_of, non_exhaustive_of, tuple_of, Documents, Pairs, Fields, no_fields, first_field}

-- the text of a leaf
abbrev pub leaf_part : Document → Option (List ℕ)
leaf_part (leaf text) = Some text
leaf_part _ = None

-- the name of a struct or a tuple
abbrev pub name_part : Document → Option (List ℕ)
name_part (struct_of name fs) = Some name
name_part (non_exhaustive_of name fs) = Some name
name_part (tuple_of name ds) = Some name
name_part _ = None

-- the entries of a list or a set, or the fields of a tuple
abbrev pub entries_part : Document → Option Documents
entries_part (list_of ds) = Some ds
entries_part (set_of ds) = Some ds
entries_part (tuple_of name ds) = Some ds
entries_part _ = None

-- the keys and values of a map
abbrev pub pairs_part : Document → Option Pairs
pairs_part (map_of ps) = Some ps
pairs_part _ = None

-- the field names and values of a struct
abbrev pub fields_part : Document → Option Fields
fields_part (struct_of name fs) = Some fs
fields_part (non_exhaustive_of name fs) = Some fs
fields_part _ = None

-- the value of the first field with this name
abbrev pub first_value : List ℕ → Fields → Option Document
first_value name no_fields = None
first_value name (first_field other value fs) = if bytes_eq other name then Some value else first_value name fs

-- the value of a struct's first field with this name
abbrev pub field_part : List ℕ → Document → Option Document
field_part name (struct_of its_name fs) = first_value name fs
field_part name (non_exhaustive_of its_name fs) = first_value name fs
field_part name _ = None
