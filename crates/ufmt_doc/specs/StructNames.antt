-- What the name of a struct shows: its text, and whether the struct ends in dots.
use Rattle.std.specs.Prelude.{ℕ, Bool, false, List, String, if◌then◌else◌, string_bytes}
use Rattle.std.specs.declared.alloc.Global.{Global}
use Rattle.ufmt.specs.Document.{Document, Fields, struct_of, non_exhaustive_of}
use Rattle.ufmt_doc.specs.declared.doc.struct_name.DebugName.{DebugName}

-- a name with which no struct ends in dots
abbrev pub plain_name : String Global → List ℕ × Bool
plain_name name = (string_bytes name, false)

-- a name that says whether the struct ends in dots
abbrev pub debug_name : DebugName → List ℕ × Bool
debug_name name = (string_bytes name.text, name.ends_in_dots)

-- the struct whose name shows this
abbrev pub named_struct : List ℕ × Bool → Fields → Document
named_struct name fs = if name.1 then non_exhaustive_of name.0 fs else struct_of name.0 fs
