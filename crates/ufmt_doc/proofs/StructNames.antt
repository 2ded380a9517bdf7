-- Structs, whether they end in dots or not.
use Rattle.std.proofs.Common.{◌≡◌, ℕ, Bool, true, false, List, Some, refl}
use Rattle.ufmt.specs.Document.{Fields, non_exhaustive_of, struct_of}
use Rattle.ufmt_doc.specs.Parts.{fields_part}
use Rattle.ufmt_doc.specs.StructNames.{named_struct}

fields_kept : (text : List ℕ) (dots : Bool) (fs : Fields) → fields_part (named_struct (text, dots) fs) ≡ Some fs
fields_kept text true fs = refl
fields_kept text false fs = refl

-- the fields of a struct
pub fields_part-named_struct : (name : List ℕ × Bool) (fs : Fields) → fields_part (named_struct name fs) ≡ Some fs
fields_part-named_struct name fs = fields_kept name.0 name.1 fs

-- the struct, where it is known whether it ends in dots
pub dotted_struct : (name : List ℕ × Bool) (fs : Fields) → name.1 ≡ true → named_struct name fs ≡ non_exhaustive_of name.0 fs
dotted_struct name fs ends = rw ends refl

pub exhaustive_struct : (name : List ℕ × Bool) (fs : Fields) → name.1 ≡ false → named_struct name fs ≡ struct_of name.0 fs
exhaustive_struct name fs ends = rw ends refl
