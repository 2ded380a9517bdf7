-- Which fields of a line are found.
use Rattle.std.specs.Prelude.{◌≡◌, ◌≢◌, ◌+◌, ℕ, Bool, true, false, List, ◌∷◌, ◌++◌, length, Some}
use Rattle.std.specs.List.{All}
use Rattle.ufmt.specs.Document.{Document, leaf, struct_of, non_exhaustive_of, Fields, fields_of}
use Rattle.ufmt.specs.Layout.{plain_text}
use Rattle.ufmt.specs.Token.{IsDocument, normal}
use Rattle.ufmt_grammar.specs.declared.class.Class.{Class}
use Rattle.ufmt_values.specs.Fields.{field_of, leaf_of, leaf_start, placed_field}
use Rattle.ufmt_values.specs.Fronts.{MayNameFollow, OpensNothing}

-- a struct, which may end in dots
abbrev pub struct_with : Bool → List ℕ → Fields → Document
struct_with true name fs = non_exhaustive_of name fs
struct_with false name fs = struct_of name fs

-- a leaf that a struct has as a field is the field of a line with the struct's plain text, if no field before it has the same name. Bytes that open nothing may come before the text, and any bytes after it
abbrev pub PrintedFieldsAreFound : Type 0
PrintedFieldsAreFound = (class : Class) (dots : Bool) (its_name name text front rest : List ℕ) (before after : List (List ℕ × Document)) →
    let d = struct_with dots its_name (fields_of (before ++ (name, leaf text) ∷ after)) in
    IsDocument class d → All (λ field. field.0 ≢ name) before → OpensNothing front → MayNameFollow class front → field_of class (front ++ (plain_text d ++ rest)) name ≡ Some text

-- and so is its place. In place of a leaf, a field may be a struct or a tuple without fields
abbrev pub PrintedFieldsArePlaced : Type 0
PrintedFieldsArePlaced = (class : Class) (d : Document) (front rest name text : List ℕ) → IsDocument class d → leaf_of name (normal d) ≡ Some text → OpensNothing front → MayNameFollow class front
    → placed_field class (front ++ (plain_text d ++ rest)) name ≡ Some (length front + leaf_start name (normal d), text)
