-- A field of a struct in a line: of the first value from the left that is a struct with this field, where the field is a leaf.
use Rattle.std.specs.Prelude.{◌≡◌, ℕ, zero, suc, ◌+◌, ◌-◌, ◌≤◌, nat_lt, if◌then◌else◌, List, bytes_eq, drop, take, length, Option, Some, None, option_map}
use Rattle.ufmt.specs.Document.{Document, leaf, struct_of, non_exhaustive_of, Fields, no_fields, first_field}
use Rattle.ufmt.specs.Layout.{plain_text}
use Rattle.ufmt.specs.Reading.{choose}
use Rattle.ufmt_core.specs.declared.layout.Mode.TheVariants.{Plain, Pretty}
use Rattle.ufmt_grammar.specs.declared.class.Class.{Class}
use Rattle.ufmt_values.specs.Values.{before_bracket, value_in, value_start}

-- the text of a leaf
abbrev pub leaf_text : Document → Option (List ℕ)
leaf_text (leaf text) = Some text
leaf_text _ = None

-- the text of the first field with this name, if it is a leaf
abbrev pub first_leaf : List ℕ → Fields → Option (List ℕ)
first_leaf name no_fields = None
first_leaf name (first_field other value fs) = if bytes_eq other name then leaf_text value else first_leaf name fs

-- the same of a struct
abbrev pub leaf_of : List ℕ → Document → Option (List ℕ)
leaf_of name (struct_of its_name fs) = first_leaf name fs
leaf_of name (non_exhaustive_of its_name fs) = first_leaf name fs
leaf_of name _ = None

-- how many bytes of the fields' plain text are before the value of the first field with this name: `: ` follows a name, and `, ` a value
abbrev pub bytes_before : List ℕ → Fields → ℕ
bytes_before name no_fields = 0
bytes_before name (first_field other value fs) = length other + 2 + (if bytes_eq other name then 0 else length (plain_text value) + 2 + bytes_before name fs)

-- the same of a struct's plain text: its name and ` { ` are before its fields
abbrev pub leaf_start : List ℕ → Document → ℕ
leaf_start name (struct_of its_name fs) = length its_name + 3 + bytes_before name fs
leaf_start name (non_exhaustive_of its_name fs) = length its_name + 3 + bytes_before name fs
leaf_start name _ = 0

-- where a field's text begins in its line, and the text
abbrev pub Found : Type 0
Found = ℕ × List ℕ

-- the field of what begins at `start`, or else that of the rest: a bracket of no value is passed, and nothing inside a value is looked at
abbrev pub field_in : List ℕ → (ℕ → Option Found) → List ℕ → ℕ → ℕ → Option (Document × List ℕ) → Option Found
field_in name next line bracket start None = next (bracket + 1)
field_in name next line bracket start (Some x) = choose (leaf_of name x.0) (λ text. Some (start + leaf_start name x.0, text)) (next (length line - length x.1))

-- the same of the value with this bracket, if there is one
abbrev pub field_with : Class → List ℕ → (ℕ → Option Found) → List ℕ → ℕ → ℕ → Option Found
field_with class name next line bracket start = field_in name next line bracket start (value_in class Plain (drop start line))

-- the same from `at` on, where this is the next bracket
abbrev pub field_at : Class → List ℕ → (ℕ → Option Found) → List ℕ → ℕ → ℕ → Option Found
field_at class name next line at bracket = if nat_lt bracket (length line) then field_with class name next line bracket (value_start Pretty line at bracket) else None

-- the field from `at` on, with at most so many brackets
unfoldable pub field_from : Class → List ℕ → ℕ → List ℕ → ℕ → Option Found
field_from class name zero line at = None
field_from class name (suc n) line at = field_at class name (field_from class name n line) line at (at + before_bracket (drop at line))

-- the field of a line, and where it begins. A line has no more brackets than bytes
abbrev pub placed_field : Class → List ℕ → List ℕ → Option Found
placed_field class line name = field_from class name (length line) line 0

-- the text of the field of a line
abbrev pub field_of : Class → List ℕ → List ℕ → Option (List ℕ)
field_of class line name = option_map (λ x. x.1) (placed_field class line name)

-- the text is in the line from this place on
pub record IsPlaced (line : List ℕ) (start : ℕ) (text : List ℕ) : Type 0 where
  pub within : start + length text ≤ length line
  pub is : text ≡ take (length text) (drop start line)
