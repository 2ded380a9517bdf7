-- What the call that finds a field in a line returns to C, and what it leaves.
use Rattle.std.specs.Prelude.{◌≡◌, ℕ, ℤ, pos, List, length, Some, None}
use Rattle.ufmt_grammar.specs.declared.class.Class.{Class}
use Rattle.ufmt_values.specs.Fields.{placed_field}
use Rattle.ufmt_c.specs.Calls.{no_text}

-- either the line has the field: its place is left, and its length returned; or it has none, and `no_text` is returned
pub data FindsField (class : Class) (line name : List ℕ) (before : ℕ) (result : ℤ) (detail : ℕ) : Type 0 where
  field : (text : List ℕ) → placed_field class line name ≡ Some (detail, text) → result ≡ pos (length text) → FindsField class line name before result detail
  none : placed_field class line name ≡ None → result ≡ no_text → detail ≡ before → FindsField class line name before result detail
