-- The values of a text: where one begins, by its bracket, and which document is there.
use Rattle.std.specs.Prelude.{ℕ, zero, suc, ◌+◌, ◌-◌, ◌==◌, ◌&&◌, nat_le, nat_lt, not, if◌then◌else◌, Bool, false, List, [], ◌∷◌, codes, drop, slice_index_or, Option, Some, None, option_and_then}
use Rattle.ufmt.specs.Bytes.{colon, opening_brace, opening_parenthesis, space}
use Rattle.ufmt.specs.Document.{Document}
use Rattle.ufmt.specs.Leaves.{begins_with, is_name_byte, is_opening}
use Rattle.ufmt.specs.Reading.{choose, strip}
use Rattle.ufmt_core.specs.declared.layout.Mode.{Mode}
use Rattle.ufmt_core.specs.declared.layout.Mode.TheVariants.{Plain, Pretty}
use Rattle.ufmt_grammar.specs.declared.class.Class.{Class}
use Rattle.ufmt_grammar.specs.declared.class.Class.TheVariants.{Debug}
use Rattle.ufmt_scan.specs.Fronts.{begins_with_field, has_entries, read_front}
use Rattle.ufmt_scan.specs.Texts.{other_mode}

-- how many bytes come before the first opening bracket
abbrev pub before_bracket : List ℕ → ℕ
before_bracket [] = 0
before_bracket (c ∷ t) = if is_opening c then 0 else suc (before_bracket t)

-- where the longest run of bytes of a name begins that ends here. No run begins before `low`
abbrev pub run_start : List ℕ → ℕ → ℕ → ℕ
run_start text low zero = zero
run_start text low (suc n) = if nat_le low n && is_name_byte (slice_index_or text n 0) then run_start text low n else suc n

-- whether such a run is a name: it isn't empty, and doesn't end in a colon
abbrev pub is_named : List ℕ → ℕ → ℕ → Bool
is_named text start end = nat_lt start end && not (slice_index_or text (end - 1) 0 == colon)

-- where a tuple with this bracket begins: at its name, if it has one
abbrev pub tuple_start : List ℕ → ℕ → ℕ → ℕ
tuple_start text low bracket = if is_named text (run_start text low bracket) bracket then run_start text low bracket else bracket

-- whether a name and a space come before this bracket
abbrev pub is_after_name : List ℕ → ℕ → ℕ → Bool
is_after_name text low bracket =
    nat_lt low bracket && (slice_index_or text (bracket - 1) 0 == space) && is_named text (run_start text low (bracket - 1)) (bracket - 1)

-- whether these bytes after a brace are those of a struct: in a plain text a space comes first, in a pretty one the line of a field
abbrev pub is_in_struct : Mode → List ℕ → Bool
is_in_struct Pretty after = begins_with space after
is_in_struct Plain after = choose (strip (codes "\n    ") after) (begins_with_field Debug) false

-- where a value with this brace begins: a struct at its name; a map or a set at the brace
abbrev pub brace_start : Mode → List ℕ → ℕ → ℕ → ℕ
brace_start to text low bracket = if is_after_name text low bracket && is_in_struct to (drop (bracket + 1) text) then run_start text low (bracket - 1) else bracket

-- where a value with this bracket begins
abbrev pub value_start : Mode → List ℕ → ℕ → ℕ → ℕ
value_start to text low bracket =
    if slice_index_or text bracket 0 == opening_brace then brace_start to text low bracket
    else if slice_index_or text bracket 0 == opening_parenthesis then tuple_start text low bracket else bracket

-- a block with entries, and what follows it
abbrev pub if_entries : Document × List ℕ → Option (Document × List ℕ)
if_entries x = if has_entries x.0 then Some x else None

-- the value at the front of a text, and what follows it: a block with entries, of this class and in this mode
abbrev pub value_in : Class → Mode → List ℕ → Option (Document × List ℕ)
value_in class mode text = option_and_then if_entries (read_front class mode text)

-- a value that can be converted to this mode: one of a debug document, in the other mode
abbrev pub value_from : Mode → List ℕ → Option (Document × List ℕ)
value_from to text = value_in Debug (other_mode to) text
