-- What a line or a group of lines becomes: its values, from the left on, in the other mode.
use Rattle.std.specs.Prelude.{ℕ, zero, suc, ◌+◌, ◌-◌, ◌==◌, ◌&&◌, ◌||◌, nat_le, nat_lt, if◌then◌else◌, Bool, true, false, List, ◌++◌, drop, take, length, slice_index_or, Option, Some, None}
use Rattle.ufmt.specs.Bytes.{opening_brace}
use Rattle.ufmt.specs.Document.{Document}
use Rattle.ufmt.specs.Layout.{layout, setting}
use Rattle.ufmt_core.specs.declared.layout.Mode.{Mode}
use Rattle.ufmt_core.specs.declared.layout.Mode.TheVariants.{Plain, Pretty}
use Rattle.ufmt_grammar.specs.declared.class.Class.TheVariants.{Debug}
use Rattle.ufmt_lines.specs.declared.run.conversion.Conversion.{Conversion}
use Rattle.ufmt_scan.specs.Fronts.{begins_with_field, has_one_leaf}
use Rattle.ufmt_values.specs.Values.{before_bracket, is_after_name, value_from, value_start}

-- whether a map would read as a struct, if it were pretty: after a name, and its first key could be a field's name
abbrev pub could_be_struct : List ℕ → ℕ → ℕ → Bool
could_be_struct text low bracket =
    (slice_index_or text bracket 0 == opening_brace) && is_after_name text low bracket && begins_with_field Debug (drop (bracket + 1) text)

-- whether a text stays that may do so; a pretty one never does
abbrev pub if_pretty : Mode → Bool → Bool
if_pretty Pretty may_stay = may_stay
if_pretty Plain may_stay = false

-- whether a value of this size stays as it is
abbrev pub stays : Conversion → List ℕ → ℕ → ℕ → Document → ℕ → Bool
stays conversion text low bracket d size = if_pretty conversion.to (nat_le size conversion.longer_than || has_one_leaf d || could_be_struct text low bracket)

-- the bytes from one place to another
abbrev pub bytes_between : List ℕ → ℕ → ℕ → List ℕ
bytes_between text start end = take (end - start) (drop start text)

-- a value that stays, or its other text
abbrev pub value_text : Bool → Mode → List ℕ → Document → List ℕ
value_text true to text d = text
value_text false to text d = layout (setting to 0) d

-- the bytes up to the end of what begins here, converted, and then the rest as `next` converts it: a value is converted, or stays; a bracket of no value stays, and the next one is looked for after it
abbrev pub convert_value : Conversion → (ℕ → List ℕ) → List ℕ → ℕ → ℕ → ℕ → Option (Document × List ℕ) → List ℕ
convert_value conversion next text at bracket start None = bytes_between text at (bracket + 1) ++ next (bracket + 1)
convert_value conversion next text at bracket start (Some x) =
    let end = length text - length x.1 in
    bytes_between text at start
    ++ (value_text (stays conversion text at bracket x.0 (end - start)) conversion.to (bytes_between text start end) x.0 ++ next end)

-- the same from `at` on, where this is the next bracket
abbrev pub convert_bracket : Conversion → (ℕ → List ℕ) → List ℕ → ℕ → ℕ → List ℕ
convert_bracket conversion next text at bracket =
    let start = value_start conversion.to text at bracket in
    if nat_lt bracket (length text) then convert_value conversion next text at bracket start (value_from conversion.to (drop start text)) else drop at text

-- the text from `at` on, with at most so many brackets
unfoldable pub convert_from : Conversion → ℕ → List ℕ → ℕ → List ℕ
convert_from conversion zero text at = drop at text
convert_from conversion (suc n) text at = convert_bracket conversion (convert_from conversion n text) text at (at + before_bracket (drop at text))

-- the output for a line or a group of lines. It has no more brackets than bytes
abbrev pub output_of : Conversion → List ℕ → List ℕ
output_of conversion text = convert_from conversion (length text) text 0
