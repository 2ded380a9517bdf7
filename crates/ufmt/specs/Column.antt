-- Columns: a text with fill characters around it, up to a width that counts characters.
use Rattle.std.specs.Prelude.{◌≡◌, ℕ, ◌-◌, ◌/◌, max, List, ◌++◌, encode_utf8}
use Rattle.std.specs.Fmt.{char_count}
use Rattle.std.specs.List.{repeat}
use Rattle.ufmt.specs.declared.column.Align.{Align}
use Rattle.ufmt.specs.declared.column.Align.TheVariants.{Left, Center, Right}
use Rattle.ufmt.specs.declared.column.Column.{Column}

-- how many characters a text is short of the column's width
abbrev pub missing : Column → List ℕ → ℕ
missing column text = column.width - char_count text

-- how many of the fills come before the text: of an odd number, the center has one more after it
abbrev pub fills_before : Align → ℕ → ℕ
fills_before Left count = 0
fills_before Center count = count / 2
fills_before Right count = count

-- so many fills
abbrev pub fills : Column → ℕ → List ℕ
fills column count = repeat count (encode_utf8 column.fill)

-- fills, the text, and fills: as many in all as the text is short of the width
abbrev pub in_column : Column → List ℕ → List ℕ
in_column column text =
    let count = missing column text in
    let before = fills_before column.align count in
    fills column before ++ (text ++ fills column (count - before))

-- padded to any width, a text has so many characters, or as many as without padding if these are more
abbrev pub PadsToWidth : (ℕ → List ℕ) → Type 0
PadsToWidth text = (width : ℕ) → char_count (text width) ≡ max width (char_count (text 0))

-- a text in a column has as many characters as the column is wide, or its own number if that is more
abbrev pub ColumnsAreFilled : Type 0
ColumnsAreFilled = (column : Column) (text : List ℕ) → char_count (in_column column text) ≡ max column.width (char_count text)
