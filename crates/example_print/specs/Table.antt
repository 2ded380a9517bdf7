-- The text of a row of a table.
use Rattle.std.specs.Prelude.{ℕ, List, [], ◌∷◌, codes, true, false, string_bytes}
use Rattle.example_print.specs.declared.table.Counter.{Counter}
use Rattle.ufmt.specs.declared.column.Align.TheVariants.{Left, Center, Right}
use Rattle.ufmt.specs.declared.column.Column.{Column}
use Rattle.ufmt.specs.declared.hex.HexOptions.{HexOptions}
use Rattle.ufmt.specs.Bytes.{space, zero_digit}
use Rattle.ufmt.specs.Document.{leaf}
use Rattle.ufmt.specs.Hex.{padded_hexadecimal}
use Rattle.ufmt.specs.Pieces.{column, hex, line_text, shown, text}
use Rattle.ufmt.specs.ValueDocuments.{number}

abbrev pub name_column : Column
name_column = record { width = 10; align = Left; fill = space }

-- filled with dots
abbrev pub count_column : Column
count_column = record { width = 8; align = Right; fill = 46 }

abbrev pub register_column : Column
register_column = record { width = 10; align = Center; fill = space }

-- `0x`, and zeros to six bytes in all
abbrev pub address : HexOptions
address = record { upper_case = false; pad_char = zero_digit; pad_length = 6; ox_prefix = true }

-- the name, the number and the register, each in its column
abbrev pub row : Counter → List ℕ
row counter = line_text (
    column name_column (shown (leaf (string_bytes counter.name)) ∷ []) ∷ column count_column (shown (number counter.count) ∷ []) ∷ text (codes "|")
    ∷ column register_column (hex (padded_hexadecimal address counter.register) ∷ []) ∷ text (codes "|\n") ∷ [])
