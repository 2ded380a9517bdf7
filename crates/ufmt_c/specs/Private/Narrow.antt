-- A shorter text that a call from C may write in place of the text that was asked for: the buffer shows the same, and the
-- bytes that are left out are only counted.
use Rattle.std.specs.Prelude.{◌≡◌, ℕ, ◌+◌, ◌-◌, if◌then◌else◌, List, length, take}
use Rattle.ufmt.specs.declared.column.Align.TheVariants.{Left}
use Rattle.ufmt.specs.declared.column.Column.{Column}
use Rattle.ufmt.specs.Dump.{bytes_per_group, bytes_per_row, digits_width}
use Rattle.ufmt.specs.declared.dump.HexDump.{HexDump}
use Rattle.ufmt_c.specs.Calls.{reported}

-- a buffer of `room` bytes shows the same of both texts, and the same length is reported for `whole` as for `text` with
-- `rest` more bytes
pub record StandsFor (room : ℕ) (text : List ℕ) (rest : ℕ) (whole : List ℕ) : Type 0 where
  pub front : take room whole ≡ take room text
  pub longer : reported (length whole) ≡ reported (length text + rest)

-- how wide the digits of a full row are
abbrev pub row_width : HexDump → ℕ
row_width dump = digits_width (bytes_per_group dump) (bytes_per_row dump)

-- how many more spaces a row of the dump has before its text than a row of `per_row` bytes, where all bytes fit into
-- either row; 0 without texts
abbrev pub left_out : HexDump → ℕ → ℕ
left_out dump per_row = if dump.ascii then row_width dump - row_width (record dump { per_row = per_row }) else 0

-- a column that shows an empty text as `width` zeros
abbrev pub zeros_column : ℕ → Column
zeros_column width = record { width = width; align = Left; fill = 48 }
