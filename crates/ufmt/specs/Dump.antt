-- Hexadecimal dumps of bytes: rows, each with its offset, its bytes' digits in groups, and its bytes as text.
use Rattle.std.specs.Prelude.{◌≡◌, ⊤, ℕ, zero, suc, ◌+◌, ◌-◌, ◌*◌, ◌/◌, ◌%◌, ◌^◌, ◌<◌, ◌≤◌, ◌==◌, if◌then◌else◌, false, true, List, [], ◌∷◌, ◌++◌, map, take, drop, length, replicate, codes, Option, Some, None}
use Rattle.std.specs.Int.{is_in_range}
use Rattle.std.specs.List.{All, concat, flat_map, join_by, slice_index_or}
use Rattle.ufmt_core.specs.Bytes.{space, zero_digit}
use Rattle.ufmt.specs.declared.dump.HexDump.{HexDump}
use Rattle.ufmt.specs.Hex.{hexadecimal}
use Rattle.ufmt.specs.Radix.{digit_byte}

-- the first `count` chunks of n bytes, or fewer where no bytes are left; the last chunk may be shorter
abbrev pub first_chunks : ℕ → ℕ → List ℕ → List (List ℕ)
first_chunks zero n bytes = []
first_chunks (suc count) n [] = []
first_chunks (suc count) n (byte ∷ bytes) = take n (byte ∷ bytes) ∷ first_chunks count n (drop n (byte ∷ bytes))

-- all chunks of n bytes: there are at most as many chunks as bytes
abbrev pub chunks : ℕ → List ℕ → List (List ℕ)
chunks n bytes = first_chunks (length bytes) n bytes

-- a row of 0 bytes means one of 16
abbrev pub bytes_per_row : HexDump → ℕ
bytes_per_row dump = if dump.per_row == 0 then 16 else dump.per_row

-- a group of 0 bytes means a whole row
abbrev pub bytes_per_group : HexDump → ℕ
bytes_per_group dump = if dump.group == 0 then bytes_per_row dump else dump.group

-- the rows of a dump, each as its bytes
abbrev pub rows : HexDump → List ℕ → List (List ℕ)
rows dump bytes = chunks (bytes_per_row dump) bytes

-- an offset in hexadecimal digits, eight or more
abbrev pub offset_text : ℕ → List ℕ
offset_text offset = replicate (8 - length (hexadecimal false offset)) zero_digit ++ hexadecimal false offset

-- the offset of a row that has `before` bytes before it, counted from the first offset, if there is one
abbrev pub offset_column : Option ℕ → ℕ → List ℕ
offset_column None before = []
offset_column (Some first) before = offset_text (first + before) ++ codes ": "

-- the two digits of a byte
abbrev pub byte_digits : ℕ → List ℕ
byte_digits byte = digit_byte false (byte / 16) ∷ digit_byte false (byte % 16) ∷ []

-- the digits of bytes, with a space between groups
abbrev pub digits_column : ℕ → List ℕ → List ℕ
digits_column group row = join_by (flat_map byte_digits) (codes " ") (chunks group row)

-- how wide the digits of n bytes are: two for each byte, and one for each space between groups
abbrev pub digits_width : ℕ → ℕ → ℕ
digits_width group n = 2 * n + (n - 1) / group

abbrev pub tilde : ℕ
tilde = 126

abbrev pub full_stop : ℕ
full_stop = 46

-- a byte of printable ASCII as it is, any other as a full stop
abbrev pub shown_byte : ℕ → ℕ
shown_byte byte = if is_in_range space tilde byte then byte else full_stop

-- the bytes as text, after spaces in place of the digits that a full row has more, if the dump has texts
abbrev pub text_column : HexDump → List ℕ → List ℕ
text_column dump row =
    if dump.ascii
    then replicate (digits_width (bytes_per_group dump) (bytes_per_row dump) - digits_width (bytes_per_group dump) (length row)) space
    ++ (codes "  " ++ map shown_byte row)
    else []

-- a row that has `before` bytes before it
abbrev pub row_text : HexDump → ℕ → List ℕ → List ℕ
row_text dump before row =
    offset_column dump.offset before
    ++ (digits_column (bytes_per_group dump) row ++ (text_column dump row ++ codes "\n"))

-- rows in a row, the first of which has `before` bytes before it
abbrev pub rows_text : HexDump → ℕ → List (List ℕ) → List ℕ
rows_text dump before [] = []
rows_text dump before (row ∷ rest) = row_text dump before row ++ rows_text dump (before + length row) rest

-- the text of a dump
abbrev pub dump_text : HexDump → List ℕ → List ℕ
dump_text dump bytes = rows_text dump 0 (rows dump bytes)

-- rows of n bytes each, but for the last, which has at least one; joined they are the bytes
pub record AreRowsOf (n : ℕ) (bytes : List ℕ) (rs : List (List ℕ)) : Type 0 where
  pub joined : concat rs ≡ bytes
  pub full : (k : ℕ) → k + 1 < length rs → length (slice_index_or rs k []) ≡ n
  pub some : All (λ row. 0 < length row) rs
  pub within : All (λ row. length row ≤ n) rs

-- the rows of a dump are rows of all its bytes
abbrev pub DumpHasEachByte : Type 0
DumpHasEachByte = (dump : HexDump) (bytes : List ℕ) → AreRowsOf (bytes_per_row dump) bytes (rows dump bytes)

-- the digits of each row are as wide as said
abbrev pub DigitsHaveTheirWidth : Type 0
DigitsHaveTheirWidth = (dump : HexDump) (row : List ℕ) → length (digits_column (bytes_per_group dump) row) ≡ digits_width (bytes_per_group dump) (length row)

-- an offset of eight digits, a colon and a space
abbrev pub offset_width : Option ℕ → ℕ
offset_width None = 0
offset_width (Some first) = 10

-- how many bytes a row has before its text: its offset, the digits of a full row, and two spaces
abbrev pub text_start : HexDump → ℕ
text_start dump = offset_width dump.offset + (digits_width (bytes_per_group dump) (bytes_per_row dump) + 2)

-- the offsets of so many bytes are below 2^32, where a dump has offsets: each has eight digits
abbrev pub OffsetsAreShort : Option ℕ → ℕ → Type 0
OffsetsAreShort None count = ⊤
OffsetsAreShort (Some first) count = first + count ≤ 2 ^ 32

-- a line has so many bytes, then the row's bytes as text, and a line feed
pub record HasTextAt (start : ℕ) (row : List ℕ) (line : List ℕ) : Type 0 where
  pub front : List ℕ
  pub parts : line ≡ front ++ (map shown_byte row ++ codes "\n")
  pub width : length front ≡ start

-- a text has a line for each row, in order, and the texts of all rows begin in this column
pub record HasTextsAt (start : ℕ) (rs : List (List ℕ)) (text : List ℕ) : Type 0 where
  pub lines : List (List ℕ)
  pub joined : concat lines ≡ text
  pub count : length lines ≡ length rs
  pub each : (k : ℕ) → k < length rs → HasTextAt start (slice_index_or rs k []) (slice_index_or lines k [])

-- in a dump with texts, these begin in one column, as long as the offsets are below 2^32
abbrev pub TextsBeginInOneColumn : Type 0
TextsBeginInOneColumn = (dump : HexDump) (bytes : List ℕ) → dump.ascii ≡ true → OffsetsAreShort dump.offset (length bytes)
    → HasTextsAt (text_start dump) (rows dump bytes) (dump_text dump bytes)
