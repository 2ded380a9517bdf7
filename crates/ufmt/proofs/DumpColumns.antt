-- The texts of a dump's rows begin in one column.
use Rattle.std.proofs.Common.{◌≡◌, refl, ap, false, true, ℕ, zero, suc, ◌+◌, ◌-◌, ◌/◌, ◌^◌, ◌<◌, ◌≤◌, List, [], ◌∷◌, ◌++◌, Option, None, Some, length, replicate, arith, append_assoc, codes}
use Rattle.std.proofs.Math.Nat.{div-mul-le_self}
use Rattle.std.proofs.lemmas.List.{length-append, length-replicate}
use Rattle.std.proofs.lemmas.List.Elements.{All-head, All-tail}
use Rattle.std.proofs.lemmas.Nat.{le-div}
use Rattle.std.specs.List.{All, concat, slice_index_or}
use Rattle.ufmt_core.specs.Bytes.{space, zero_digit}
use Rattle.ufmt_core.proofs.NumeralTexts.{length-text-le}
use Rattle.ufmt.specs.declared.dump.HexDump.{HexDump}
use Rattle.ufmt.specs.Dump.{HasTextAt, HasTextsAt, OffsetsAreShort, bytes_per_group, bytes_per_row, digits_column, digits_width, dump_text, offset_column, offset_text, offset_width, row_text, rows, rows_text, text_start}
use Rattle.ufmt.specs.Hex.{hexadecimal}
use Rattle.ufmt.proofs.DumpRows.{AreRowsOf-chunks, length-digits_column}
use Rattle.ufmt.proofs.Dumps.{bytes_per_group-some, bytes_per_row-some}
use Rattle.ufmt.proofs.RadixTexts.{digits-in_base}

-- an offset below 2^32 has eight digits
length-offset_text : (offset : ℕ) → offset < 2 ^ 32 → length (offset_text offset) ≡ 8
length-offset_text offset low =
    let digits = length-text-le (digits-in_base 16 (omega arith) false) 8 offset (omega arith) low in
    omega (arith, digits, length-append (replicate (8 - length (hexadecimal false offset)) zero_digit) (hexadecimal false offset), length-replicate (8 - length (hexadecimal false offset)) zero_digit)

length-offset_column : (offset : Option ℕ) (before count : ℕ) → before < count → OffsetsAreShort offset count → length (offset_column offset before) ≡ offset_width offset
length-offset_column None before count within short = refl
length-offset_column (Some first) before count within short =
    omega (arith, length-offset_text (first + before) (omega arith), length-append (offset_text (first + before)) (codes ": "))

-- a row of at most as many bytes has no wider digits
width_grows : (group n per_row : ℕ) → 0 < group → n ≤ per_row → digits_width group n ≤ digits_width group per_row
width_grows group n per_row some within =
    let ordered : (n - 1) / group ≤ (per_row - 1) / group = le-div ((n - 1) / group) (per_row - 1) group some (omega (arith, div-mul-le_self (n - 1) group)) in
    omega (arith, ordered)

-- what is before a row's text
abbrev front_of : HexDump → ℕ → List ℕ → List ℕ
front_of dump before row =
    offset_column dump.offset before
    ++ (digits_column (bytes_per_group dump) row
    ++ (replicate (digits_width (bytes_per_group dump) (bytes_per_row dump) - digits_width (bytes_per_group dump) (length row)) space ++ codes "  "))

row_has_text : (dump : HexDump) (before count : ℕ) (row : List ℕ) → dump.ascii ≡ true → OffsetsAreShort dump.offset count → before < count
    → length row ≤ bytes_per_row dump → HasTextAt (text_start dump) row (row_text dump before row)
row_has_text dump before count row ascii short within fits =
    let group = bytes_per_group dump in
    let missing = digits_width group (bytes_per_row dump) - digits_width group (length row) in
    let digits = length-digits_column group row (bytes_per_group-some dump) in
    let ordered = width_grows group (length row) (bytes_per_row dump) (bytes_per_group-some dump) fits in
    record {
      front = front_of dump before row;
      parts = rw (ascii, append_assoc, append_assoc, append_assoc, append_assoc, append_assoc) refl;
      width = omega (
        arith,
        digits,
        ordered,
        length-offset_column dump.offset before count within short,
        length-replicate missing space,
        length-append (offset_column dump.offset before) (digits_column group row ++ (replicate missing space ++ codes "  ")),
        length-append (digits_column group row) (replicate missing space ++ codes "  "),
        length-append (replicate missing space) (codes "  "),
      );
    }

-- the lines of rows, the first of which has `before` bytes before it
abbrev dump_lines : HexDump → ℕ → List (List ℕ) → List (List ℕ)
dump_lines dump before [] = []
dump_lines dump before (row ∷ rest) = row_text dump before row ∷ dump_lines dump (before + length row) rest

lines-joined : (dump : HexDump) (before : ℕ) (rs : List (List ℕ)) → concat (dump_lines dump before rs) ≡ rows_text dump before rs
lines-joined dump before [] = refl
lines-joined dump before (row ∷ rest) = ap (λ t. row_text dump before row ++ t) (lines-joined dump (before + length row) rest)

length-lines : (dump : HexDump) (before : ℕ) (rs : List (List ℕ)) → length (dump_lines dump before rs) ≡ length rs
length-lines dump before [] = refl
length-lines dump before (row ∷ rest) = ap suc (length-lines dump (before + length row) rest)

each_line : (dump : HexDump) (before count : ℕ) (rs : List (List ℕ)) → dump.ascii ≡ true → OffsetsAreShort dump.offset count
    → All (λ row. 0 < length row) rs → All (λ row. length row ≤ bytes_per_row dump) rs → before + length (concat rs) ≤ count
    → (k : ℕ) → k < length rs → HasTextAt (text_start dump) (slice_index_or rs k []) (slice_index_or (dump_lines dump before rs) k [])
each_line dump before count [] ascii short some fits left k within = absurd (omega arith)
each_line dump before count (row ∷ rest) ascii short some fits left zero within =
    let byte = All-head (λ (r : List ℕ). 0 < length r) row rest some in
    row_has_text dump before count row ascii short (omega (arith, byte, left, length-append row (concat rest))) (All-head (λ (r : List ℕ). length r ≤ bytes_per_row dump) row rest fits)
each_line dump before count (row ∷ rest) ascii short some fits left (suc k) within =
    each_line dump (before + length row) count rest ascii short (All-tail (λ (r : List ℕ). 0 < length r) row rest some)
    (All-tail (λ (r : List ℕ). length r ≤ bytes_per_row dump) row rest fits) (omega (arith, left, length-append row (concat rest))) k (omega arith)

-- the texts of a dump's rows begin in one column
pub texts_begin_in_one_column : (dump : HexDump) (bytes : List ℕ) → dump.ascii ≡ true → OffsetsAreShort dump.offset (length bytes)
    → HasTextsAt (text_start dump) (rows dump bytes) (dump_text dump bytes)
texts_begin_in_one_column dump bytes ascii short =
    let are = AreRowsOf-chunks (bytes_per_row dump) bytes (bytes_per_row-some dump) in
    record {
      lines = dump_lines dump 0 (rows dump bytes);
      joined = lines-joined dump 0 (rows dump bytes);
      count = length-lines dump 0 (rows dump bytes);
      each = each_line dump 0 (length bytes) (rows dump bytes) ascii short are.some are.within (omega (arith, ap length are.joined));
    }
