-- A row of a dump is ASCII.
use Rattle.std.proofs.Common.{ℕ, zero, suc, ◌+◌, ◌-◌, ◌/◌, ◌%◌, ◌<◌, true, false, Bool, if◌then◌else◌, Option, None, Some, List, [], ◌∷◌, ◌++◌, get_or, length, map, replicate, codes, arith}
use Rattle.std.specs.Str.{IsAscii}
use Rattle.std.proofs.lemmas.Bool.Decides.{nat_tests}
use Rattle.std.proofs.lemmas.Str.{IsAscii-append}
use Rattle.std.proofs.lemmas.Str.Ascii.{IsAscii-cons, IsAscii-nil}
use Rattle.ufmt_core.specs.Bytes.{space, zero_digit}
use Rattle.ufmt_core.proofs.NumeralTexts.{IsAscii-text}
use Rattle.ufmt.specs.declared.dump.HexDump.{HexDump}
use Rattle.ufmt.specs.Dump.{byte_digits, bytes_per_group, bytes_per_row, digits_column, digits_width, offset_column, offset_text, row_text, shown_byte, text_column}
use Rattle.ufmt.specs.Hex.{hexadecimal}
use Rattle.ufmt.specs.Radix.{digit_byte}
use Rattle.ufmt.proofs.Dumps.{bytes_per_group-some, digits_from, digits_from-row}
use Rattle.ufmt.proofs.RadixTexts.{byte-ascii, digits-in_base}

-- each element is a byte
abbrev pub AreBytes : List ℕ → Type 0
AreBytes row = (k : ℕ) → get_or row k 0 < 256

pub IsAscii-replicate : (n byte : ℕ) → byte < 128 → IsAscii (replicate n byte)
IsAscii-replicate zero byte low = IsAscii-nil
IsAscii-replicate (suc n) byte low = IsAscii-cons byte (replicate n byte) low (IsAscii-replicate n byte low)

shown-ascii : (byte : ℕ) → shown_byte byte < 128
shown-ascii byte = grind (arith, nat_tests)

pub IsAscii-shown : (row : List ℕ) → IsAscii (map shown_byte row)
IsAscii-shown [] = IsAscii-nil
IsAscii-shown (byte ∷ row) = IsAscii-cons (shown_byte byte) (map shown_byte row) (shown-ascii byte) (IsAscii-shown row)

pub IsAscii-two : (a b : ℕ) → a < 128 → b < 128 → IsAscii (a ∷ b ∷ [])
IsAscii-two a b low_a low_b = IsAscii-cons a (b ∷ []) low_a (IsAscii-cons b [] low_b IsAscii-nil)

IsAscii-byte_digits : (byte : ℕ) → byte < 256 → IsAscii (byte_digits byte)
IsAscii-byte_digits byte low =
    IsAscii-two (digit_byte false (byte / 16)) (digit_byte false (byte % 16)) (byte-ascii false (byte / 16) (omega arith))
    (byte-ascii false (byte % 16) (omega arith))

IsAscii-digits_from : (group left : ℕ) (row : List ℕ) → AreBytes row → IsAscii (digits_from group left row)
unfolding digits_from
IsAscii-digits_from group zero [] bytes = IsAscii-nil
IsAscii-digits_from group (suc left) [] bytes = IsAscii-nil
IsAscii-digits_from group zero (byte ∷ row) bytes =
    let rest = digits_from group (group - 1) row in
    IsAscii-cons space (byte_digits byte ++ rest) (omega arith)
    (IsAscii-append (byte_digits byte) rest (IsAscii-byte_digits byte (bytes 0)) (IsAscii-digits_from group (group - 1) row (λ k. bytes (suc k))))
IsAscii-digits_from group (suc left) (byte ∷ row) bytes =
    IsAscii-append (byte_digits byte) (digits_from group left row) (IsAscii-byte_digits byte (bytes 0)) (IsAscii-digits_from group left row (λ k. bytes (suc k)))

pub IsAscii-digits_column : (group : ℕ) (row : List ℕ) → 0 < group → AreBytes row → IsAscii (digits_column group row)
IsAscii-digits_column group row some bytes = rw (digits_from-row group row some) (IsAscii-digits_from group group row bytes)

IsAscii-offset : (offset : Option ℕ) (before : ℕ) → IsAscii (offset_column offset before)
IsAscii-offset None before = IsAscii-nil
IsAscii-offset (Some first) before =
    let digits = hexadecimal false (first + before) in
    IsAscii-append (offset_text (first + before)) (codes ": ")
    (IsAscii-append (replicate (8 - length digits) zero_digit) digits (IsAscii-replicate (8 - length digits) zero_digit (omega arith)) (IsAscii-text (digits-in_base 16 (omega arith) false) (byte-ascii false) (first + before)))
    (IsAscii-two 58 32 (omega arith) (omega arith))

IsAscii-if : (b : Bool) (text : List ℕ) → IsAscii text → IsAscii (if b then text else [])
IsAscii-if false text ascii = IsAscii-nil
IsAscii-if true text ascii = ascii

IsAscii-text_column : (dump : HexDump) (row : List ℕ) → IsAscii (text_column dump row)
IsAscii-text_column dump row =
    let missing = digits_width (bytes_per_group dump) (bytes_per_row dump) - digits_width (bytes_per_group dump) (length row) in
    let shown = codes "  " ++ map shown_byte row in
    IsAscii-if dump.ascii (replicate missing space ++ shown)
    (IsAscii-append (replicate missing space) shown (IsAscii-replicate missing space (omega arith))
    (IsAscii-append (codes "  ") (map shown_byte row) (IsAscii-two 32 32 (omega arith) (omega arith)) (IsAscii-shown row)))

pub IsAscii-row_text : (dump : HexDump) (before : ℕ) (row : List ℕ) → AreBytes row → IsAscii (row_text dump before row)
IsAscii-row_text dump before row bytes =
    let digits = digits_column (bytes_per_group dump) row in
    let rest = text_column dump row ++ codes "\n" in
    IsAscii-append (offset_column dump.offset before) (digits ++ rest) (IsAscii-offset dump.offset before)
    (IsAscii-append digits rest
    (IsAscii-digits_column (bytes_per_group dump) row (bytes_per_group-some dump) bytes)
    (IsAscii-append (text_column dump row) (codes "\n") (IsAscii-text_column dump row) (IsAscii-cons 10 [] (omega arith) IsAscii-nil)))
