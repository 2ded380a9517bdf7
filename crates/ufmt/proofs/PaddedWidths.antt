-- How many characters padded texts have: as many as they are padded to, or their own number if that is more.
use Rattle.std.proofs.Common.{◌≡◌, inl, ℕ, suc, ◌+◌, ◌-◌, ◌<◌, ◌≤◌, max, min, ℤ, pos, negsuc, nat_abs, Bool, true, false, List, [], ◌∷◌, ◌++◌, length, replicate, refl, ◌∙◌, arith}
use Rattle.std.specs.Fmt.{char_count, is_char_start}
use Rattle.std.specs.Str.{IsAscii}
use Rattle.std.proofs.lemmas.List.{length-replicate}
use Rattle.std.proofs.lemmas.Str.Ascii.{IsAscii-cons, IsAscii-nil}
use Rattle.ufmt_core.specs.Bytes.{zero_digit}
use Rattle.ufmt_core.specs.Decimal.{decimal, sign_of}
use Rattle.ufmt_core.proofs.DecimalTexts.{IsAscii-decimal}
use Rattle.ufmt_core.proofs.NumeralTexts.{IsAscii-text}
use Rattle.ufmt.specs.Column.{PadsToWidth}
use Rattle.ufmt_fixed.specs.Text.{fixed_digits}
use Rattle.ufmt.specs.Hex.{padded_hexadecimal}
use Rattle.ufmt.specs.Radix.{base_of, digits_in, padded_after, padded_in, pads_first, prefix_in, radix_prefix}
use Rattle.ufmt.specs.Zeros.{zero_filled, zero_padded}
use Rattle.ufmt.specs.declared.hex.HexOptions.{HexOptions}
use Rattle.ufmt.specs.declared.radix.Radix.{Radix}
use Rattle.ufmt.specs.declared.radix.Radix.TheVariants.{Binary, Octal, Hexadecimal}
use Rattle.ufmt.proofs.AsciiDumps.{IsAscii-replicate, IsAscii-two}
use Rattle.ufmt.proofs.Columns.{begins, char_count-append}
use Rattle.ufmt.proofs.DecimalsAreLeaves.{IsAscii-fixed_digits}
use Rattle.ufmt.proofs.RadixTexts.{byte-ascii, digits-in_base}

-- each byte of an ASCII text is a character
pub char_count-ascii : (text : List ℕ) → IsAscii text → char_count text ≡ length text
unfolding char_count
char_count-ascii [] ascii = refl
char_count-ascii (b ∷ text) ascii =
    let one : is_char_start b ≡ true = begins b (inl (ascii 0)) in
    rw one (omega (arith, char_count-ascii text (λ i. ascii (suc i))))

pub char_count-pad : (n pad : ℕ) → pad < 128 → char_count (replicate n pad) ≡ n
char_count-pad n pad low = char_count-ascii (replicate n pad) (IsAscii-replicate n pad low) ∙ length-replicate n pad

module _ (prefix payload : List ℕ) (prefix_ascii : IsAscii prefix) (payload_ascii : IsAscii payload) where
  placed : (options : HexOptions) → options.pad_char < 128 → (first : Bool) → pads_first options ≡ first
      → char_count (padded_after prefix options payload) ≡ max options.pad_length (length prefix + length payload)
  placed options low true is =
      let pad = replicate (options.pad_length - (length prefix + length payload)) options.pad_char in
      rw is (omega (
        arith,
        char_count-append pad (prefix ++ payload),
        char_count-append prefix payload,
        char_count-pad (options.pad_length - (length prefix + length payload)) options.pad_char low,
        char_count-ascii prefix prefix_ascii,
        char_count-ascii payload payload_ascii,
      ))
  placed options low false is =
      let pad = replicate (options.pad_length - (length prefix + length payload)) options.pad_char in
      rw is (omega (
        arith,
        char_count-append prefix (pad ++ payload),
        char_count-append pad payload,
        char_count-pad (options.pad_length - (length prefix + length payload)) options.pad_char low,
        char_count-ascii prefix prefix_ascii,
        char_count-ascii payload payload_ascii,
      ))

  -- an ASCII payload after an ASCII prefix pads to each length
  PadsToWidth-padded : (options : HexOptions) → options.pad_char < 128 → PadsToWidth (λ length. padded_after prefix (record options { pad_length = length }) payload)
  PadsToWidth-padded options low width =
      let wide = record options { pad_length = width } in
      let none = record options { pad_length = 0 } in
      omega (arith, placed wide low (pads_first options) refl, placed none low (pads_first options) refl)

IsAscii-radix_prefix : (radix : Radix) (upper_case : Bool) → IsAscii (radix_prefix radix upper_case)
IsAscii-radix_prefix Binary upper_case = IsAscii-two 48 98 (omega arith) (omega arith)
IsAscii-radix_prefix Octal upper_case = IsAscii-two 48 111 (omega arith) (omega arith)
IsAscii-radix_prefix Hexadecimal true = IsAscii-two 48 88 (omega arith) (omega arith)
IsAscii-radix_prefix Hexadecimal false = IsAscii-two 48 120 (omega arith) (omega arith)

IsAscii-prefix : (radix : Radix) (options : HexOptions) (some : Bool) → options.ox_prefix ≡ some → IsAscii (prefix_in radix options)
IsAscii-prefix radix options true is = rw is (IsAscii-radix_prefix radix options.upper_case)
IsAscii-prefix radix options false is = rw is IsAscii-nil

base_low : (radix : Radix) → (2 ≤ base_of radix) × (base_of radix ≤ 16)
base_low Binary = (omega arith, omega arith)
base_low Octal = (omega arith, omega arith)
base_low Hexadecimal = (omega arith, omega arith)

IsAscii-digits : (radix : Radix) (upper_case : Bool) (n : ℕ) → IsAscii (digits_in (base_of radix) upper_case n)
IsAscii-digits radix upper_case n =
    IsAscii-text (digits-in_base (base_of radix) (base_low radix).0 upper_case)
    (λ digit low. byte-ascii upper_case digit (omega (arith, low, (base_low radix).1))) n

-- a number pads to each length, in each radix
pub pads_in_radix : (radix : Radix) (n : ℕ) (options : HexOptions) → options.pad_char < 128
    → PadsToWidth (λ length. padded_in radix (record options { pad_length = length }) n)
pads_in_radix radix n options low =
    PadsToWidth-padded (prefix_in radix options) (digits_in (base_of radix) options.upper_case n) (IsAscii-prefix radix options options.ox_prefix refl)
    (IsAscii-digits radix options.upper_case n) options low

pub pads_in_hexadecimal : (n : ℕ) (options : HexOptions) → options.pad_char < 128
    → PadsToWidth (λ length. padded_hexadecimal (record options { pad_length = length }) n)
pads_in_hexadecimal = pads_in_radix Hexadecimal

IsAscii-sign : (z : ℤ) → IsAscii (sign_of z)
IsAscii-sign (pos n) = IsAscii-nil
IsAscii-sign (negsuc n) = IsAscii-cons 45 [] (omega arith) IsAscii-nil

-- options that pad with zeros, without a prefix
abbrev zero_options : HexOptions
zero_options = record { upper_case = false; pad_char = zero_digit; pad_length = 0; ox_prefix = false }

PadsToWidth-zero_filled : (z : ℤ) (digits : List ℕ) → IsAscii digits → PadsToWidth (λ width. zero_filled width (sign_of z) digits)
PadsToWidth-zero_filled z digits ascii = PadsToWidth-padded (sign_of z) digits (IsAscii-sign z) ascii zero_options (omega arith)

-- and so it does with zeros after its sign
pub pads_with_zeros : (z : ℤ) → PadsToWidth (λ width. zero_padded width z)
pads_with_zeros z = PadsToWidth-zero_filled z (decimal (pos (nat_abs z))) (IsAscii-decimal (pos (nat_abs z)))

pub pads_fixed : (places : ℕ) (z : ℤ) → PadsToWidth (λ width. zero_filled width (sign_of z) (fixed_digits places (nat_abs z)))
pads_fixed places z = PadsToWidth-zero_filled z (fixed_digits places (nat_abs z)) (IsAscii-fixed_digits places (nat_abs z))

-- what a padded text is short of a width: no more than without its padding, and than the length to which it pads
pub missing-padded : (padded unpadded width length : ℕ) → padded ≡ max length unpadded → min (width - unpadded) (width - length) ≡ width - padded
missing-padded padded unpadded width length pads = omega (arith, pads)
