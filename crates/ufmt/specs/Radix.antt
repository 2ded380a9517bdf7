-- Texts of whole numbers in a base up to sixteen, and how options pad a text.
use Rattle.std.specs.Prelude.{◌≡◌, ◌⊎◌, max, All, ℕ, ℤ, ◌+◌, ◌-◌, ◌<◌, Bool, true, false, ◌==◌, nat_lt, if◌then◌else◌, List, [], ◌++◌, map, length, replicate, codes}
use Rattle.std.specs.Int.{Width, cast_unsigned}
use Rattle.ufmt_core.specs.Bytes.{lower_a, space, upper_a, zero_digit}
use Rattle.ufmt_core.specs.Decimal.{DenotesInBase, numeral}
use Rattle.ufmt.specs.Column.{PadsToWidth}
use Rattle.ufmt.specs.declared.hex.HexOptions.{HexOptions}
use Rattle.ufmt.specs.declared.radix.Radix.{Radix}
use Rattle.ufmt.specs.declared.radix.Radix.TheVariants.{Binary, Octal, Hexadecimal}

-- the letter of the digit ten: `A` in upper case, or else `a`
abbrev pub letter_of_ten : Bool → ℕ
letter_of_ten true = upper_a
letter_of_ten false = lower_a

-- the byte of a digit: `0` to `9`, and then letters
abbrev pub digit_byte : Bool → ℕ → ℕ
digit_byte upper_case digit = if nat_lt digit 10 then zero_digit + digit else letter_of_ten upper_case + (digit - 10)

-- a text denotes n in a base if its bytes are those of digits that denote n there
pub record DenotesIn (base : ℕ) (upper_case : Bool) (text : List ℕ) (n : ℕ) : Type 0 where
  pub digits : List ℕ
  pub bytes : text ≡ map (digit_byte upper_case) digits
  pub denotes : DenotesInBase base digits n

-- the digits of a number in a base: by `EachNumberIsDenoted` and `OneTextDenotes`, the only text that denotes it in its case of letters
unfoldable pub digits_in : ℕ → Bool → ℕ → List ℕ
digits_in base upper_case n = map (digit_byte upper_case) (numeral base n)

-- in each case of letters, `digits_in` gives a text that denotes the number
abbrev pub EachNumberIsDenoted : ℕ → Type 0
EachNumberIsDenoted base = (upper_case : Bool) (n : ℕ) → DenotesIn base upper_case (digits_in base upper_case n) n

-- no other text in the same case of letters denotes the number
abbrev pub OneTextDenotes : ℕ → Type 0
OneTextDenotes base = (upper_case : Bool) (n : ℕ) (text : List ℕ) → DenotesIn base upper_case text n → text ≡ digits_in base upper_case n

-- no text denotes two numbers
abbrev pub OneNumberIsDenoted : ℕ → Type 0
OneNumberIsDenoted base = (upper_case : Bool) (text : List ℕ) (m n : ℕ) → DenotesIn base upper_case text m → DenotesIn base upper_case text n → m ≡ n

-- the base of a radix
abbrev pub base_of : Radix → ℕ
base_of Binary = 2
base_of Octal = 8
base_of Hexadecimal = 16

-- the prefix in hexadecimal: `0x`, or `0X` in upper case
abbrev pub hexadecimal_prefix : Bool → List ℕ
hexadecimal_prefix upper_case = if upper_case then codes "0X" else codes "0x"

-- the prefix in a radix, of which only the hexadecimal one has two cases
abbrev pub radix_prefix : Radix → Bool → List ℕ
radix_prefix Binary upper_case = codes "0b"
radix_prefix Octal upper_case = codes "0o"
radix_prefix Hexadecimal upper_case = hexadecimal_prefix upper_case

-- the prefix in a radix, if the options ask for one
abbrev pub prefix_in : Radix → HexOptions → List ℕ
prefix_in radix options = if options.ox_prefix then radix_prefix radix options.upper_case else []

-- the pad bytes that fill prefix and payload up to the pad length
abbrev pub padding_of : HexOptions → List ℕ → List ℕ → List ℕ
padding_of options prefix payload = replicate (options.pad_length - (length prefix + length payload)) options.pad_char

-- padding with spaces comes before the prefix, other padding after it
abbrev pub pads_first : HexOptions → Bool
pads_first options = options.pad_char == space

-- the payload with this prefix and its padding
abbrev pub padded_after : List ℕ → HexOptions → List ℕ → List ℕ
padded_after prefix options payload =
    if pads_first options
    then padding_of options prefix payload ++ (prefix ++ payload)
    else prefix ++ (padding_of options prefix payload ++ payload)

-- with options that have any pad length, and an ASCII pad byte, a text pads to that length
abbrev pub PadsToLength : (HexOptions → List ℕ) → Type 0
PadsToLength text = (options : HexOptions) → options.pad_char < 128 → PadsToWidth (λ length. text (record options { pad_length = length }))

-- the padded text of a number in a radix
abbrev pub padded_in : Radix → HexOptions → ℕ → List ℕ
padded_in radix options n = padded_after (prefix_in radix options) options (digits_in (base_of radix) options.upper_case n)

-- the printed text of a number is its padded text in each radix
abbrev pub PrintsInRadix : (ℕ → Radix → HexOptions → List ℕ) → Type 0
PrintsInRadix text = (n : ℕ) (radix : Radix) (options : HexOptions) → text n radix options ≡ padded_in radix options n

-- a signed number of this width is printed as the unsigned number with the same bits
abbrev pub PrintsBitsInRadix : Width → (ℤ → Radix → HexOptions → List ℕ) → (ℕ → Radix → HexOptions → List ℕ) → Type 0
PrintsBitsInRadix width signed unsigned =
    (z : ℤ) (radix : Radix) (options : HexOptions) → signed z radix options ≡ unsigned (cast_unsigned width z) radix options

-- a padded text is prefix and payload with pad bytes before one of them; it has the pad length, or that of prefix and payload if they are longer
pub record IsPadded (prefix : List ℕ) (options : HexOptions) (payload : List ℕ) (text : List ℕ) : Type 0 where
  pub padding : List ℕ
  pub pad_bytes : All (λ byte. byte ≡ options.pad_char) padding
  pub placed : (text ≡ padding ++ (prefix ++ payload)) ⊎ (text ≡ prefix ++ (padding ++ payload))
  pub reaches : length text ≡ max options.pad_length (length (prefix ++ payload))
