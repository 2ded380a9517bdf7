-- Hexadecimal texts of whole numbers: those in base 16.
use Rattle.std.specs.Prelude.{◌≡◌, ℕ, ℤ, Bool, List}
use Rattle.std.specs.Int.{Width, cast_unsigned}
use Rattle.ufmt.specs.declared.hex.HexOptions.{HexOptions}
use Rattle.ufmt.specs.declared.radix.Radix.TheVariants.{Hexadecimal}
use Rattle.ufmt.specs.Radix.{digits_in, padded_after, padded_in, prefix_in}

-- the hexadecimal text of a number in a case of letters
abbrev pub hexadecimal : Bool → ℕ → List ℕ
hexadecimal = digits_in 16

-- the payload with its prefix and padding
abbrev pub padded : HexOptions → List ℕ → List ℕ
padded options = padded_after (prefix_in Hexadecimal options) options

-- the padded text of a number
abbrev pub padded_hexadecimal : HexOptions → ℕ → List ℕ
padded_hexadecimal = padded_in Hexadecimal

-- the printed text of a number is its padded hexadecimal text
abbrev pub PrintsHexadecimal : (ℕ → HexOptions → List ℕ) → Type 0
PrintsHexadecimal text = (n : ℕ) (options : HexOptions) → text n options ≡ padded_hexadecimal options n

-- a signed number of this width is printed as the unsigned number with the same bits
abbrev pub PrintsBits : Width → (ℤ → HexOptions → List ℕ) → (ℕ → HexOptions → List ℕ) → Type 0
PrintsBits width signed unsigned = (z : ℤ) (options : HexOptions) → signed z options ≡ unsigned (cast_unsigned width z) options
