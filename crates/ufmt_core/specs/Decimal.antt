-- Decimal texts of whole numbers: which text denotes which number.
use Rattle.std.specs.Prelude.{◌≡◌, ℕ, zero, suc, ◌+◌, ◌*◌, ◌^◌, ◌<◌, List, [], ◌∷◌, ◌++◌, map, length, slice_index, codes, ℤ, pos, negsuc, nat_abs}
use Rattle.std.specs.List.{All}
use Rattle.std.specs.Int.Digits.{digits_of}
use Rattle.ufmt_core.specs.Bytes.{zero_digit}

-- the value of digits in a base, the highest first: the base to the power of the digits after it, for each digit
abbrev pub value_in_base : ℕ → List ℕ → ℕ
value_in_base base [] = 0
value_in_base base (digit ∷ digits) = digit * base ^ length digits + value_in_base base digits

-- these digits denote n in the base: at least one, each below the base, the first not 0 unless it is the only one
pub record DenotesInBase (base : ℕ) (digits : List ℕ) (n : ℕ) : Type 0 where
  pub some_digit : 0 < length digits
  pub below_base : All (λ digit. digit < base) digits
  pub no_leading_zero : slice_index digits 0 ≡ 0 → digits ≡ 0 ∷ []
  pub value : value_in_base base digits ≡ n

-- the byte of a decimal digit
abbrev pub decimal_byte : ℕ → ℕ
decimal_byte digit = zero_digit + digit

-- the text is the bytes of decimal digits that denote n
pub record DenotesMagnitude (text : List ℕ) (n : ℕ) : Type 0 where
  pub digits : List ℕ
  pub bytes : text ≡ map decimal_byte digits
  pub denotes : DenotesInBase 10 digits n

-- `-` for a negative number, else nothing
abbrev pub sign_of : ℤ → List ℕ
sign_of (pos n) = []
sign_of (negsuc n) = codes "-"

-- the text is the number's sign, and then a text that denotes its magnitude
pub record DenotesDecimal (text : List ℕ) (z : ℤ) : Type 0 where
  pub magnitude : List ℕ
  pub signed : text ≡ sign_of z ++ magnitude
  pub denotes : DenotesMagnitude magnitude (nat_abs z)

-- for the proof only: digits of a number, of which 0 has one too
unfoldable pub numeral : ℕ → ℕ → List ℕ
numeral base zero = 0 ∷ []
numeral base (suc n) = digits_of base (suc n)

-- the text that denotes this number: `EachNumberIsDenoted` and `OneTextDenotes` leave only one
unfoldable pub decimal : ℤ → List ℕ
decimal z = sign_of z ++ map decimal_byte (numeral 10 (nat_abs z))

-- `decimal` gives each number a text that denotes it
abbrev pub EachNumberIsDenoted : Type 0
EachNumberIsDenoted = (z : ℤ) → DenotesDecimal (decimal z) z

-- no other text denotes the number
abbrev pub OneTextDenotes : Type 0
OneTextDenotes = (z : ℤ) (text : List ℕ) → DenotesDecimal text z → text ≡ decimal z

-- no text denotes two numbers
abbrev pub OneNumberIsDenoted : Type 0
OneNumberIsDenoted = (text : List ℕ) (y z : ℤ) → DenotesDecimal text y → DenotesDecimal text z → y ≡ z
