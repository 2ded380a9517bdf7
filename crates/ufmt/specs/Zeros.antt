-- Decimal texts with zeros between the sign and the digits.
use Rattle.std.specs.Prelude.{◌≡◌, ℕ, ℤ, pos, nat_abs, ◌+◌, ◌-◌, max, Bool, if◌then◌else◌, List, [], ◌++◌, length, replicate, codes}
use Rattle.ufmt_core.specs.Bytes.{zero_digit}
use Rattle.ufmt_core.specs.Decimal.{decimal, sign_of}

-- `-` if asked, else nothing
abbrev pub minus_if : Bool → List ℕ
minus_if is_negative = if is_negative then codes "-" else []

-- a sign, zeros and digits: as many zeros as the text is short of the width
abbrev pub zero_filled : ℕ → List ℕ → List ℕ → List ℕ
zero_filled width sign digits = sign ++ (replicate (width - (length sign + length digits)) zero_digit ++ digits)

-- the decimal text of a number with zeros up to the width
abbrev pub zero_padded : ℕ → ℤ → List ℕ
zero_padded width z = zero_filled width (sign_of z) (decimal (pos (nat_abs z)))

-- zeros are between the sign and the digits of the number's text, which has the width, or its own length if that is more
pub record IsZeroPadded (width : ℕ) (z : ℤ) (text : List ℕ) : Type 0 where
  pub digits : List ℕ
  pub natural : decimal z ≡ sign_of z ++ digits
  pub zeros : ℕ
  pub placed : text ≡ sign_of z ++ (replicate zeros zero_digit ++ digits)
  pub reaches : length text ≡ max width (length (decimal z))

-- an unsigned number prints its zero-padded text, and so does a signed one
abbrev pub PrintsZeros : (ℕ → ℕ → List ℕ) → Type 0
PrintsZeros text = (n width : ℕ) → text n width ≡ zero_padded width (pos n)

abbrev pub PrintsSignAndZeros : (ℤ → ℕ → List ℕ) → Type 0
PrintsSignAndZeros text = (z : ℤ) (width : ℕ) → text z width ≡ zero_padded width z
