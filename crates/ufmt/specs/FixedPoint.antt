-- Texts of fixed-point numbers: a number of the least unit, and how many of its digits come after the point.
use Rattle.std.specs.Prelude.{◌≡◌, ℕ, ℤ, nat_abs, ◌<◌, List, [], ◌∷◌, ◌++◌, map, length, slice_index, codes}
use Rattle.std.specs.List.{All}
use Rattle.ufmt_core.specs.Decimal.{decimal_byte, sign_of, value_in_base}
use Rattle.ufmt_fixed.specs.Text.{fixed_digits}

-- the text of a fixed-point number
abbrev pub fixed : ℕ → ℤ → List ℕ
fixed places z = sign_of z ++ fixed_digits places (nat_abs z)

-- digits as bytes after a point; no digits have none
abbrev pub point_and : List ℕ → List ℕ
point_and [] = []
point_and (digit ∷ digits) = codes "." ++ map decimal_byte (digit ∷ digits)

-- the text is the number's sign, digits, and a point with so many more digits; all digits joined denote the magnitude
pub record DenotesFixed (places : ℕ) (text : List ℕ) (z : ℤ) : Type 0 where
  pub before : List ℕ
  pub after : List ℕ
  pub bytes : text ≡ sign_of z ++ (map decimal_byte before ++ point_and after)
  pub some_digit : 0 < length before
  pub no_leading_zero : slice_index before 0 ≡ 0 → before ≡ 0 ∷ []
  pub below_ten : All (λ digit. digit < 10) (before ++ after)
  pub all_places : length after ≡ places
  pub value : value_in_base 10 (before ++ after) ≡ nat_abs z

-- `fixed` gives each number a text that denotes it
abbrev pub EachFixedIsDenoted : Type 0
EachFixedIsDenoted = (places : ℕ) (z : ℤ) → DenotesFixed places (fixed places z) z

-- no text denotes two numbers, or one number with two numbers of places
abbrev pub OneFixedIsDenoted : Type 0
OneFixedIsDenoted = (p q : ℕ) (text : List ℕ) (y z : ℤ) → DenotesFixed p text y → DenotesFixed q text z → (p ≡ q) × (y ≡ z)

-- fixed-point numbers with one text have as many places, and are equal
abbrev pub FixedTextDetermines : Type 0
FixedTextDetermines = (p q : ℕ) (y z : ℤ) → fixed p y ≡ fixed q z → (p ≡ q) × (y ≡ z)
