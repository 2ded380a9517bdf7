-- The decimal digits at the front of a text, and the number that they denote.
use Rattle.std.specs.Prelude.{◌≡◌, ◌≢◌, ℕ, ◌+◌, ◌-◌, ◌*◌, ◌^◌, ◌<◌, ◌==◌, Bool, true, false, if◌then◌else◌, not, List, [], ◌∷◌, ◌++◌, Option, Some, None, codes, suc, ℤ, pos, negsuc, nat_abs}
use Rattle.std.specs.Char.{is_ascii_digit}
use Rattle.ufmt_core.specs.Bytes.{hyphen, zero_digit}
use Rattle.ufmt_core.specs.Decimal.{decimal}

abbrev pub begins_digit : List ℕ → Bool
begins_digit [] = false
begins_digit (c ∷ t) = is_ascii_digit c

-- a digit of a number comes first: no zero before another digit
abbrev pub begins_number : List ℕ → Bool
begins_number [] = false
begins_number (c ∷ t) = if c == zero_digit then not (begins_digit t) else is_ascii_digit c

-- the value of the digits at the front, after those of a number
abbrev pub value_after : ℕ → List ℕ → ℕ
value_after n [] = n
value_after n (c ∷ t) = if is_ascii_digit c then value_after (n * 10 + (c - zero_digit)) t else n

-- what follows the digits at the front
abbrev pub after_digits : List ℕ → List ℕ
after_digits [] = []
after_digits (c ∷ t) = if is_ascii_digit c then after_digits t else c ∷ t

-- the text is this number's, and then a text that begins with no digit
pub record IsFront (old : List ℕ) (z : ℤ) (new : List ℕ) : Type 0 where
  pub is : old ≡ decimal z ++ new
  pub ends : begins_digit new ≡ false

-- the magnitude at the front, if it is in range
abbrev pub FrontMagnitude : (ℕ → Type 0) → List ℕ → Option (ℕ × List ℕ) → Type 0
FrontMagnitude fits old None = (n : ℕ) (u : List ℕ) → fits n → begins_digit u ≡ false → old ≢ decimal (pos n) ++ u
FrontMagnitude fits old (Some found) = IsFront old (pos found.0) found.1 × fits found.0

-- whether `-` comes first, and what follows it
abbrev pub begins_minus : List ℕ → Bool
begins_minus [] = false
begins_minus (c ∷ t) = c == hyphen

abbrev pub after_minus : List ℕ → List ℕ
after_minus [] = []
after_minus (c ∷ t) = if c == hyphen then t else c ∷ t

-- the text of a sign
abbrev pub sign : Bool → List ℕ
sign true = hyphen ∷ []
sign false = []

-- a number's sign and magnitude: 0 has no `-`
abbrev pub IsSigned : Bool → ℕ → ℤ → Type 0
IsSigned negative n (pos m) = (negative ≡ false) × (n ≡ m)
IsSigned negative n (negsuc m) = (negative ≡ true) × (n ≡ suc m)

-- the text of the integers between these two, with both
abbrev pub range_text : ℤ → ℤ → List ℕ
range_text least greatest = decimal least ++ (codes " to " ++ decimal greatest)

-- so many digits come first, which denote m, and then u
pub record BeginsWithDigits (count m : ℕ) (t u : List ℕ) : Type 0 where
  pub below : m < 10 ^ count
  pub value : (n : ℕ) → value_after n t ≡ value_after (n * 10 ^ count + m) u
  pub after : after_digits t ≡ after_digits u

-- each two digits in this base as one number
abbrev pub joined : ℕ → List ℕ → List ℕ
joined base [] = []
joined base (a ∷ []) = []
joined base (a ∷ b ∷ digits) = (a * base + b) ∷ joined base digits

-- a text is cut after its sign, as the text of each of these integers is, where one comes first
pub record SplitsSign {T : Type 0} (int : T → ℤ) (old : List ℕ) (negative : Bool) (after : List ℕ) : Type 0 where
  pub text : old ≡ sign negative ++ after
  pub only : (v : T) (u : List ℕ) → begins_digit u ≡ false → old ≡ decimal (int v) ++ u
      → IsSigned negative (nat_abs (int v)) (int v) × (after ≡ decimal (pos (nat_abs (int v))) ++ u)
