-- The texts of floats, as Rust's traits Debug and Display print them.
use Rattle.core.specs.Prelude.{◌≡◌, ℕ, zero, suc, ◌+◌, ◌-◌, ◌/◌, ◌%◌, ◌^◌, List, [], ◌∷◌, ◌++◌, length, replicate, Bool, false, ◌&&◌, ◌||◌, not, ◌==◌, nat_lt, nat_le, if◌then◌else◌}
use lib.Chars.{codes}
use lib.Ieee.{Float, Format, nan, inf, fin}
use Rattle.core.specs.Fmt.{decimal, sign_text}
use Rattle.ufmt_float.specs.Shortest.{IsShortestDecimal, distance}

-- the last `count` digits of a number, with zeros before those of a shorter number
unfoldable pub last_digits : ℕ → ℕ → List ℕ
last_digits zero n = []
last_digits (suc count) n = last_digits count (n / 10) ++ ((48 + n % 10) ∷ [])

-- digits / 10 ^ places: the whole part, a point, and that many decimals
abbrev pub pointed_text : ℕ → ℕ → List ℕ
pointed_text digits places = decimal (digits / 10 ^ places) ++ (codes "." ++ last_digits places digits)

-- digits * 10 ^ (power - 400) with no exponent. Debug marks a whole number by a decimal.
abbrev pub plain_text : Bool → ℕ → ℕ → List ℕ
plain_text debug digits power = if (nat_lt power 400)
    then (pointed_text digits (400 - power))
    else (decimal digits ++ (replicate (power - 400) 48 ++ (if debug then (codes ".0") else [])))

-- how many digits there are after the first
abbrev pub more_digits : ℕ → ℕ
more_digits digits = length (decimal digits) - 1

-- the exponent power - 400
abbrev pub exponent_text : ℕ → List ℕ
exponent_text power = codes "e" ++ (sign_text (nat_lt power 400) ++ decimal (distance power 400))

-- the same with one digit before the point, and an exponent
abbrev pub scientific_text : ℕ → ℕ → List ℕ
scientific_text digits power = let places = more_digits digits in
    (if (places == 0) then (decimal digits) else (pointed_text digits places))
    ++ exponent_text (power + places)

-- the decimal is 0, or from 0.0001 to below 10 ^ 16
abbrev pub is_plain : ℕ → ℕ → Bool
is_plain digits power = nat_le 396 (power + more_digits digits) && nat_lt (power + more_digits digits) 416

-- the text of a decimal: Debug prints an exponent if it isn't plain
abbrev pub decimal_text : Bool → ℕ → ℕ → List ℕ
decimal_text debug digits power = if (not debug || is_plain digits power) then (plain_text debug digits power) else (scientific_text digits power)

-- the decimal that is printed of the finite float m * 2 ^ e above 0, or of 0
abbrev pub IsPrintedDecimal : Format → Float → ℕ → ℕ → Type 0
IsPrintedDecimal f nan digits power = ⊥
IsPrintedDecimal f (inf s) digits power = ⊥
IsPrintedDecimal f (fin s zero e) digits power = (digits ≡ 0) × (power ≡ 400)
IsPrintedDecimal f (fin s (suc m) e) digits power = IsShortestDecimal f (fin false (suc m) e) digits power

-- the text that Debug or Display prints of a float
abbrev pub IsFloatText : Format → Bool → Float → List ℕ → Type 0
IsFloatText f debug nan text = text ≡ codes "NaN"
IsFloatText f debug (inf s) text = text ≡ sign_text s ++ codes "inf"
IsFloatText f debug (fin s m e) text = (digits : ℕ) × (power : ℕ) × IsPrintedDecimal f (fin s m e) digits power × (text ≡ sign_text s ++ decimal_text debug digits power)
