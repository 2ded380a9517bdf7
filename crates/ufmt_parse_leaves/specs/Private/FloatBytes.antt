-- The bytes of the texts of floats.
use Rattle.std.specs.Prelude.{ℕ, ◌+◌, ◌==◌, ◌||◌, Bool, List, [], ◌∷◌, if◌then◌else◌}
use Rattle.std.specs.Char.{is_ascii_digit}

-- a digit, `-`, `.`, `e`, or a letter of `NaN` or `inf`
abbrev pub is_float_byte : ℕ → Bool
is_float_byte c = is_ascii_digit c || (c == 45 || c == 46 || c == 101 || c == 78 || c == 97 || c == 105 || c == 110 || c == 102)

-- how many of them are at the front
abbrev pub float_len : List ℕ → ℕ
float_len [] = 0
float_len (c ∷ t) = if is_float_byte c then (1 + float_len t) else 0

-- what follows them
abbrev pub after_float : List ℕ → List ℕ
after_float [] = []
after_float (c ∷ t) = if is_float_byte c then after_float t else c ∷ t
