-- Characters by their numbers, in hexadecimal digits.
use Rattle.std.specs.Prelude.{ℕ, ◌+◌, ◌*◌, ◌==◌, ◌&&◌, ◌||◌, nat_le, nat_lt, if◌then◌else◌, List, [], ◌∷◌, ◌++◌}
use Rattle.std.specs.Char.{digit_value}
use Rattle.std.specs.Char.Escape.{hex_digit_at}
use Rattle.ufmt_core.specs.Bytes.{closing_brace}

-- the number of these digits after those of a number, up to a brace, or up to what is too large for a character
unfoldable pub number_from : ℕ → List ℕ → ℕ
number_from n [] = n
number_from n (b ∷ t) = if b == closing_brace || nat_le 0x11_0000 n then n else number_from (n * 16 + digit_value b) t

-- the digit at a place that is worth so much, if the number has it
abbrev pub digit_at : ℕ → ℕ → List ℕ
digit_at worth n = if nat_lt 1 worth && nat_lt n worth then [] else hex_digit_at worth n ∷ []

-- the first three of six digits, as far as the number has them, and the last three
abbrev pub high_digits : ℕ → List ℕ
high_digits n = digit_at 0x10_0000 n ++ (digit_at 0x1_0000 n ++ digit_at 0x1000 n)

abbrev pub low_digits : ℕ → List ℕ
low_digits n = digit_at 0x100 n ++ (digit_at 0x10 n ++ digit_at 1 n)
