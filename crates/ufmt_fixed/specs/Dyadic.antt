-- A float as its sign, and a whole number times a power of two.
use Rattle.std.specs.Prelude.{◌≡◌, ℕ, ◌*◌, ◌^◌, ◌<◌, ◌≤◌, ◌⊎◌}
use lib.Ieee.{Float, nan, inf}
use lib.Ieee.Exact.{HasValue}
use Rattle.ufmt_fixed.specs.declared.dyadic.Dyadic.{Dyadic}
use Rattle.ufmt_fixed.specs.declared.dyadic.Dyadic.TheVariants.{NotANumber, Infinite, Finite}

-- What is known of m * 2 ^ twos / 2 ^ halves, the size of a float: m has at most 53 bits, and the least float above 0 is 2 ^ -1074, times less than
-- 2 ^ 2047.
abbrev pub IsSize : ℕ → ℕ → ℕ → Type 0
IsSize m twos halves = (m < 2 ^ 53) × (twos ≤ 972) × (halves ≤ 1074) × ((twos ≡ 0) ⊎ (halves ≡ 0))

-- the number is the float
abbrev pub IsDyadicOf : Float → Dyadic → Type 0
IsDyadicOf x NotANumber = x ≡ nan
IsDyadicOf x (Infinite negative) = x ≡ inf negative
IsDyadicOf x (Finite negative m twos halves) = HasValue x negative (m * 2 ^ twos) (2 ^ halves) × IsSize m twos halves
