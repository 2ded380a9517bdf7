-- What is promised of rounding.
use Rattle.std.specs.Prelude.{◌≡◌, ℕ, ◌*◌, ◌%◌, ◌<◌, ◌⊎◌}
use Rattle.ufmt_float.specs.Shortest.{distance}
use Rattle.ufmt_fixed.specs.Nearest.{nearest}

-- every other whole number is farther from n / d, or as far away and odd
abbrev pub NearestIsClosest : Type 0
NearestIsClosest = (n d other : ℕ) → 0 < d → (other ≡ nearest n d) ⊎ (distance (nearest n d * d) n < distance (other * d) n)
    ⊎ ((distance (nearest n d * d) n ≡ distance (other * d) n) × (nearest n d % 2 ≡ 0) × (other % 2 ≡ 1))
