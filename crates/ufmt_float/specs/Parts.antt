-- A float as its sign, its significand and its exponent.
use Rattle.core.specs.Prelude.{◌≡◌, ℕ, ◌+◌, ◌*◌, ◌<◌, Bool, false, pos, from_bits}
use lib.Ieee.{Float, Format, nan, inf, fin, hid, ones}
use Rattle.core.specs.Dec2flt.Rounding.{IsSignificand}
use Rattle.core.specs.Float.{float_with_sign, is_sign_negative}
use Rattle.ufmt_float.specs.declared.parts.Parts.{Parts}
use Rattle.ufmt_float.specs.declared.parts.Parts.TheVariants.{NotANumber, Infinite, Zero, Finite}

-- m * 2 ^ k times the least float above 0 is a finite float above 0
pub record IsFinite (f : Format) (m k : ℕ) : Type 0 where
  pub some : 0 < m
  pub significand : IsSignificand f m k
  pub finite : k * hid f + m < ones f * hid f

-- the float without its sign has these bits
pub record HasParts (f : Format) (x : Float) (negative : Bool) (m k : ℕ) : Type 0 where
  pub size : float_with_sign false x ≡ from_bits f (k * hid f + m)
  pub sign : is_sign_negative x ≡ negative
  pub parts : IsFinite f m k

abbrev pub AreParts : Format → Float → Parts → Type 0
AreParts f x NotANumber = x ≡ nan
AreParts f x (Infinite negative) = x ≡ inf negative
AreParts f x (Zero negative) = x ≡ fin negative 0 (pos 0)
AreParts f x (Finite negative m k) = HasParts f x negative m k
