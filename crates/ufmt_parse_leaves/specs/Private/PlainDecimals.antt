-- Decimals that are printed with a point and no exponent.
use Rattle.std.specs.Prelude.{◌≡◌, ◌≢◌, ℕ, ◌%◌, ◌+◌, ◌-◌, ◌*◌, ◌^◌, ◌<◌, ◌≤◌, ◌⊎◌}

-- digits / 10 ^ places is above 0, has few digits, ends in a zero only if it is whole, and is not below 0.0001
pub record IsPlainDecimal (digits places : ℕ) : Type 0 where
  pub some : 0 < digits
  pub few : digits < 10 ^ 17
  pub point : (0 < places) × (places ≤ 19)
  pub last : (places ≡ 1) ⊎ (digits % 10 ≢ 0)
  pub large : (places ≤ 4) ⊎ (10 ^ (places - 4) ≤ digits)

-- left * 10 ^ (power - 400) is digits / 10 ^ places. The digits end in no zero that `left` lacks, but for those before the point of a whole number and the one after it.
pub record IsPrintedAs (digits places left power : ℕ) : Type 0 where
  pub zeros : ℕ
  pub end : power + places ≡ 400 + zeros
  pub digits_are : digits ≡ left * 10 ^ zeros
  pub one : (zeros ≡ 0) ⊎ (places ≡ 1)
