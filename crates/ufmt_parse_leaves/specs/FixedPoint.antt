-- Fixed-point numbers: a number of the least unit, and how many of its digits come after the point.
use Rattle.std.specs.Prelude.{ℕ, ℤ, nat_abs, List, ◌++◌}
use Rattle.ufmt_core.specs.Decimal.{sign_of}
use Rattle.ufmt_fixed.specs.Text.{fixed_digits}
use Rattle.ufmt_parse_leaves.specs.Values.{is_i64, is_u8}

-- a value that 64 bits hold, and at most 255 places
abbrev pub is_fixed : ℤ × ℕ → Type 0
is_fixed x = is_i64 x.0 × is_u8 x.1

-- its sign, and its digits with a point before the places
abbrev pub fixed_number : ℤ × ℕ → List ℕ
fixed_number x = sign_of x.0 ++ fixed_digits x.1 (nat_abs x.0)
