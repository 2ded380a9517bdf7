-- The values of each number type, for `is_value` of types with numbers.
use Rattle.std.specs.Prelude.{ℕ, ◌^◌, ◌<◌, ◌≢◌, ℤ, pos, T}
use lib.Ieee.{Float, Format, binary32, binary64, fits}
use Rattle.std.specs.Int.{w8, w16, w32, w64, w128}
use Rattle.std.specs.Int.RustNames.{FitsSigned}
use Rattle.std.specs.Int.NonZero.{non_zero_u8_get, non_zero_u16_get, non_zero_u32_get, non_zero_u64_get, non_zero_u128_get, non_zero_usize_get, non_zero_i8_get, non_zero_i16_get, non_zero_i32_get, non_zero_i64_get, non_zero_i128_get, non_zero_isize_get}
use Rattle.std.specs.declared.num.NonZeroU8.{NonZeroU8}
use Rattle.std.specs.declared.num.NonZeroU16.{NonZeroU16}
use Rattle.std.specs.declared.num.NonZeroU32.{NonZeroU32}
use Rattle.std.specs.declared.num.NonZeroU64.{NonZeroU64}
use Rattle.std.specs.declared.num.NonZeroU128.{NonZeroU128}
use Rattle.std.specs.declared.num.NonZeroUsize.{NonZeroUsize}
use Rattle.std.specs.declared.num.NonZeroI8.{NonZeroI8}
use Rattle.std.specs.declared.num.NonZeroI16.{NonZeroI16}
use Rattle.std.specs.declared.num.NonZeroI32.{NonZeroI32}
use Rattle.std.specs.declared.num.NonZeroI64.{NonZeroI64}
use Rattle.std.specs.declared.num.NonZeroI128.{NonZeroI128}
use Rattle.std.specs.declared.num.NonZeroIsize.{NonZeroIsize}

abbrev pub is_u8 : ℕ → Type 0
is_u8 n = n < 2 ^ 8

abbrev pub is_u16 : ℕ → Type 0
is_u16 n = n < 2 ^ 16

abbrev pub is_u32 : ℕ → Type 0
is_u32 n = n < 2 ^ 32

abbrev pub is_u64 : ℕ → Type 0
is_u64 n = n < 2 ^ 64

abbrev pub is_u128 : ℕ → Type 0
is_u128 n = n < 2 ^ 128

-- `usize` and `isize` have 64 bits
abbrev pub is_usize : ℕ → Type 0
is_usize n = n < 2 ^ 64

abbrev pub is_i8 : ℤ → Type 0
is_i8 z = FitsSigned w8 z

abbrev pub is_i16 : ℤ → Type 0
is_i16 z = FitsSigned w16 z

abbrev pub is_i32 : ℤ → Type 0
is_i32 z = FitsSigned w32 z

abbrev pub is_i64 : ℤ → Type 0
is_i64 z = FitsSigned w64 z

abbrev pub is_i128 : ℤ → Type 0
is_i128 z = FitsSigned w128 z

abbrev pub is_isize : ℤ → Type 0
is_isize z = FitsSigned w64 z

-- a float of this format
abbrev pub IsFloatOf : Format → Float → Type 0
IsFloatOf f x = T (fits f x)

abbrev pub is_f32 : Float → Type 0
is_f32 x = IsFloatOf binary32 x

abbrev pub is_f64 : Float → Type 0
is_f64 x = IsFloatOf binary64 x

-- a nonzero number is a value of its type, and not 0
abbrev pub is_non_zero_u8 : NonZeroU8 → Type 0
is_non_zero_u8 n = (0 < non_zero_u8_get n) × is_u8 (non_zero_u8_get n)

abbrev pub is_non_zero_u16 : NonZeroU16 → Type 0
is_non_zero_u16 n = (0 < non_zero_u16_get n) × is_u16 (non_zero_u16_get n)

abbrev pub is_non_zero_u32 : NonZeroU32 → Type 0
is_non_zero_u32 n = (0 < non_zero_u32_get n) × is_u32 (non_zero_u32_get n)

abbrev pub is_non_zero_u64 : NonZeroU64 → Type 0
is_non_zero_u64 n = (0 < non_zero_u64_get n) × is_u64 (non_zero_u64_get n)

abbrev pub is_non_zero_u128 : NonZeroU128 → Type 0
is_non_zero_u128 n = (0 < non_zero_u128_get n) × is_u128 (non_zero_u128_get n)

abbrev pub is_non_zero_usize : NonZeroUsize → Type 0
is_non_zero_usize n = (0 < non_zero_usize_get n) × is_usize (non_zero_usize_get n)

abbrev pub is_non_zero_i8 : NonZeroI8 → Type 0
is_non_zero_i8 n = (non_zero_i8_get n ≢ pos 0) × is_i8 (non_zero_i8_get n)

abbrev pub is_non_zero_i16 : NonZeroI16 → Type 0
is_non_zero_i16 n = (non_zero_i16_get n ≢ pos 0) × is_i16 (non_zero_i16_get n)

abbrev pub is_non_zero_i32 : NonZeroI32 → Type 0
is_non_zero_i32 n = (non_zero_i32_get n ≢ pos 0) × is_i32 (non_zero_i32_get n)

abbrev pub is_non_zero_i64 : NonZeroI64 → Type 0
is_non_zero_i64 n = (non_zero_i64_get n ≢ pos 0) × is_i64 (non_zero_i64_get n)

abbrev pub is_non_zero_i128 : NonZeroI128 → Type 0
is_non_zero_i128 n = (non_zero_i128_get n ≢ pos 0) × is_i128 (non_zero_i128_get n)

abbrev pub is_non_zero_isize : NonZeroIsize → Type 0
is_non_zero_isize n = (non_zero_isize_get n ≢ pos 0) × is_isize (non_zero_isize_get n)
