-- Zeros go after the sign of a decimal text.
use Rattle.std.proofs.Common.{◌≡◌, ℕ, ◌+◌, ℤ, pos, negsuc, nat_abs, Bool, true, false, ◌++◌, length, refl, ap, arith, true≢false, ◌-◌, replicate, length-append}
use borrow.Author.Tests.{ltb-true}
use Rattle.std.specs.Int.{is_negative}
use Rattle.std.proofs.lemmas.List.{length-replicate}
use Rattle.ufmt_core.specs.Bytes.{zero_digit}
use Rattle.ufmt_core.specs.Decimal.{decimal, sign_of}
use Rattle.ufmt.specs.Zeros.{IsZeroPadded, minus_if, zero_padded}

-- a decimal text is the sign and the text of the magnitude
pub decimal_signed : (z : ℤ) → decimal z ≡ sign_of z ++ decimal (pos (nat_abs z))
unfolding decimal
decimal_signed z = refl

-- the sign is that of the test
pub sign_if : (z : ℤ) (is_minus : Bool) → is_negative z ≡ is_minus → minus_if is_minus ≡ sign_of z
sign_if (pos n) true sign = absurd (omega (arith, ltb-true n 0 sign))
sign_if (pos n) false sign = refl
sign_if (negsuc n) true sign = refl
sign_if (negsuc n) false sign = absurd (true≢false sign)

pub sign_tested : (z : ℤ) → minus_if (is_negative z) ≡ sign_of z
sign_tested z = sign_if z (is_negative z) refl

pub IsZeroPadded-zero_padded : (width : ℕ) (z : ℤ) → IsZeroPadded width z (zero_padded width z)
IsZeroPadded-zero_padded width z =
    let digits = decimal (pos (nat_abs z)) in
    let missing = width - (length (sign_of z) + length digits) in record {
      digits = digits;
      natural = decimal_signed z;
      zeros = missing;
      placed = refl;
      reaches = omega (
        arith,
        ap length (decimal_signed z),
        length-append (sign_of z) digits,
        length-append (sign_of z) (replicate missing zero_digit ++ digits),
        length-append (replicate missing zero_digit) digits,
        length-replicate missing zero_digit,
      );
    }
