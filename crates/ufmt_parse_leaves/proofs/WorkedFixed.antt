-- Texts of fixed-point numbers, computed. Each is what `{:?}` prints of a `Decimal` with this value and these places.
use Rattle.std.proofs.Common.{◌≡◌, ◌++◌, [], pos, negsuc, codes, ap, arith}
use Rattle.ufmt_float.specs.Text.{last_digits}
use Rattle.ufmt_fixed.proofs.Puts.{one_digit}
use Rattle.ufmt_parse_leaves.specs.FixedPoint.{fixed_number}

-- 7 without places, 0 with one
whole : fixed_number (pos 7, 0) ≡ codes "7"
whole = ap (λ whole. whole ++ []) (one_digit 7 (omega arith))

nothing : fixed_number (pos 0, 1) ≡ codes "0.0"
unfolding last_digits
nothing = ap (λ whole. whole ++ codes ".0") (one_digit 0 (omega arith))

-- a zero at the end is a place
two_places : fixed_number (pos 150, 2) ≡ codes "1.50"
unfolding last_digits
two_places = ap (λ whole. whole ++ codes ".50") (one_digit 1 (omega arith))

-- -5 hundredths: zeros come before the digits, and the sign before these
below_one : fixed_number (negsuc 4, 2) ≡ codes "-0.05"
unfolding last_digits
below_one = ap (λ whole. codes "-" ++ (whole ++ codes ".05")) (one_digit 0 (omega arith))
