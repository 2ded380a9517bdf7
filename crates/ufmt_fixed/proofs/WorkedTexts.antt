-- Texts of floats with decimals, computed. Each is what rustc prints.
use Rattle.std.proofs.Common.{◌≡◌, ◌++◌, true, false, pos, negsuc, codes, refl, ap, arith, []}
use lib.Ieee.{fin, nan, inf}
use Rattle.ufmt_float.specs.Text.{last_digits}
use Rattle.ufmt_fixed.specs.Nearest.{nearest}
use Rattle.ufmt_fixed.specs.Text.{fixed_text}
use Rattle.ufmt_fixed.proofs.Puts.{one_digit}

-- 2.4, 2.5, 3.5 and 2.6
down : nearest 24 10 ≡ 2
down = refl

tie_to_even : nearest 25 10 ≡ 2
tie_to_even = refl

tie_from_odd : nearest 35 10 ≡ 4
tie_from_odd = refl

up : nearest 26 10 ≡ 3
up = refl

-- 0.125 and 0.375 are 1 and 3 times 2 ^ -3
eighth : fixed_text 2 (fin false 1 (negsuc 2)) ≡ codes "0.12"
unfolding last_digits
eighth = ap (λ whole. whole ++ codes ".12") (one_digit 0 (omega arith))

three_eighths : fixed_text 2 (fin false 3 (negsuc 2)) ≡ codes "0.38"
unfolding last_digits
three_eighths = ap (λ whole. whole ++ codes ".38") (one_digit 0 (omega arith))

-- the sign stays
minus_zero : fixed_text 2 (fin true 0 (pos 0)) ≡ codes "-0.00"
unfolding last_digits
minus_zero = ap (λ whole. codes "-" ++ (whole ++ codes ".00")) (one_digit 0 (omega arith))

minus_little : fixed_text 2 (fin true 1 (negsuc 9)) ≡ codes "-0.00"
unfolding last_digits
minus_little = ap (λ whole. codes "-" ++ (whole ++ codes ".00")) (one_digit 0 (omega arith))

-- 2.5 and 3.5 without decimals, and 6 with one
no_point : fixed_text 0 (fin false 5 (negsuc 0)) ≡ codes "2"
no_point = ap (λ whole. whole ++ []) (one_digit 2 (omega arith))

no_point_up : fixed_text 0 (fin false 7 (negsuc 0)) ≡ codes "4"
no_point_up = ap (λ whole. whole ++ []) (one_digit 4 (omega arith))

whole : fixed_text 1 (fin false 3 (pos 1)) ≡ codes "6.0"
unfolding last_digits
whole = ap (λ digits. digits ++ codes ".0") (one_digit 6 (omega arith))

not_a_number : fixed_text 3 nan ≡ codes "NaN"
not_a_number = refl

infinite : fixed_text 3 (inf true) ≡ codes "-inf"
infinite = refl
