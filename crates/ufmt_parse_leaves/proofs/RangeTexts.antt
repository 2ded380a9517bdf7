-- The texts of the ranges of integer types. `decimal` isn't computed, since that takes as many steps as the number says: the digits are read.
use Rattle.std.proofs.Common.{◌≡◌, refl, sym, ap, ◌∙◌, List, [], ◌++◌, ℕ, suc, true, codes, pos, negsuc, append-nil}
use Rattle.ufmt_core.specs.Decimal.{decimal, numeral}
use Rattle.ufmt_core.proofs.DecimalTexts.{decimal-negative}
use Rattle.ufmt_parse_leaves.specs.Private.Digits.{after_digits, begins_number, range_text, value_after}
use Rattle.ufmt_parse_leaves.proofs.DecimalFronts.{front_is}

number_text : (t : List ℕ) (n : ℕ) → begins_number t ≡ true → after_digits t ≡ [] → value_after 0 t ≡ n → t ≡ decimal (pos n)
number_text t n begins ends value = (front_is t begins).is ∙ ap (λ u. decimal (pos (value_after 0 t)) ++ u) ends ∙ append-nil _ ∙ ap (λ k. decimal (pos k)) value

zero_text : codes "0" ≡ decimal (pos 0)
unfolding decimal numeral
zero_text = refl

unsigned_range : (to : List ℕ) (n : ℕ) → begins_number to ≡ true → after_digits to ≡ [] → value_after 0 to ≡ n → codes "0 to " ++ to ≡ range_text (pos 0) (pos n)
unsigned_range to n begins ends value =
    ap (λ text. codes "0 to " ++ text) (number_text to n begins ends value) ∙ ap (λ text. text ++ (codes " to " ++ decimal (pos n))) zero_text

signed_range : (from to : List ℕ) (n : ℕ) → begins_number from ≡ true → after_digits from ≡ [] → value_after 0 from ≡ suc n
    → begins_number to ≡ true → after_digits to ≡ [] → value_after 0 to ≡ n → codes "-" ++ (from ++ (codes " to " ++ to)) ≡ range_text (negsuc n) (pos n)
signed_range from to n begins ends value begins_to ends_to value_to =
    ap (λ text. codes "-" ++ (from ++ (codes " to " ++ text))) (number_text to n begins_to ends_to value_to)
    ∙ ap (λ text. codes "-" ++ (text ++ (codes " to " ++ decimal (pos n)))) (number_text from (suc n) begins ends value)
    ∙ ap (λ text. text ++ (codes " to " ++ decimal (pos n))) (sym (decimal-negative (negsuc n) refl))

pub u8_range : codes "0 to 255" ≡ range_text (pos 0) (pos 255)
u8_range = unsigned_range (codes "255") 255 refl refl refl

pub i8_range : codes "-128 to 127" ≡ range_text (negsuc 127) (pos 127)
i8_range = signed_range (codes "128") (codes "127") 127 refl refl refl refl refl refl

pub u16_range : codes "0 to 65535" ≡ range_text (pos 0) (pos 65535)
u16_range = unsigned_range (codes "65535") 65535 refl refl refl

pub i16_range : codes "-32768 to 32767" ≡ range_text (negsuc 32767) (pos 32767)
i16_range = signed_range (codes "32768") (codes "32767") 32767 refl refl refl refl refl refl

pub u32_range : codes "0 to 4294967295" ≡ range_text (pos 0) (pos 4294967295)
u32_range = unsigned_range (codes "4294967295") 4294967295 refl refl refl

pub i32_range : codes "-2147483648 to 2147483647" ≡ range_text (negsuc 2147483647) (pos 2147483647)
i32_range = signed_range (codes "2147483648") (codes "2147483647") 2147483647 refl refl refl refl refl refl

pub u64_range : codes "0 to 18446744073709551615" ≡ range_text (pos 0) (pos 18446744073709551615)
u64_range = unsigned_range (codes "18446744073709551615") 18446744073709551615 refl refl refl

pub i64_range : codes "-9223372036854775808 to 9223372036854775807" ≡ range_text (negsuc 9223372036854775807) (pos 9223372036854775807)
i64_range = signed_range (codes "9223372036854775808") (codes "9223372036854775807") 9223372036854775807 refl refl refl refl refl refl

pub u128_range : codes "0 to 340282366920938463463374607431768211455" ≡ range_text (pos 0) (pos 340282366920938463463374607431768211455)
u128_range = unsigned_range (codes "340282366920938463463374607431768211455") 340282366920938463463374607431768211455 refl refl refl

pub i128_range : codes "-170141183460469231731687303715884105728 to 170141183460469231731687303715884105727" ≡ range_text (negsuc 170141183460469231731687303715884105727) (pos 170141183460469231731687303715884105727)
i128_range = signed_range (codes "170141183460469231731687303715884105728") (codes "170141183460469231731687303715884105727") 170141183460469231731687303715884105727 refl refl refl refl refl refl

-- what the proofs of `range` cite
pub ruleset range_texts = (u8_range, i8_range, u16_range, i16_range, u32_range, i32_range, u64_range, i64_range, u128_range, i128_range)
