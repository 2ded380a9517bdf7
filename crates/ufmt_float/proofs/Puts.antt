-- Texts that are written from the right.
use Rattle.core.specs.Prelude.{◌≡◌, ◌≢◌, ℕ, zero, suc, ◌+◌, ◌-◌, ◌*◌, ◌/◌, ◌%◌, ◌^◌, ◌<◌, ◌≤◌, ◌⊎◌, List, [], ◌∷◌, ◌++◌, length, drop, set, replicate, Bool, true, false, nat_lt, leb}
use mathlib.Core.Path.{refl, sym, ap, ◌∙◌, subst}
use mathlib.Core.Logic.{inl, inr}
use native.Mathlib.Omega.{arith}
use native.Mathlib.Nat.{eq-zero-or-pos, div-eq_of_lt, div-div-eq-div-mul, div-one, div-le_self, pow-suc, pow-succ', le-div_iff_mul-le, div-lt_iff_lt-mul}
use mathlib.Core.Bool.{false≢true}
use borrow.Author.Tests.{lt-ltb, le-ltb, le-leb, leb-true, ltb-true}
use lib.Pow.{pow-add}
use Rattle.core.proofs.dec2flt.LimbsLemmas.{power_pos}
use Rattle.core.proofs.fmt.Decimal.{decimal_step, decimal_by_steps, decimal_is_bounded, length-decimal-le}
use Rattle.core.proofs.fmt.DigitsParse.{decimal_digit}
use Rattle.std.proofs.Common.{append_assoc, append-nil, length-append, length-set, if◌then◌else◌}
use Rattle.std.proofs.Math.Seq.{drop-length}
use Rattle.std.proofs.lemmas.Bool.{cases_Bool}
use Rattle.std.proofs.lemmas.List.{drop-set, length-replicate}
use Rattle.core.specs.Fmt.{decimal, sign_text}
use Rattle.ufmt_float.specs.Shortest.{distance}
use Rattle.ufmt_float.specs.Put.{IsPut}
use lib.Chars.{codes}
use Rattle.ufmt_float.specs.Text.{last_digits, pointed_text, plain_text, exponent_text, is_plain, more_digits}

-- nothing was written yet
pub put_none : (end : ℕ) (buffer : List ℕ) → IsPut [] end buffer end buffer
put_none end buffer = record { place = omega arith; written = refl; same = refl }

-- one more byte
pub put_more : (text : List ℕ) (end start byte : ℕ) (old new : List ℕ) → 0 < start → end ≤ length old → IsPut text end old start new → IsPut (byte ∷ text) end old (start - 1) (set new (start - 1) byte)
put_more text end start byte old new S E p =
    let next : start - 1 + 1 ≡ start = omega arith in
    record {
      place = omega (arith, p.place);
      written = rw (drop-set new (start - 1) byte (omega (arith, p.place, p.same)), next) (ap (λ xs. byte ∷ xs) p.written);
      same = length-set new (start - 1) byte ∙ p.same;
    }

-- a text before another one
pub put_before : (front text : List ℕ) (end middle start : ℕ) (old mid new : List ℕ) → IsPut text end old middle mid → IsPut front middle mid start new → IsPut (front ++ text) end old start new
put_before front text end middle start old mid new p q = record {
  place = omega (arith, p.place, q.place, length-append front text);
  written = q.written ∙ ap (λ xs. front ++ xs) p.written ∙ sym (append_assoc front text (drop end old));
  same = q.same ∙ p.same;
}

-- ---- digits

pub last_digits-none : (n : ℕ) → last_digits 0 n ≡ []
unfolding last_digits
last_digits-none n = refl

-- the digit before the last ones
pub last_digits-front : (count n : ℕ) → last_digits (suc count) n ≡ (48 + n / 10 ^ count % 10) ∷ last_digits count n
unfolding last_digits
last_digits-front zero n = ap (λ x. (48 + x % 10) ∷ []) (sym (div-one n))
last_digits-front (suc count) n =
    let tenth : n / 10 / 10 ^ count ≡ n / 10 ^ suc count = div-div-eq-div-mul n 10 (10 ^ count) ∙ ap (λ x. n / x) (sym (pow-succ' 10 count)) in
    ap (λ text. text ++ ((48 + n % 10) ∷ [])) (last_digits-front count (n / 10)) ∙ ap (λ x. (48 + x % 10) ∷ last_digits (suc count) n) tenth

pub length-last_digits : (count n : ℕ) → length (last_digits count n) ≡ count
unfolding last_digits
length-last_digits zero n = refl
length-last_digits (suc count) n = omega (arith, length-append (last_digits count (n / 10)) ((48 + n % 10) ∷ []), length-last_digits count (n / 10))

ten_power : (k : ℕ) → 0 < 10 ^ k
ten_power k = power_pos 10 k (omega arith)

pub next_quotient : (n k : ℕ) → n / 10 ^ k / 10 ≡ n / 10 ^ (k + 1)
next_quotient n k = div-div-eq-div-mul n (10 ^ k) 10 ∙ ap (λ x. n / x) (sym (pow-add 10 k 1))

-- the last digit comes after the last ones of the number's tenth
last_digits-end : (count n : ℕ) → last_digits (suc count) n ≡ last_digits count (n / 10) ++ ((48 + n % 10) ∷ [])
unfolding last_digits
last_digits-end count n = refl

last_digits-one : (n : ℕ) → last_digits 1 n ≡ (48 + n % 10) ∷ []
unfolding last_digits
last_digits-one n = refl

-- so a number is its last digits, as many as it has
pub decimal-last_digits : (n : ℕ) → n < 2 ^ 64 → decimal n ≡ last_digits (length (decimal n)) n
decimal-last_digits n h = decimal_by_steps (λ m text. text ≡ last_digits (length text) m) one more n h
  where
    one : (m : ℕ) → m < 10 → ((48 + m) ∷ []) ≡ last_digits 1 m
    one m l =
        let digit : m % 10 ≡ m = omega arith in
        rw last_digits-one (ap (λ x. (48 + x) ∷ []) (sym digit))

    more : (m : ℕ) (ds : List ℕ) → 10 ≤ m → ds ≡ last_digits (length ds) (m / 10) → ds ++ ((48 + m % 10) ∷ []) ≡ last_digits (length (ds ++ ((48 + m % 10) ∷ []))) m
    more m ds l e =
        let long : length (ds ++ ((48 + m % 10) ∷ [])) ≡ suc (length ds) = omega (arith, length-append ds ((48 + m % 10) ∷ [])) in
        rw long (ap (λ xs. xs ++ ((48 + m % 10) ∷ [])) e ∙ sym (last_digits-end (length ds) m))

pub longer_decimal : (n : ℕ) → 10 ≤ n → n < 2 ^ 64 → length (decimal n) ≡ length (decimal (n / 10)) + 1
longer_decimal n h small = ap length (decimal_step n h small) ∙ length-append (decimal (n / 10)) ((48 + n % 10) ∷ [])

pub one_digit : (n : ℕ) → n < 10 → length (decimal n) ≡ 1
one_digit n h = ap length (decimal_digit n h)

-- a turn of the loop that writes digits
pub put_digit : (n i left end : ℕ) (old new : List ℕ) → i < end → end ≤ length old → left ≡ n / 10 ^ i → IsPut (last_digits i n) end old (end - i) new
    → IsPut (last_digits (i + 1) n) end old (end - (i + 1)) (set new (end - 1 - i) (48 + left % 10))
put_digit n i left end old new I E e p =
    let first : end - i - 1 ≡ end - (i + 1) = omega arith in
    let at : end - i - 1 ≡ end - 1 - i = omega arith in
    let one : i + 1 ≡ suc i = omega arith in
    rw (← first, ← at, one, last_digits-front i n, e) (put_more (last_digits i n) end (end - i) (48 + n / 10 ^ i % 10) old new (omega arith) E p)

-- the length of a number with decimals
pub length-fixed : (digits places : ℕ) → length (pointed_text digits places) ≡ length (decimal (digits / 10 ^ places)) + 1 + places
length-fixed digits places =
    let n : ℕ = digits / 10 ^ places in
    omega (arith, length-append (decimal n) (codes "." ++ last_digits places digits), length-last_digits places digits)

pub decimal_bounds : (n : ℕ) → n < 2 ^ 64 → (1 ≤ length (decimal n)) × (length (decimal n) ≤ 20)
decimal_bounds n h = let b = decimal_is_bounded n h in (b.nonempty, b.len_u64)

-- digits of a decimal have 17 places at most
pub length-digits : (n : ℕ) → n < 10 ^ 17 → length (decimal n) ≤ 17
length-digits n h = length-decimal-le 17 n (omega arith) h (omega arith)

pub length-exponent : (n : ℕ) → n < 1000 → length (decimal n) ≤ 3
length-exponent n h = length-decimal-le 3 n (omega arith) (omega arith) (omega arith)

-- without its last digits a number has so many digits fewer
length-without : (places n : ℕ) → n < 2 ^ 64 → 10 ^ places ≤ n → length (decimal n) ≡ length (decimal (n / 10 ^ places)) + places
length-without zero n small h = ap (λ x. length (decimal x)) (sym (div-one n)) ∙ omega arith
length-without (suc places) n small h =
    let tens : 10 ^ suc places ≡ 10 ^ places * 10 = pow-suc 10 places in
    let ten : 10 ≤ n = omega (arith, h, tens, ten_power places) in
    let less : 10 ^ places ≤ n / 10 = (le-div_iff_mul-le (omega arith)).1 (omega (arith, h, tens)) in
    let quotient : n / 10 / 10 ^ places ≡ n / 10 ^ suc places = div-div-eq-div-mul n 10 (10 ^ places) ∙ ap (λ x. n / x) (sym (pow-succ' 10 places)) in
    omega (arith, longer_decimal n ten small, length-without places (n / 10) (omega arith) less, ap (λ x. length (decimal x)) quotient)

pub length-cut : (places n unit : ℕ) → n < 2 ^ 64 → unit ≡ 10 ^ places → unit ≤ n → length (decimal n) ≡ length (decimal (n / unit)) + places
length-cut places n unit small e h = rw e (length-without places n small (rw e at h))

-- a text with decimals is as long as its digits and the point, or has one digit before the decimals
pub length-fixed-le : (digits places : ℕ) → digits < 10 ^ 17 → length (pointed_text digits places) ≤ 18 + (places - 16)
length-fixed-le digits places h =
    let few = length-digits digits h in
    let is = length-fixed digits places in
    elim (eq-zero-or-pos (digits + 1 - 10 ^ places)) [
      | inl z ↦ (
          let none : digits / 10 ^ places ≡ 0 = div-eq_of_lt (omega arith) in
          omega (arith, is, ap (λ x. length (decimal x)) none, one_digit 0 (omega arith))
          )
      | inr p ↦ omega (arith, is, few, length-cut places digits (10 ^ places) (omega arith) refl (omega arith), decimal_bounds (digits / 10 ^ places) (omega (arith, div-le_self digits (10 ^ places))))
    ]

pub length-plain : (debug : Bool) (digits power : ℕ) → digits < 10 ^ 17
    → length (plain_text debug digits power) ≤ 19 + (400 - power - 16) + (length (decimal digits) + (power - 400) - 17)
length-plain debug digits power h =
    elim (eq-zero-or-pos (400 - power)) [
      | inl z ↦ rw (le-ltb power 400 (omega arith)) (mark debug)
      | inr p ↦ rw (lt-ltb power 400 (omega arith)) (omega (arith, length-fixed-le digits (400 - power) h))
    ]
  where
    mark : (d : Bool) → length (decimal digits ++ (replicate (power - 400) 48 ++ (if d then (codes ".0") else []))) ≤ 19 + (400 - power - 16) + (length (decimal digits) + (power - 400) - 17)
    mark true = omega (arith, length-append (decimal digits) (replicate (power - 400) 48 ++ codes ".0"), length-append (replicate (power - 400) 48) (codes ".0"), length-replicate {A = ℕ} (power - 400) 48)
    mark false = omega (arith, length-append (decimal digits) (replicate (power - 400) 48 ++ []), length-append {A = ℕ} (replicate (power - 400) 48) [], length-replicate {A = ℕ} (power - 400) 48)

pub length-sign : (negative : Bool) → length (sign_text negative) ≤ 1
length-sign true = omega arith
length-sign false = omega arith

pub length-exponent_text : (power : ℕ) → power < 1000 → length (exponent_text power) ≤ 5
length-exponent_text power h =
    let n : ℕ = distance power 400 in
    omega (arith, length-append (sign_text (nat_lt power 400)) (decimal n), length-sign (nat_lt power 400), length-exponent n (omega arith))

-- a decimal with no exponent in Debug's text
pub plain_range : (digits power : ℕ) → is_plain digits power ≡ true → (396 ≤ power + more_digits digits) × (power + more_digits digits < 416)
plain_range digits power h =
    let n : ℕ = power + more_digits digits in
    elim (cases_Bool (leb 396 n)) [
      | inl from ↦ (leb-true 396 n from, ltb-true n 416 (rw from at h))
      | inr below ↦ absurd (false≢true (rw below at h))
    ]

pub length-debug : (digits power : ℕ) → digits < 10 ^ 17 → is_plain digits power ≡ true → length (plain_text true digits power) ≤ 31
length-debug digits power h p =
    let r = plain_range digits power p in
    omega (arith, length-plain true digits power h, length-digits digits h)

pub more_room : (debug : Bool) → (if debug then 31 else 343) + 1 ≡ (if debug then 32 else 344)
more_room true = refl
more_room false = refl

-- a text that ends where the buffer does
pub put_at_end : (text old new : List ℕ) (start : ℕ) → IsPut text (length old) old start new → drop start new ≡ text
put_at_end text old new start p = p.written ∙ ap (λ xs. text ++ xs) (drop-length old) ∙ append-nil text

-- a decimal that ends after the point, and starts at most four places after it
pub plain_near : (digits power : ℕ) → digits < 10 ^ 17 → power < 400 → (396 ≤ power) ⊎ ((384 ≤ power) × (10 ^ 12 ≤ digits)) → is_plain digits power ≡ true
plain_near digits power h to near =
    let few = length-digits digits h in
    let from : 396 ≤ power + more_digits digits = elim near [
      | inl s ↦ omega arith
      | inr s ↦ omega (arith, length-cut 12 digits (10 ^ 12) (omega arith) refl s.1, decimal_bounds (digits / 10 ^ 12) (omega (arith, div-le_self digits (10 ^ 12))), s.0)
    ] in
    rw (le-leb 396 (power + more_digits digits) from, lt-ltb (power + more_digits digits) 416 (omega (arith, few))) refl

pub cut_less : (n unit : ℕ) → 0 < unit → n < unit * unit → n / unit < unit
cut_less n unit u h = (div-lt_iff_lt-mul u).1 h

-- a turn of the loop that writes two digits
pub put_pair : (n i left end start tens ones : ℕ) (old new : List ℕ) → 2 * i + 1 < end → end ≤ length old → left ≡ n / 10 ^ (2 * i) → start ≡ end - 2 * i
    → tens ≡ 48 + left % 100 / 10 → ones ≡ 48 + left % 100 % 10 → IsPut (last_digits (2 * i) n) end old (end - 2 * i) new
    → IsPut (last_digits (2 * (i + 1)) n) end old (end - 2 * (i + 1)) (set (set new (start - 1) ones) (start - 2) tens)
put_pair n i left end start tens ones old new room within is_left is_start is_tens is_ones p =
    let first = put_digit n (2 * i) left end old new (omega arith) within is_left p in
    let rest : left / 10 ≡ n / 10 ^ (2 * i + 1) = ap (λ x. x / 10) is_left ∙ next_quotient n (2 * i) in
    let both = put_digit n (2 * i + 1) (left / 10) end old (set new (end - 1 - 2 * i) (48 + left % 10)) (omega arith) within rest first in
    let count : 2 * i + 1 + 1 ≡ 2 * (i + 1) = omega arith in
    let at : end - 1 - 2 * i ≡ start - 1 = omega arith in
    let next : end - 1 - (2 * i + 1) ≡ start - 2 = omega arith in
    let one : 48 + left % 10 ≡ ones = omega arith in
    let ten : 48 + left / 10 % 10 ≡ tens = omega arith in
    subst (λ k. IsPut (last_digits k n) end old (end - k) (set (set new (start - 1) ones) (start - 2) tens)) count
    (subst (λ t. IsPut (last_digits (2 * i + 1 + 1) n) end old (end - (2 * i + 1 + 1)) (set (set new (start - 1) ones) (start - 2) t)) ten
    (subst (λ o. IsPut (last_digits (2 * i + 1 + 1) n) end old (end - (2 * i + 1 + 1)) (set (set new (start - 1) o) (start - 2) (48 + left / 10 % 10))) one
    (subst (λ a. IsPut (last_digits (2 * i + 1 + 1) n) end old (end - (2 * i + 1 + 1)) (set (set new a (48 + left % 10)) (start - 2) (48 + left / 10 % 10))) at
    (subst (λ a. IsPut (last_digits (2 * i + 1 + 1) n) end old (end - (2 * i + 1 + 1)) (set (set new (end - 1 - 2 * i) (48 + left % 10)) a (48 + left / 10 % 10))) next both))))

pub pair_quotient : (n i left : ℕ) → left ≡ n / 10 ^ (2 * i) → left / 100 ≡ n / 10 ^ (2 * (i + 1))
pair_quotient n i left e =
    let count : 2 * i + 2 ≡ 2 * (i + 1) = omega arith in
    ap (λ x. x / 100) e ∙ div-div-eq-div-mul n (10 ^ (2 * i)) 100 ∙ ap (λ x. n / x) (sym (pow-add 10 (2 * i) 2) ∙ ap (λ x. 10 ^ x) count)

-- the last digits are pairs, and perhaps one digit before them
pub put_odd : (n count left end : ℕ) (old new : List ℕ) → count % 2 ≢ 0 → count ≤ end → end ≤ length old → left ≡ n / 10 ^ (2 * (count / 2)) → IsPut (last_digits (2 * (count / 2)) n) end old (end - 2 * (count / 2)) new
    → IsPut (last_digits count n) end old (end - count) (set new (end - count) (48 + left % 10))
put_odd n count left end old new odd C E e p =
    let j : ℕ = 2 * (count / 2) in
    let is : j + 1 ≡ count = omega arith in
    let at : end - 1 - j ≡ end - (j + 1) = omega arith in
    subst (λ k. IsPut (last_digits k n) end old (end - k) (set new (end - k) (48 + left % 10))) is
    (subst (λ a. IsPut (last_digits (j + 1) n) end old (end - (j + 1)) (set new a (48 + left % 10))) at (put_digit n j left end old new (omega arith) E e p))

pub odd_quotient : (n count left : ℕ) → count % 2 ≢ 0 → left ≡ n / 10 ^ (2 * (count / 2)) → left / 10 ≡ n / 10 ^ count
odd_quotient n count left odd e =
    let is : 2 * (count / 2) + 1 ≡ count = omega arith in
    ap (λ x. x / 10) e ∙ next_quotient n (2 * (count / 2)) ∙ ap (λ x. n / 10 ^ x) is
