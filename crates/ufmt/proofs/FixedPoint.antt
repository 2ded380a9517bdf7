-- Fixed-point texts: their digits denote the number, and are written as two numbers with zeros.
use Rattle.std.proofs.Common.{◌≡◌, inl, inr, ℕ, zero, suc, ◌+◌, ◌-◌, ◌*◌, ◌/◌, ◌%◌, ◌^◌, ◌<◌, ◌≤◌, ℤ, pos, negsuc, nat_abs, List, [], ◌∷◌, ◌++◌, codes, map, length, replicate, refl, sym, ap, ap₂, ◌∙◌, arith, pow-suc, append_assoc, append-nil, length-append, false, ◌==◌, if◌then◌else◌, drop, get_or, subst}
use Rattle.std.specs.List.{All}
use Rattle.std.proofs.Math.Nat.{pow-zero, mod-eq_of_lt, mod-lt, div-add-mod, one-le-pow}
use Rattle.std.proofs.lemmas.Nat.{pow-add}
use Rattle.std.proofs.lemmas.Bool.{cases_lt}
use Rattle.std.proofs.lemmas.Bool.Decides.{nat_tests}
use Rattle.std.proofs.lemmas.List.{length-map, map-append, replicate_more}
use Rattle.std.proofs.lemmas.List.Elements.{All-append, All-nil, All-cons}
use Rattle.ufmt_core.specs.Bytes.{zero_digit}
use Rattle.ufmt_float.specs.Text.{last_digits}
use Rattle.ufmt_core.specs.Decimal.{decimal, decimal_byte, numeral, sign_of, value_in_base}
use Rattle.ufmt_core.proofs.DecimalTexts.{decimal-in_base}
use Rattle.ufmt_float.proofs.Puts.{length-last_digits}
use Rattle.ufmt_core.proofs.Numerals.{numeral-denotes}
use Rattle.ufmt_core.proofs.NumeralTexts.{text-digit, text-step}
use Rattle.ufmt_fixed.specs.Text.{fixed_digits, point_and_last}
use Rattle.ufmt.specs.FixedPoint.{DenotesFixed, fixed, point_and}
use Rattle.ufmt.specs.Zeros.{zero_filled}

pub power_positive : (places : ℕ) → 0 < 10 ^ places
power_positive places = one-le-pow places 10 (omega arith)

-- so many of the last digits, as numbers
abbrev last_of : ℕ → ℕ → List ℕ
last_of zero n = []
last_of (suc count) n = last_of count (n / 10) ++ (n % 10 ∷ [])

last_of-bytes : (count n : ℕ) → last_digits count n ≡ map decimal_byte (last_of count n)
unfolding last_digits
last_of-bytes zero n = refl
last_of-bytes (suc count) n =
    ap (λ front. front ++ (decimal_byte (n % 10) ∷ [])) (last_of-bytes count (n / 10)) ∙ sym (map-append decimal_byte (last_of count (n / 10)) (n % 10 ∷ []))

length-last_of : (count n : ℕ) → length (last_of count n) ≡ count
length-last_of zero n = refl
length-last_of (suc count) n = omega (arith, length-append (last_of count (n / 10)) (n % 10 ∷ []), length-last_of count (n / 10))

last_of-below : (count n : ℕ) → All (λ digit. digit < 10) (last_of count n)
last_of-below zero n = All-nil (λ digit. digit < 10)
last_of-below (suc count) n =
    All-append (λ digit. digit < 10) (last_of count (n / 10)) (n % 10 ∷ []) (last_of-below count (n / 10))
    (All-cons (λ digit. digit < 10) (n % 10) [] (omega arith) (All-nil (λ digit. digit < 10)))

-- the value of digits and then other digits
value-append : (base : ℕ) (xs ys : List ℕ) → value_in_base base (xs ++ ys) ≡ value_in_base base xs * base ^ length ys + value_in_base base ys
value-append base [] ys = omega arith
value-append base (x ∷ xs) ys = rw (value-append base xs ys, length-append xs ys, pow-add base (length xs) (length ys)) (omega arith)

value-last_of : (count n : ℕ) → n < 10 ^ count → value_in_base 10 (last_of count n) ≡ n
value-last_of zero n low = omega (arith, low, pow-zero 10)
value-last_of (suc count) n low =
    omega (
      arith,
      value-append 10 (last_of count (n / 10)) (n % 10 ∷ []),
      value-last_of count (n / 10) (omega (arith, low, pow-suc 10 count)),
      pow-zero 10,
    )

-- with digits there is a point
point_and-some : (digits : List ℕ) → 0 < length digits → point_and digits ≡ codes "." ++ map decimal_byte digits
point_and-some [] some = absurd (omega arith)
point_and-some (digit ∷ digits) some = refl

point_and-last : (places n : ℕ) → point_and_last places n ≡ point_and (last_of places (n % 10 ^ places))
point_and-last zero n = refl
point_and-last (suc places) n =
    let digits = last_of (suc places) (n % 10 ^ suc places) in
    ap (λ bytes. codes "." ++ bytes) (last_of-bytes (suc places) (n % 10 ^ suc places))
    ∙ sym (point_and-some digits (omega (arith, length-last_of (suc places) (n % 10 ^ suc places))))

-- `fixed` gives a text that denotes the number
pub fixed-denotes : (places : ℕ) (z : ℤ) → DenotesFixed places (fixed places z) z
fixed-denotes places z =
    let n = nat_abs z in
    let whole = numeral 10 (n / 10 ^ places) in
    let part = last_of places (n % 10 ^ places) in
    let front = numeral-denotes 10 (n / 10 ^ places) (omega arith) in record {
      before = whole;
      after = part;
      bytes = ap (λ text. sign_of z ++ text) (ap₂ (λ s t. s ++ t) (decimal-in_base.by_digits (n / 10 ^ places)) (point_and-last places n));
      some_digit = front.some_digit;
      no_leading_zero = front.no_leading_zero;
      below_ten = All-append (λ digit. digit < 10) whole part front.below_base (last_of-below places (n % 10 ^ places));
      all_places = length-last_of places (n % 10 ^ places);
      value = value-append 10 whole part
          ∙ rw (front.value, value-last_of places (n % 10 ^ places) (mod-lt n (power_positive places)), length-last_of places (n % 10 ^ places))
          (omega (arith, div-add-mod n (10 ^ places)));
    }

-- the last digits of a number are zeros and its decimal text
pub last_digits-zeros : (count n : ℕ) → n < 10 ^ suc count → last_digits (suc count) n ≡ replicate (suc count - length (decimal (pos n))) zero_digit ++ decimal (pos n)
unfolding last_digits
last_digits-zeros zero n low =
    let ones : n % 10 ≡ n = mod-eq_of_lt (omega (arith, low)) in
    rw (ones, text-digit decimal-in_base n (omega (arith, low))) refl
last_digits-zeros (suc count) n low =
    let front = last_digits-zeros count (n / 10) (omega (arith, low, pow-suc 10 (suc count))) in
    elim (cases_lt n 10) [
      | inl small ↦
          let none : n / 10 ≡ 0 = omega arith in
          let ones : n % 10 ≡ n = omega arith in
          let zeros = replicate_more count zero_digit in
          let first : suc count - 1 ≡ count = omega arith in
          let second : suc (suc count) - 1 ≡ count + 1 = omega arith in
          rw (front, none, ones, text-digit decimal-in_base 0 (omega arith), text-digit decimal-in_base n small, first, second) (ap (λ text. text ++ (decimal_byte n ∷ [])) zeros)
      | inr large ↦
          let step = text-step decimal-in_base n large in
          let longer = ap length step ∙ length-append (decimal (pos (n / 10))) (decimal_byte (n % 10) ∷ []) in
          let missing : suc count - length (decimal (pos (n / 10))) ≡ suc (suc count) - length (decimal (pos n)) = omega (arith, longer) in
          ap (λ text. text ++ (decimal_byte (n % 10) ∷ [])) front
          ∙ append_assoc (replicate (suc count - length (decimal (pos (n / 10)))) zero_digit) (decimal (pos (n / 10))) (decimal_byte (n % 10) ∷ [])
          ∙ ap₂ (λ zeros text. replicate zeros zero_digit ++ text) missing (sym step)
    ]

-- the parts that are written: the whole number, with the zeros that the width asks for, the point, and the places
parts-joined : (width k : ℕ) (sign : List ℕ) (n : ℕ)
    → zero_filled (width - (suc k + 1)) sign (decimal (pos (n / 10 ^ suc k))) ++ (codes "." ++ zero_filled (suc k) [] (decimal (pos (n % 10 ^ suc k))))
    ≡ zero_filled width sign (fixed_digits (suc k) n)
parts-joined width k sign n =
    let whole = decimal (pos (n / 10 ^ suc k)) in
    let last = last_digits (suc k) (n % 10 ^ suc k) in
    let tail = codes "." ++ last in
    let zeros = replicate (width - (suc k + 1) - (length sign + length whole)) zero_digit in
    let count : width - (suc k + 1) - (length sign + length whole) ≡ width - (length sign + length (whole ++ tail)) = omega (
      arith,
      length-append whole tail,
      length-last_digits (suc k) (n % 10 ^ suc k),
    ) in
    let part = decimal (pos (n % 10 ^ suc k)) in
    let same : suc k - (0 + length part) ≡ suc k - length part = omega arith in
    let filled : zero_filled (suc k) [] part ≡ last =
    ap (λ number. replicate number zero_digit ++ part) same ∙ sym (last_digits-zeros k (n % 10 ^ suc k) (mod-lt n (power_positive (suc k)))) in
    ap (λ text. (sign ++ (zeros ++ whole)) ++ (codes "." ++ text)) filled
    ∙ append_assoc sign (zeros ++ whole) tail
    ∙ ap (λ text. sign ++ text) (append_assoc zeros whole tail)
    ∙ ap (λ number. sign ++ (replicate number zero_digit ++ (whole ++ tail))) count

pub fixed-parts : (width places : ℕ) (z : ℤ) {whole part whole_width count : ℕ} {sign : List ℕ} → 0 < places → count ≡ places
    → whole ≡ nat_abs z / 10 ^ places → part ≡ nat_abs z % 10 ^ places → whole_width ≡ width - (count + 1) → sign ≡ sign_of z
    → zero_filled whole_width sign (decimal (pos whole)) ++ (codes "." ++ zero_filled count [] (decimal (pos part)))
    ≡ zero_filled width (sign_of z) (fixed_digits places (nat_abs z))
fixed-parts width zero z some is_count is_whole is_part is_width is_sign = absurd (omega arith)
fixed-parts width (suc k) z some is_count is_whole is_part is_width is_sign =
    rw (is_width, is_count, is_sign, is_whole, is_part) (parts-joined width k (sign_of z) (nat_abs z))

-- the text without its points
abbrev without_points : List ℕ → List ℕ
without_points [] = []
without_points (byte ∷ bytes) = if byte == 46 then without_points bytes else byte ∷ without_points bytes

no_point : (digit : ℕ) → (decimal_byte digit == 46) ≡ false
no_point digit = grind (arith, nat_tests)

digits-kept : (digits : List ℕ) (rest : List ℕ) → without_points (map decimal_byte digits ++ rest) ≡ map decimal_byte digits ++ without_points rest
digits-kept [] rest = refl
digits-kept (digit ∷ digits) rest = rw (no_point digit, digits-kept digits rest) refl

point-dropped : (digits : List ℕ) → without_points (point_and digits) ≡ map decimal_byte digits
point-dropped [] = refl
point-dropped (digit ∷ digits) =
    ap without_points (sym (append-nil (map decimal_byte (digit ∷ digits)))) ∙ digits-kept (digit ∷ digits) [] ∙ append-nil (map decimal_byte (digit ∷ digits))

digits_back : (digits : List ℕ) → map (λ byte. byte - 48) (map decimal_byte digits) ≡ digits
digits_back [] = refl
digits_back (digit ∷ digits) = ap₂ (λ x xs. x ∷ xs) (omega arith) (digits_back digits)

-- the number that the digits of a text denote
abbrev value_of : List ℕ → ℕ
value_of text = value_in_base 10 (map (λ byte. byte - 48) (without_points text))

value_of-digits : {places : ℕ} {text : List ℕ} {z : ℤ} (d : DenotesFixed places text z) → value_of (map decimal_byte d.before ++ point_and d.after) ≡ nat_abs z
value_of-digits d =
    ap (λ bytes. value_in_base 10 (map (λ byte. byte - 48) bytes))
    (digits-kept d.before (point_and d.after) ∙ ap (λ bytes. map decimal_byte d.before ++ bytes) (point-dropped d.after)
    ∙ sym (map-append decimal_byte d.before d.after))
    ∙ ap (value_in_base 10) (digits_back (d.before ++ d.after)) ∙ d.value

first_byte : (before rest : List ℕ) → 0 < length before → 48 ≤ get_or (map decimal_byte before ++ rest) 0 0
first_byte [] rest some = absurd (omega arith)
first_byte (digit ∷ digits) rest some = omega arith

-- a text that begins with a digit has no sign
no_sign : (before after rest : List ℕ) → 0 < length before → map decimal_byte before ++ point_and after ≡ 45 ∷ rest → ⊥
no_sign before after rest some minus =
    omega (arith, first_byte before (point_and after) some, ap (λ (bytes : List ℕ). get_or bytes 0 0) minus)

-- a text with so many places denotes one number
number-at : (places : ℕ) (text : List ℕ) (y z : ℤ) → DenotesFixed places text y → DenotesFixed places text z → y ≡ z
number-at places text (pos m) (pos n) denotes_y denotes_z =
    ap pos (sym (value_of-digits denotes_y) ∙ ap value_of (sym denotes_y.bytes ∙ denotes_z.bytes) ∙ value_of-digits denotes_z)
number-at places text (pos m) (negsuc n) denotes_y denotes_z =
    absurd (no_sign denotes_y.before denotes_y.after (map decimal_byte denotes_z.before ++ point_and denotes_z.after) denotes_y.some_digit (sym denotes_y.bytes ∙ denotes_z.bytes))
number-at places text (negsuc m) (pos n) denotes_y denotes_z =
    absurd (no_sign denotes_z.before denotes_z.after (map decimal_byte denotes_y.before ++ point_and denotes_y.after) denotes_z.some_digit (sym denotes_z.bytes ∙ denotes_y.bytes))
number-at places text (negsuc m) (negsuc n) denotes_y denotes_z =
    let digits_y = map decimal_byte denotes_y.before ++ point_and denotes_y.after in
    let digits_z = map decimal_byte denotes_z.before ++ point_and denotes_z.after in
    let signed : 45 ∷ digits_y ≡ 45 ∷ digits_z = sym denotes_y.bytes ∙ denotes_z.bytes in
    let same : digits_y ≡ digits_z = ap (drop 1) signed in
    let magnitudes : suc m ≡ suc n = sym (value_of-digits denotes_y) ∙ ap value_of same ∙ value_of-digits denotes_z in
    ap negsuc (omega arith)

-- what follows the first point
abbrev past_point : List ℕ → List ℕ
past_point [] = []
past_point (byte ∷ bytes) = if byte == 46 then bytes else past_point bytes

past_digits : (digits rest : List ℕ) → past_point (map decimal_byte digits ++ rest) ≡ past_point rest
past_digits [] rest = refl
past_digits (digit ∷ digits) rest = rw (no_point digit, past_digits digits rest) refl

past_sign : (z : ℤ) (rest : List ℕ) → past_point (sign_of z ++ rest) ≡ past_point rest
past_sign (pos n) rest = refl
past_sign (negsuc n) rest = refl

past_and : (digits : List ℕ) → past_point (point_and digits) ≡ map decimal_byte digits
past_and [] = refl
past_and (digit ∷ digits) = refl

-- a text has as many places as digits follow its point
places_of : {places : ℕ} {text : List ℕ} {z : ℤ} (d : DenotesFixed places text z) → length (past_point text) ≡ places
places_of {z = z} d =
    ap (λ (bytes : List ℕ). length (past_point bytes)) d.bytes ∙ ap length (past_sign z (map decimal_byte d.before ++ point_and d.after))
    ∙ ap length (past_digits d.before (point_and d.after)) ∙ ap length (past_and d.after) ∙ length-map d.after decimal_byte ∙ d.all_places

-- a text denotes one number, with one number of places
pub fixed-number : (p q : ℕ) (text : List ℕ) (y z : ℤ) → DenotesFixed p text y → DenotesFixed q text z → (p ≡ q) × (y ≡ z)
fixed-number p q text y z denotes_y denotes_z =
    let same : p ≡ q = sym (places_of denotes_y) ∙ places_of denotes_z in
    (same, number-at q text y z (subst (λ (places : ℕ). DenotesFixed places text y) same denotes_y) denotes_z)

-- numbers with one text are one number
pub fixed-determines : (p q : ℕ) (y z : ℤ) → fixed p y ≡ fixed q z → (p ≡ q) × (y ≡ z)
fixed-determines p q y z same =
    fixed-number p q (fixed q z) y z (subst (λ (text : List ℕ). DenotesFixed p text y) same (fixed-denotes p y)) (fixed-denotes q z)
