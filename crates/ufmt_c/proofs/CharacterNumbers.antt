-- Characters by their numbers: their parts, and the number that is read from the digits.
use Rattle.std.proofs.Common.{◌≡◌, ◌≢◌, refl, sym, ap, ◌∙◌, ℕ, ◌+◌, ◌*◌, ◌/◌, ◌%◌, ◌<◌, ◌≤◌, ◌==◌, ◌||◌, Bool, true, false, cond, List, [], ◌∷◌, ◌++◌, codes, drop, length, ◌⊎◌, inl, inr, Option, Some, None, nat_lt, nat_le, arith}
use Rattle.std.specs.Prelude.{option_and_then}
use Rattle.std.specs.Char.{IsScalar, digit_char, digit_value}
use Rattle.std.specs.Char.Escape.{escape_unicode, hex_digit_at}
use Rattle.std.proofs.lemmas.Bool.Decides.{nat_tests}
use Rattle.std.proofs.lemmas.Str.{digit_value-digit_char}
use Rattle.std.proofs.Math.Utf8.{scalar_cases}
use borrow.Author.Tests.{ltb-true}
use Rattle.ufmt_grammar.specs.Reading.{strip}
use Rattle.ufmt_grammar.proofs.Parsing.{strip-append, strip_found, strip_joined}
use Rattle.ufmt_c.specs.Private.CharacterNumbers.{digit_at, high_digits, low_digits, number_from}

-- what a number's character is made of
abbrev parts_of : ℕ → List ℕ
parts_of n = codes "\\u{" ++ (high_digits n ++ (low_digits n ++ (125 ∷ [])))

-- what is less than one number is less than a greater one
still_less : (n low high : ℕ) → low ≤ high → nat_lt n low ≡ true → nat_lt n high ≡ true
still_less n low high order h = grind (arith, nat_tests)

-- a character that is written by its number is its opening, the digits and a brace
pub number_parts : (n : ℕ) → escape_unicode n ≡ parts_of n
number_parts n = one (nat_lt n 0x10) refl
  where
    five : (b : Bool) → nat_lt n 0x10_0000 ≡ b → nat_lt n 0x10 ≡ false → nat_lt n 0x100 ≡ false → nat_lt n 0x1000 ≡ false → nat_lt n 0x1_0000 ≡ false → escape_unicode n ≡ parts_of n
    five true e a b c d = rw (a, b, c, d, e) refl
    five false e a b c d = rw (a, b, c, d, e) refl

    four : (b : Bool) → nat_lt n 0x1_0000 ≡ b → nat_lt n 0x10 ≡ false → nat_lt n 0x100 ≡ false → nat_lt n 0x1000 ≡ false → escape_unicode n ≡ parts_of n
    four true d a b c = rw (a, b, c, d, still_less n 0x1_0000 0x10_0000 (omega arith) d) refl
    four false d a b c = five (nat_lt n 0x10_0000) refl a b c d

    three : (b : Bool) → nat_lt n 0x1000 ≡ b → nat_lt n 0x10 ≡ false → nat_lt n 0x100 ≡ false → escape_unicode n ≡ parts_of n
    three true c a b = rw (a, b, c, still_less n 0x1000 0x1_0000 (omega arith) c, still_less n 0x1000 0x10_0000 (omega arith) c) refl
    three false c a b = four (nat_lt n 0x1_0000) refl a b c

    two : (b : Bool) → nat_lt n 0x100 ≡ b → nat_lt n 0x10 ≡ false → escape_unicode n ≡ parts_of n
    two true b a = rw (a, b, still_less n 0x100 0x1000 (omega arith) b, still_less n 0x100 0x1_0000 (omega arith) b, still_less n 0x100 0x10_0000 (omega arith) b) refl
    two false b a = three (nat_lt n 0x1000) refl a b

    one : (b : Bool) → nat_lt n 0x10 ≡ b → escape_unicode n ≡ parts_of n
    one true a =
        rw (a, still_less n 0x10 0x100 (omega arith) a, still_less n 0x10 0x1000 (omega arith) a, still_less n 0x10 0x1_0000 (omega arith) a, still_less n 0x10 0x10_0000 (omega arith) a) refl
    one false a = two (nat_lt n 0x100) refl a

-- ---- stripping it, part by part

pub stripped_on : (a b t u : List ℕ) → Some u ≡ strip a t → strip (a ++ b) t ≡ strip b u
stripped_on a b t u found = strip-append a b t ∙ ap (option_and_then (strip b)) (sym found)

pub not_stripped : (a b t : List ℕ) → None ≡ strip a t → strip (a ++ b) t ≡ None
not_stripped a b t none = strip-append a b t ∙ ap (option_and_then (strip b)) (sym none)

-- ---- reading its number

pub no_digits : (n : ℕ) (t : List ℕ) → length t ≡ 0 → number_from n t ≡ n
unfolding number_from
no_digits n [] none = refl
no_digits n (b ∷ t) none = absurd (omega (arith, none))

pub digits_end : (n b : ℕ) (t u : List ℕ) → t ≡ b ∷ u → (b ≡ 125) ⊎ (0x11_0000 ≤ n) → number_from n t ≡ n
unfolding number_from
digits_end n b t u is (inl brace) = rw (is, brace) refl
digits_end n b t u is (inr large) =
    let too_large : nat_le 0x11_0000 n ≡ true = grind (arith, nat_tests) in
    rw (is, too_large) (go (b == 125))
  where
    go : (ends : Bool) → cond (ends || true) n (number_from (n * 16 + digit_value b) u) ≡ n
    go true = refl
    go false = refl

pub digit_read : (n b : ℕ) (t u : List ℕ) → t ≡ b ∷ u → b ≢ 125 → n < 0x11_0000 → number_from n t ≡ number_from (n * 16 + digit_value b) u
unfolding number_from
digit_read n b t u is no_brace small =
    let fits : nat_le 0x11_0000 n ≡ false = grind (arith, nat_tests) in
    let other : (b == 125) ≡ false = grind (arith, nat_tests) in
    rw (is, other, fits) refl

-- where a number is read as far as a place, its digit at the next place is read too
place_read : (worth next n : ℕ) (t : List ℕ) → n / next ≡ n / worth / 16 → n / worth < 0x11_0000 → number_from (n / next) (hex_digit_at worth n ∷ t) ≡ number_from (n / worth) t
place_read worth next n t places small =
    let digit = n / worth % 16 in
    let low : digit < 16 = omega arith in
    let far : digit < 36 = omega (arith, low) in
    let no_brace : digit_char digit ≢ 125 = λ e. grind (arith, nat_tests) in
    digit_read (n / next) (digit_char digit) (hex_digit_at worth n ∷ t) t refl no_brace (omega (arith, places, small))
    ∙ ap (λ m. number_from m t) (rw (digit_value-digit_char digit far) (omega (arith, places)))

module _ (n : ℕ) (u : List ℕ) (small : n < 0x11_0000) where
  one_read : number_from (n / 0x10) (hex_digit_at 1 n ∷ 125 ∷ u) ≡ n
  one_read = place_read 1 0x10 n (125 ∷ u) (omega arith) (omega (arith, small)) ∙ digits_end (n / 1) 125 (125 ∷ u) u refl (inl refl) ∙ omega arith

  two_read : number_from (n / 0x100) (hex_digit_at 0x10 n ∷ hex_digit_at 1 n ∷ 125 ∷ u) ≡ n
  two_read = place_read 0x10 0x100 n _ (omega arith) (omega (arith, small)) ∙ one_read

  three_read : number_from (n / 0x1000) (hex_digit_at 0x100 n ∷ hex_digit_at 0x10 n ∷ hex_digit_at 1 n ∷ 125 ∷ u) ≡ n
  three_read = place_read 0x100 0x1000 n _ (omega arith) (omega (arith, small)) ∙ two_read

  four_read : number_from (n / 0x1_0000) (hex_digit_at 0x1000 n ∷ hex_digit_at 0x100 n ∷ hex_digit_at 0x10 n ∷ hex_digit_at 1 n ∷ 125 ∷ u) ≡ n
  four_read = place_read 0x1000 0x1_0000 n _ (omega arith) (omega (arith, small)) ∙ three_read

  five_read : number_from (n / 0x10_0000) (hex_digit_at 0x1_0000 n ∷ hex_digit_at 0x1000 n ∷ hex_digit_at 0x100 n ∷ hex_digit_at 0x10 n ∷ hex_digit_at 1 n ∷ 125 ∷ u) ≡ n
  five_read = place_read 0x1_0000 0x10_0000 n _ (omega arith) (omega (arith, small)) ∙ four_read

  six_read : number_from 0 (hex_digit_at 0x10_0000 n ∷ hex_digit_at 0x1_0000 n ∷ hex_digit_at 0x1000 n ∷ hex_digit_at 0x100 n ∷ hex_digit_at 0x10 n ∷ hex_digit_at 1 n ∷ 125 ∷ u) ≡ n
  six_read =
      ap (λ m. number_from m (hex_digit_at 0x10_0000 n ∷ hex_digit_at 0x1_0000 n ∷ hex_digit_at 0x1000 n ∷ hex_digit_at 0x100 n ∷ hex_digit_at 0x10 n ∷ hex_digit_at 1 n ∷ 125 ∷ u))
      (omega (arith, small)) ∙ place_read 0x10_0000 0x100_0000 n _ (omega arith) (omega (arith, small)) ∙ five_read

  -- the number of a character that is written by it is read from its digits
  pub all_read : number_from 0 (drop 3 (escape_unicode n ++ u)) ≡ n
  all_read = one (nat_lt n 0x10) refl
    where
      from : (place : ℕ) (t : List ℕ) → n / place ≡ 0 → number_from (n / place) t ≡ n → number_from 0 t ≡ n
      from place t none read = ap (λ m. number_from m t) (sym none) ∙ read

      below : (bound : ℕ) → nat_lt n bound ≡ true → n < bound
      below bound h = ltb-true n bound h

      five : (b : Bool) → nat_lt n 0x10_0000 ≡ b → nat_lt n 0x10 ≡ false → nat_lt n 0x100 ≡ false → nat_lt n 0x1000 ≡ false → nat_lt n 0x1_0000 ≡ false → number_from 0 (drop 3 (escape_unicode n ++ u)) ≡ n
      five true e a b c d = rw (a, b, c, d, e) (from 0x10_0000 _ (omega (arith, below 0x10_0000 e)) five_read)
      five false e a b c d = rw (a, b, c, d, e) six_read

      four : (b : Bool) → nat_lt n 0x1_0000 ≡ b → nat_lt n 0x10 ≡ false → nat_lt n 0x100 ≡ false → nat_lt n 0x1000 ≡ false → number_from 0 (drop 3 (escape_unicode n ++ u)) ≡ n
      four true d a b c = rw (a, b, c, d) (from 0x1_0000 _ (omega (arith, below 0x1_0000 d)) four_read)
      four false d a b c = five (nat_lt n 0x10_0000) refl a b c d

      three : (b : Bool) → nat_lt n 0x1000 ≡ b → nat_lt n 0x10 ≡ false → nat_lt n 0x100 ≡ false → number_from 0 (drop 3 (escape_unicode n ++ u)) ≡ n
      three true c a b = rw (a, b, c) (from 0x1000 _ (omega (arith, below 0x1000 c)) three_read)
      three false c a b = four (nat_lt n 0x1_0000) refl a b c

      two : (b : Bool) → nat_lt n 0x100 ≡ b → nat_lt n 0x10 ≡ false → number_from 0 (drop 3 (escape_unicode n ++ u)) ≡ n
      two true b a = rw (a, b) (from 0x100 _ (omega (arith, below 0x100 b)) two_read)
      two false b a = three (nat_lt n 0x1000) refl a b

      one : (b : Bool) → nat_lt n 0x10 ≡ b → number_from 0 (drop 3 (escape_unicode n ++ u)) ≡ n
      one true a = rw a (from 0x10 _ (omega (arith, below 0x10 a)) one_read)
      one false a = two (nat_lt n 0x100) refl a

pub scalar_small : (c : ℕ) → IsScalar c → c < 0x11_0000
scalar_small c scalar = elim (scalar_cases c scalar) [
  | inl low ↦ omega (arith, low)
  | inr high ↦ high.1
]

-- the number that is read after the opening is that of each character that is written so
pub number_is : (t digits : List ℕ) → Some digits ≡ strip (codes "\\u{") t → (c : ℕ) (u : List ℕ) → IsScalar c → t ≡ escape_unicode c ++ u → number_from 0 digits ≡ c
number_is t digits opens c u scalar is =
    let whole = strip_found (codes "\\u{") t digits (sym opens) in
    ap (number_from 0) (ap (drop 3) (sym whole ∙ is)) ∙ all_read c u (scalar_small c scalar)
