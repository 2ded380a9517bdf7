-- The digits after the point of a fixed-point number: they complete one number, with as many places as there are digits.
use Rattle.std.proofs.Common.{◌≡◌, inl, inr, refl, sym, ap, ◌∙◌, ℕ, zero, suc, ◌+◌, ◌-◌, ◌*◌, ◌/◌, ◌%◌, ◌^◌, ◌<◌, ◌≤◌, false, true≢false, cond, List, [], ◌∷◌, ◌++◌, length, drop, div-one, arith, length-append}
use Rattle.std.proofs.lemmas.Bool.{cases_Bool}
use Rattle.std.proofs.Math.Nat.{pow-zero, pow-succ', div-div-eq-div-mul}
use Rattle.std.specs.Char.{is_ascii_digit}
use Rattle.ufmt_float.specs.Text.{last_digits}
use Rattle.ufmt_core.specs.Decimal.{decimal_byte}
use Rattle.ufmt_float.proofs.Puts.{last_digits-front, last_digits-none, length-last_digits}
use Rattle.ufmt_fixed.proofs.Puts.{last_digits-rest}
use Rattle.ufmt_parse_leaves.specs.Private.Digits.{after_digits, begins_digit, value_after}
use Rattle.ufmt_parse_leaves.specs.Private.Places.{begins_point, Completes, CompletesNone, CompletesOne, EndsFixed}
use Rattle.ufmt_parse_leaves.specs.Values.{is_u64}
use Rattle.ufmt_parse_leaves.proofs.DecimalFronts.{after_digits-none, byte_is_digit, digit_of, value_after-none}

-- without places a number is whole
no_places : (n : ℕ) → n / 10 ^ 0 ≡ n
no_places n = ap (λ power. n / power) (pow-zero 10) ∙ div-one n

-- with a place more there is a digit less before the point
place_more : (count n : ℕ) → n / 10 ^ suc count ≡ n / 10 ^ count / 10
place_more count n =
    let product : 10 ^ suc count ≡ 10 ^ count * 10 = omega (arith, pow-succ' 10 count) in
    ap (λ power. n / power) product ∙ sym (div-div-eq-div-mul n (10 ^ count) 10)

-- ---- which digits are the last of a number

-- the digits at the front of a text, after those of `start`, are the last digits of the number that they complete
record Places (start : ℕ) (t : List ℕ) : Type 0 where
  count : ℕ
  is : t ≡ last_digits count (value_after start t) ++ after_digits t
  whole : value_after start t / 10 ^ count ≡ start

no_digits : (start : ℕ) (t : List ℕ) → begins_digit t ≡ false → Places start t
no_digits start t none = record {
  count = 0;
  is = rw (last_digits-none (value_after start t)) (sym (after_digits-none t none));
  whole = no_places (value_after start t) ∙ value_after-none start t none;
}

places : (start : ℕ) (t : List ℕ) → Places start t
places start [] = no_digits start [] refl
places start (c ∷ t) = elim (cases_Bool (is_ascii_digit c)) [
  | inl e ↦
      let more = places (start * 10 + (c - 48)) t in
      let range = digit_of c e in
      let n = value_after (start * 10 + (c - 48)) t in
      let first : decimal_byte (n / 10 ^ more.count % 10) ≡ c = omega (arith, more.whole, range.0, range.1) in
      let digits = last_digits-front more.count n ∙ ap (λ byte. byte ∷ last_digits more.count n) first in record {
        count = suc more.count;
        is = rw e (ap (λ rest. c ∷ rest) more.is ∙ sym (ap (λ front. front ++ after_digits t) digits));
        whole = rw e (omega (arith, place_more more.count n, more.whole, range.0, range.1));
      }
  | inr e ↦ no_digits start (c ∷ t) e
]

-- what follows the digits at the front is no longer
pub after_digits-le : (t : List ℕ) → length (after_digits t) ≤ length t
after_digits-le t =
    let found = places 0 t in
    omega (arith, ap length found.is, length-append (last_digits found.count (value_after 0 t)) (after_digits t))

-- after the digits before them the last digits of a number complete it
last_complete : (count n : ℕ) (u : List ℕ) → value_after (n / 10 ^ count) (last_digits count n ++ u) ≡ value_after n u
last_complete zero n u = rw (last_digits-none n, no_places n) refl
last_complete (suc count) n u =
    let digit = n / 10 ^ count % 10 in
    let before = n / 10 ^ suc count in
    let rest = last_digits count n ++ u in
    let back : before * 10 + (decimal_byte digit - 48) ≡ n / 10 ^ count = omega (arith, place_more count n) in
    ap (λ text. value_after before (text ++ u)) (last_digits-front count n)
    ∙ ap (λ is. cond is (value_after (before * 10 + (decimal_byte digit - 48)) rest) before) (byte_is_digit digit (omega arith))
    ∙ ap (λ m. value_after m rest) back ∙ last_complete count n u

last_passed : (count n : ℕ) (u : List ℕ) → after_digits (last_digits count n ++ u) ≡ after_digits u
last_passed zero n u = rw (last_digits-none n) refl
last_passed (suc count) n u =
    let digit = n / 10 ^ count % 10 in
    let rest = last_digits count n ++ u in
    ap (λ text. after_digits (text ++ u)) (last_digits-front count n)
    ∙ ap (λ is. cond is (after_digits rest) (decimal_byte digit ∷ rest)) (byte_is_digit digit (omega arith)) ∙ last_passed count n u

-- ---- with a point, and without one

-- if a number with places comes after its whole part, it is that of the digits there
record IsPlaced (whole m places : ℕ) (digits u : List ℕ) : Type 0 where
  value : value_after whole digits ≡ m
  after : after_digits digits ≡ u
  long : length digits ≡ places + length u
  some : 0 < places

placed : (whole m count : ℕ) (digits u : List ℕ) → EndsFixed u → Completes whole m count (46 ∷ digits) u → IsPlaced whole m count digits u
placed whole m zero digits u ends c = absurd (true≢false (ap begins_point c.is ∙ ends.no_point))
placed whole m (suc count) digits u ends c =
    let last = last_digits (suc count) m in
    let is : digits ≡ last ++ u = ap (drop 1) c.is ∙ ap (λ text. text ++ u) (last_digits-rest (suc count) m) in record {
      value = ap (value_after whole) is ∙ ap (λ n. value_after n (last ++ u)) (sym c.whole_is) ∙ last_complete (suc count) m u ∙ value_after-none m u ends.no_digit;
      after = ap after_digits is ∙ last_passed (suc count) m u ∙ after_digits-none u ends.no_digit;
      long = omega (arith, ap length is, length-append last u, length-last_digits (suc count) m);
      some = omega arith;
    }

-- without a point the number is whole
pub whole_completes : (whole : ℕ) (t : List ℕ) → is_u64 whole → begins_point t ≡ false → CompletesOne whole whole 0 t t
whole_completes whole t range none = record {
  in_range = (range, omega arith);
  completes = record { whole_is = no_places whole; is = refl };
  only = by;
}
  where
    by : (m count : ℕ) (u : List ℕ) → EndsFixed u → Completes whole m count t u → (m ≡ whole) × (count ≡ 0) × (u ≡ t)
    by m zero u ends c = (sym (no_places m) ∙ c.whole_is, refl, sym c.is)
    by m (suc count) u ends c = absurd (true≢false (sym (ap begins_point c.is) ∙ none))

module _ (whole : ℕ) (digits : List ℕ) where
  -- where the number is too large, none is completed
  pub too_large : 2 ^ 64 ≤ value_after whole digits → CompletesNone whole (46 ∷ digits)
  too_large large n count u fits few ends c = omega (arith, large, fits, (placed whole n count digits u ends c).value)

  -- where there is no digit, or there are too many
  pub no_places_there : (0 < length digits - length (after_digits digits) → 2 ^ 8 ≤ length digits - length (after_digits digits)) → CompletesNone whole (46 ∷ digits)
  no_places_there many n count u fits few ends c =
      let is = placed whole n count digits u ends c in
      let some : 0 < length digits - length (after_digits digits) = omega (arith, is.some, is.long, ap length is.after) in
      omega (arith, many some, few, is.long, ap length is.after)

  -- else the number is that of the digits
  pub places_complete : (n count : ℕ) (new : List ℕ) → n ≡ value_after whole digits → n < 2 ^ 64 → new ≡ after_digits digits
      → count ≡ length digits - length new → 0 < count → count < 2 ^ 8 → CompletesOne whole n count (46 ∷ digits) new
  places_complete n count new value fits after counted some few = by (places whole digits) count counted some few
    where
      by : Places whole digits → (count : ℕ) → count ≡ length digits - length new → 0 < count → count < 2 ^ 8 → CompletesOne whole n count (46 ∷ digits) new
      by found zero counted some few = absurd (omega arith)
      by found (suc count) counted some few =
          let all : found.count ≡ suc count = omega (
            arith,
            counted,
            ap length after,
            ap length found.is,
            length-append (last_digits found.count (value_after whole digits)) (after_digits digits),
            length-last_digits found.count (value_after whole digits),
          ) in
          let last : digits ≡ last_digits (suc count) n ++ new = found.is ∙ (λ i. last_digits (all i) (sym value i) ++ sym after i) in record {
            in_range = (fits, few);
            completes = record {
              whole_is = (λ i. value i / 10 ^ sym all i) ∙ found.whole;
              is = ap (λ rest. 46 ∷ rest) (last ∙ ap (λ text. text ++ new) (sym (last_digits-rest (suc count) n)));
            };
            only = λ m more u ends c.
                let is = placed whole m more digits u ends c in
                (sym is.value ∙ sym value, omega (arith, counted, is.long, ap length is.after, ap length after), sym is.after ∙ sym after);
          }
