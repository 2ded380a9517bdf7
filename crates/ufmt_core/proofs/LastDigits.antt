-- Decimal texts that are written from the right, several digits at a time.
use Rattle.std.proofs.Common.{◌≡◌, ℕ, zero, suc, ◌+◌, ◌-◌, ◌/◌, ◌%◌, ◌^◌, ◌<◌, ◌≤◌, List, [], ◌∷◌, ◌++◌, length, drop, set, Bool, true, false, pos, refl, sym, ap, ◌∙◌, arith, pow-suc, length-append, length-drop, length-set, append_assoc, append-nil}
use Rattle.std.proofs.Math.Nat.{mod-eq_of_lt, pow-zero, pow-succ', div-one, one-le-pow, div-div-eq-div-mul}
use Rattle.std.proofs.Math.Arith.{mod-mul}
use Rattle.std.proofs.Math.Seq.{drop-length}
use Rattle.std.proofs.lemmas.List.{drop-set, drop-set-lt, drop-drop, set_comm}
use Rattle.std.proofs.lemmas.Nat.{le-div}
use Rattle.std.specs.Int.{from_bool}
use Rattle.std.proofs.Math.Dec.{ltb}
use Rattle.std.proofs.lemmas.Bool.{ltb-true, ltb-false}
use Rattle.ufmt_float.specs.Text.{last_digits}
use Rattle.ufmt_float.proofs.Puts.{length-last_digits}
use Rattle.ufmt_core.specs.Decimal.{decimal_byte, decimal}
use Rattle.ufmt_core.proofs.DecimalTexts.{decimal-in_base}
use Rattle.ufmt_core.proofs.NumeralTexts.{text-digit, text-step, text-nonempty}
use Rattle.ufmt_core.proofs.WrittenDigits.{IsWrittenFrom}

-- the last two digits are the tens and the ones
pub last_digits-two : (n : ℕ) → n < 100 → last_digits 2 n ≡ decimal_byte (n / 10) ∷ decimal_byte (n % 10) ∷ []
unfolding last_digits
last_digits-two n low = let tens : n / 10 % 10 ≡ n / 10 = omega arith in rw tens refl

-- the last two digits are the whole text of a number of two digits
pub decimal_two : (n : ℕ) → 10 ≤ n → n < 100 → decimal (pos n) ≡ last_digits 2 n
decimal_two n high low = text-step decimal-in_base n high ∙ rw (text-digit decimal-in_base (n / 10) (omega arith), last_digits-two n low) refl

-- a decimal text has a digit, and the text of a number of two digits has two
pub decimal_nonempty : (n : ℕ) → 0 < length (decimal (pos n))
decimal_nonempty = text-nonempty decimal-in_base

pub length_one : (n : ℕ) → n < 10 → length (decimal (pos n)) ≡ 1
length_one n low = ap length (text-digit decimal-in_base n low)

pub length_two : (n : ℕ) → 10 ≤ n → n < 100 → length (decimal (pos n)) ≡ 2
length_two n high low = ap length (decimal_two n high low) ∙ length-last_digits 2 n

-- two bytes written at `at`, and the bytes after them
pub drop-pair : (buffer : List ℕ) (at next tens ones : ℕ) → next ≡ at + 1 → at + 2 ≤ length buffer
    → drop at (set (set buffer next ones) at tens) ≡ tens ∷ ones ∷ drop (at + 2) buffer
drop-pair buffer at next tens ones after room =
    let end : next + 1 ≡ at + 2 = omega arith in
    rw (drop-set (set buffer next ones) at tens (omega (arith, length-set buffer next ones)), ← after, drop-set buffer next ones (omega arith), end) refl

-- an index in a buffer, counted from its end: the remainder by the buffer's size, or more, changes nothing
pub index_from_end : (start count size : ℕ) → start < count → count ≤ size → count - ((count - 1 - start) % size + 1) ≡ start
index_from_end start count size within fits =
    let low : count - 1 - start < size = omega (arith, within, fits) in
    omega (arith, mod-eq_of_lt low, within)

-- the digits that are left end where the written ones begin
pub digits_left : (text whole : List ℕ) (end : ℕ) (buffer : List ℕ) → text ++ drop end buffer ≡ whole → end ≤ length buffer
    → end + length whole ≡ length text + length buffer
digits_left text whole end buffer joined within =
    omega (arith, ap length joined, length-append text (drop end buffer), length-drop end buffer, within)

-- two digits were written before `end`: from the second on if the first is a zero, they are the number's text
pub record IsFirst (n start end : ℕ) (old new : List ℕ) : Type 0 where
  pub starts : start + length (decimal (pos n)) ≡ end
  pub written : drop start new ≡ decimal (pos n) ++ drop end old

pub first_written : (n end : ℕ) (low : Bool) (old new : List ℕ) → ltb n 10 ≡ low → n < 100 → 2 ≤ end
    → drop (end - 2) new ≡ last_digits 2 n ++ drop (end - 2 + 2) old → IsFirst n (end - 2 + from_bool low) end old new
first_written n end true old new is_low within room placed =
    let low = ltb-true n 10 is_low in
    let one = text-digit decimal-in_base n low in
    let whole : end - 2 + 2 ≡ end = omega arith in
    let ones : n % 10 ≡ n = omega (arith, low) in
    let pair = rw (last_digits-two n within, ones, whole) at placed in record {
      starts = omega (arith, ap length one);
      written = sym (drop-drop 1 (end - 2) new) ∙ ap (drop 1) pair ∙ rw one refl;
    }
first_written n end false old new is_high within room placed =
    let high = ltb-false n 10 is_high in
    let whole : end - 2 + 2 ≡ end = omega arith in
    let none : end - 2 + 0 ≡ end - 2 = omega arith in record {
      starts = omega (arith, length_two n high within);
      written = rw (none, decimal_two n high within) (rw whole at placed);
    }

-- the tens are written at the first digit's index, and then the ones before `end`: over the tens if they are the only digit
pub first_placed : (n start end tens ones : ℕ) (low : Bool) (buffer : List ℕ) → ltb n 10 ≡ low → n < 100 → start + length (decimal (pos n)) ≡ end
    → end ≤ length buffer → tens ≡ decimal_byte (n / 10) → ones ≡ decimal_byte (n % 10)
    → drop start (set (set buffer start tens) (end - 1) ones) ≡ decimal (pos n) ++ drop end buffer
first_placed n start end tens ones true buffer is_low within ends room is_tens is_ones =
    let low = ltb-true n 10 is_low in
    let one = text-digit decimal-in_base n low in
    let next : start + 1 ≡ end = omega (arith, ends, ap length one) in
    let at : end - 1 ≡ start = omega (arith, next) in
    let only : ones ≡ decimal_byte n = is_ones ∙ ap decimal_byte {x = n % 10} {y = n} (omega (arith, low)) in
    rw (
      at,
      drop-set (set buffer start tens) start ones (omega (arith, next, room, length-set buffer start tens)),
      drop-set-lt (start + 1) buffer start tens (omega arith),
      next,
      one,
      only,
    ) refl
first_placed n start end tens ones false buffer is_high within ends room is_tens is_ones =
    let high = ltb-false n 10 is_high in
    let two = decimal_two n high within ∙ last_digits-two n within in
    let whole : start + 2 ≡ end = omega (arith, ends, length_two n high within) in
    let at : end - 1 ≡ start + 1 = omega (arith, whole) in
    rw (
      at,
      set_comm buffer start (start + 1) tens ones (λ same. omega arith),
      drop-pair buffer start (start + 1) tens ones refl (omega (arith, whole, room)),
      whole,
      two,
      is_tens,
      is_ones,
    ) refl

positive_power : (count : ℕ) → 0 < 10 ^ count
positive_power count = one-le-pow count 10 (omega arith)

-- if texts grow by a last digit where `high` holds, a text ends in its last `count` digits
cut : (text : ℕ → ℕ → List ℕ) (high : ℕ → ℕ → Type 0)
    → ((count n : ℕ) → high (suc count) n → (text (suc count) n ≡ text count (n / 10) ++ (decimal_byte (n % 10) ∷ [])) × high count (n / 10)) →
    (count n : ℕ) → high count n → text count n ≡ text 0 (n / 10 ^ count) ++ last_digits count (n % 10 ^ count)
unfolding last_digits
cut text high grows zero n h = rw (pow-zero, div-one, append-nil) refl
cut text high grows (suc count) n h =
    let step = grows count n h in
    let digits = mod-mul n {m = 10 ^ count} {c = 10} (positive_power count) (omega arith) in
    let quotient : n / 10 / 10 ^ count ≡ n / 10 ^ suc count = div-div-eq-div-mul n 10 (10 ^ count) ∙ ap (λ power. n / power) (sym (pow-succ' 10 count)) in
    let middle : n % 10 ^ suc count / 10 ≡ n / 10 % 10 ^ count = rw pow-suc (omega (arith, digits)) in
    let last : n % 10 ^ suc count % 10 ≡ n % 10 = rw pow-suc (omega (arith, digits)) in
    step.0 ∙ rw (← quotient, middle, last, cut text high grows count (n / 10) step.1)
    (append_assoc (text 0 (n / 10 / 10 ^ count)) (last_digits count (n / 10 % 10 ^ count)) (decimal_byte (n % 10) ∷ []))

-- the last digits of a number end in fewer last digits
last_digits-split : (front count n : ℕ) → last_digits (front + count) n ≡ last_digits front (n / 10 ^ count) ++ last_digits count (n % 10 ^ count)
unfolding last_digits
last_digits-split front count n =
    let none : front + 0 ≡ front = omega arith in
    cut (λ c m. last_digits (front + c) m) (λ c m. Unit {0})
    (λ c m h. (ap (λ k. last_digits k m) {x = front + suc c} {y = suc (front + c)} (omega arith), h)) count n tt ∙ rw none refl

-- a decimal text ends in its last digits
pub decimal-cut : (count n : ℕ) → 10 ^ count ≤ n → decimal (pos n) ≡ decimal (pos (n / 10 ^ count)) ++ last_digits count (n % 10 ^ count)
decimal-cut =
    cut (λ c m. decimal (pos m)) (λ c m. 10 ^ c ≤ m)
    (λ c m h. (text-step decimal-in_base m (omega (arith, pow-suc 10 c, positive_power c)), le-div (10 ^ c) m 10 (omega arith) (omega (arith, pow-suc 10 c))))

-- without its last `count` digits a decimal text is shorter by `count`
pub length-cut : (count n : ℕ) → 10 ^ count ≤ n → length (decimal (pos n)) ≡ length (decimal (pos (n / 10 ^ count))) + count
length-cut count n high =
    omega (
      arith,
      ap length (decimal-cut count n high),
      length-append (decimal (pos (n / 10 ^ count))) (last_digits count (n % 10 ^ count)),
      length-last_digits count (n % 10 ^ count),
    )

-- a turn writes the last two digits of `left`, and leaves the others, those of `rest`, to be written before them
pub last_digits-turn : (count left rest start end : ℕ) (old new : List ℕ) → rest ≡ left / 10 ^ 2 → end ≡ start + 2
    → drop start new ≡ last_digits 2 (left % 10 ^ 2) ++ drop (start + 2) old →
    last_digits count rest ++ drop start new ≡ last_digits (count + 2) left ++ drop end old
last_digits-turn count left rest start end old new others next placed =
    rw (placed, next, others, last_digits-split count 2 left)
    (sym (append_assoc (last_digits count (left / 10 ^ 2)) (last_digits 2 (left % 10 ^ 2)) (drop (start + 2) old)))

-- the last digits are written in two halves, the second first
pub last_digits-halves : (half n start : ℕ) (buffer mid new : List ℕ)
    → drop (start + half) mid ≡ last_digits half (n % 10 ^ half) ++ drop (start + half + half) buffer →
    drop start new ≡ last_digits half (n / 10 ^ half) ++ drop (start + half) mid
    → drop start new ≡ last_digits (half + half) n ++ drop (start + (half + half)) buffer
last_digits-halves half n start buffer mid new second first =
    let end : start + half + half ≡ start + (half + half) = omega arith in
    rw (first, second, end, last_digits-split half half n)
    (sym (append_assoc (last_digits half (n / 10 ^ half)) (last_digits half (n % 10 ^ half)) (drop (start + (half + half)) buffer)))

-- the invariant of a loop that writes `count` last digits a turn: there is room for those that are left
pub record IsCutFrom (count n left start : ℕ) (buffer : List ℕ) : Type 0 where
  pub fits : length (decimal (pos n)) ≤ length buffer
  pub written : IsWrittenFrom (λ m. decimal (pos m)) n left start buffer
  pub left_fits : length (decimal (pos left)) ≤ start
  pub room : 10 ^ count ≤ left → count < start

-- there is room because of the lengths of the texts
cut_from : (count n left start : ℕ) (buffer : List ℕ) → length (decimal (pos n)) ≤ length buffer
    → IsWrittenFrom (λ m. decimal (pos m)) n left start buffer → IsCutFrom count n left start buffer
cut_from count n left start buffer fits written =
    let digits = ap length written.joined in
    let whole = length-append (decimal (pos left)) (drop start buffer) in
    let another = decimal_nonempty (left / 10 ^ count) in
    record {
      fits = fits;
      written = written;
      left_fits = omega (arith, written.within, digits, whole, length-drop start buffer);
      room =
          λ high. omega (arith, written.within, digits, whole, length-drop start buffer, length-cut count left high, another);
    }

-- the invariant holds before the first turn
pub IsCutFrom-none : (count n : ℕ) (buffer : List ℕ) → length (decimal (pos n)) ≤ length buffer → IsCutFrom count n n (length buffer) buffer
IsCutFrom-none count n buffer fits =
    cut_from count n n (length buffer) buffer fits record { within = omega arith; joined = rw (drop-length buffer, append-nil) refl }

-- a turn keeps the invariant
pub IsCutFrom-more : {count n left start : ℕ} {buffer : List ℕ} (new : List ℕ) → IsCutFrom count n left start buffer → 10 ^ count ≤ left
    → length new ≡ length buffer →
    drop (start - count) new ≡ last_digits count (left % 10 ^ count) ++ drop (start - count + count) buffer
    → IsCutFrom count n (left / 10 ^ count) (start - count) new
IsCutFrom-more {count} {n} {left} {start} {buffer} new kept high same_length placed =
    let next : start - count + count ≡ start = omega (arith, kept.room high) in
    cut_from count n (left / 10 ^ count) (start - count) new (omega (arith, kept.fits)) record {
      within = omega (arith, kept.written.within);
      joined = rw (
        placed,
        next,
        ← append_assoc (decimal (pos (left / 10 ^ count))) (last_digits count (left % 10 ^ count))
            (drop start buffer),
        ← decimal-cut count left high,
      ) kept.written.joined;
    }
