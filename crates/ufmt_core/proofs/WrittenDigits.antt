-- Digits that are written from the last to the first, each before the others.
use Rattle.std.proofs.Common.{Bool, true, false, sym, ℤ, nat_abs, ◌≡◌, ◌≢◌, ℕ, ◌+◌, ◌-◌, ◌/◌, ◌%◌, ◌<◌, ◌≤◌, List, [], ◌∷◌, ◌++◌, length, drop, set, pos, ap, ◌∙◌, refl, arith, length-append, length-drop, length-set, append_assoc}
use Rattle.std.proofs.Math.Nat.{div-lt_iff_lt-mul, le-div_iff_mul-le, mod-eq_of_lt}
use Rattle.std.proofs.lemmas.List.{drop-set, drop-set-lt}
use Rattle.std.specs.Int.{from_bool, is_negative}
use Rattle.ufmt_core.specs.Decimal.{decimal}
use Rattle.ufmt_core.proofs.DecimalTexts.{decimal-negative, decimal-positive}
use Rattle.ufmt_core.proofs.NumeralTexts.{IsTextInBase, text-digit, text-step, text-nonempty}

-- the text of `left` and the bytes from `start` on are together the text of `n`
pub record IsWrittenFrom (text : ℕ → List ℕ) (n left start : ℕ) (buffer : List ℕ) : Type 0 where
  pub within : start ≤ length buffer
  pub joined : text left ++ drop start buffer ≡ text n

-- a byte is put before the written ones
pub put_before : (front buffer : List ℕ) (start byte : ℕ) → 0 < start → start ≤ length buffer
    → front ++ drop (start - 1) (set buffer (start - 1) byte) ≡ (front ++ byte ∷ []) ++ drop start buffer
put_before front buffer start byte room within =
    let next : start - 1 + 1 ≡ start = omega arith in
    rw (drop-set buffer (start - 1) byte (omega arith), next, append_assoc)

module _ {base : ℕ} {byte_of : ℕ → ℕ} {text : ℕ → List ℕ} (t : IsTextInBase base byte_of text) (n left start : ℕ) (buffer : List ℕ)
    (fits : length (text n) ≤ length buffer) (written : IsWrittenFrom text n left start buffer) where
  -- there is room for a digit
  pub digit_fits : 0 < start
  digit_fits = omega (
    arith,
    written.within,
    text-nonempty t left,
    ap length written.joined,
    length-append (text left) (drop start buffer),
    length-drop start buffer,
  )

  module _ (rest digit byte : ℕ) (is_rest : rest ≡ left / base) (is_digit : digit ≡ left % base) (is_byte : byte ≡ byte_of digit) where
    -- a step of the loop while digits are left
    pub IsWrittenFrom-more : rest ≢ 0 → IsWrittenFrom text n rest (start - 1) (set buffer (start - 1) byte)
    IsWrittenFrom-more more =
        let high : base ≤ left = omega (arith, (le-div_iff_mul-le {k = base} {x = 1} {y = left} (omega arith)).0 (omega arith)) in record {
          within = omega (arith, written.within, length-set buffer (start - 1) byte);
          joined = rw (put_before (text rest) buffer start byte digit_fits written.within, is_byte, is_rest, is_digit, ← text-step t left high) written.joined;
        }

    -- the last step of the loop
    pub IsWrittenFrom-all : rest ≡ 0 → drop (start - 1) (set buffer (start - 1) byte) ≡ text n
    IsWrittenFrom-all none =
        let low : left < base = omega (arith, (div-lt_iff_lt-mul {k = base} {x = left} {y = 1} (omega arith)).0 (omega arith)) in
        let same : digit ≡ left = is_digit ∙ mod-eq_of_lt low in
        put_before [] buffer start byte digit_fits written.within ∙ rw (is_byte, same) (rw (text-digit t left low) at written.joined)

-- the number's text begins here, after a sign was put before the digits of its magnitude
pub record IsSigned (z : ℤ) (start size : ℕ) (new : List ℕ) : Type 0 where
  pub starts : start + length (decimal z) ≡ size
  pub written : drop start new ≡ decimal z

module _ (z : ℤ) (magnitude start : ℕ) (buffer : List ℕ) (is_magnitude : magnitude ≡ nat_abs z) (room : length (decimal (pos magnitude)) < length buffer)
    (ends : start + length (decimal (pos magnitude)) ≡ length buffer) (digits : drop start buffer ≡ decimal (pos magnitude)) where
  pub put_sign : (negative : Bool) → negative ≡ is_negative z → IsSigned z (start - from_bool negative) (length buffer) (set buffer (start - 1) 45)
  put_sign true sign =
      let whole : decimal z ≡ 45 ∷ decimal (pos magnitude) = rw is_magnitude (decimal-negative z (sym sign)) in record {
        starts = omega (arith, ap length whole);
        written = put_before [] buffer start 45 (omega arith) (omega arith) ∙ rw (whole, digits) refl;
      }
  put_sign false sign =
      let whole : decimal z ≡ decimal (pos magnitude) = rw is_magnitude (decimal-positive z (sym sign)) in
      let none : start - 0 ≡ start = omega arith in record {
        starts = omega (arith, ap length whole);
        written = rw none (drop-set-lt start buffer (start - 1) 45 (omega arith) ∙ rw (whole, digits) refl);
      }
