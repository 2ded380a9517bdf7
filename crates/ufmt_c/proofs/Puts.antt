-- Bytes that are put to the front of a buffer, one piece after another, and what of them is there.
use Rattle.std.proofs.Common.{◌≡◌, ◌⊎◌, inl, inr, ◌≤◌, ◌<◌, refl, sym, ap, ◌∙◌, ℕ, ◌+◌, ◌-◌, ◌^◌, List, [], ◌++◌, length, take, drop, length-append, ℤ, pos, arith}
use Rattle.std.proofs.Math.Nat.{min-eq_left, min-eq_right}
use Rattle.std.proofs.Math.Seq.{take-append-add}
use Rattle.std.proofs.lemmas.Bool.{cases_lt}
use Rattle.std.proofs.lemmas.List.{drop-drop, take_all}
use Rattle.ufmt_c.specs.Calls.{HasPut, PutsText, full, reported}

-- a small number is reported as it is
pub as_reported : (n m : ℕ) → n ≡ m → n < 2 ^ 64 → n ≡ reported m
as_reported n m is small = is ∙ sym (min-eq_right (omega (arith, is, small)))

-- a small number that is reported is the number
pub reported_is : (n m : ℕ) → n ≡ reported m → n < 2 ^ 63 → n ≡ m
reported_is n m is small = elim (cases_lt m (2 ^ 64 - 1)) [
  | inl low ↦ is ∙ min-eq_right (omega arith)
  | inr high ↦ absurd (omega (arith, is ∙ min-eq_left high, small))
]

-- nothing is put at first
pub put_nothing : (old : List ℕ) → HasPut old [] old
put_nothing old = record { same_length = refl; front = sym (take_all (length old) [] (omega arith)); after = refl }

module _ (old text new bytes : List ℕ) (h : HasPut old text new) where
  grown : length (text ++ bytes) ≡ length text + length bytes
  grown = length-append text bytes

  stays : (n : ℕ) → drop (length text + n) new ≡ drop (length text + n) old
  stays n = sym (drop-drop n (length text) new) ∙ ap (drop n) h.after ∙ drop-drop n (length text) old

  -- so many bytes are put after the text: all, or those up to the buffer's end
  module _ (count k : ℕ) (next : List ℕ) (is : count ≡ length text) (room : count + k ≤ length new) (within : k ≤ length bytes)
      (written : take (count + k) next ≡ take count new ++ take k bytes) (unwritten : drop (count + k) next ≡ drop (count + k) new)
      (same_length : length next ≡ length new) where
    in_front : take (length text + k) next ≡ take (length text + k) (text ++ bytes)
    in_front =
        let room' : length text ≤ length old = omega (arith, is, room, h.same_length) in
        ap (λ n. take (n + k) next) (sym is) ∙ written ∙ ap (λ n. take n new ++ take k bytes) is
        ∙ ap (λ t. t ++ take k bytes) (h.front ∙ take_all (length old) text room') ∙ sym (take-append-add text bytes k)

    unwritten_text : drop (length text + k) next ≡ drop (length text + k) new
    unwritten_text = ap (λ n. drop (n + k) next) (sym is) ∙ unwritten ∙ ap (λ n. drop (n + k) new) is

    past : drop (length text + length bytes) next ≡ drop (length text + length bytes) old
    past =
        let left : length text + length bytes ≡ (length text + k) + (length bytes - k) = omega (arith, within) in
        rw left (sym (drop-drop (length bytes - k) (length text + k) next) ∙ ap (drop (length bytes - k)) (unwritten_text ∙ stays k)
        ∙ drop-drop (length bytes - k) (length text + k) old)

    pub put_some : (k ≡ length bytes) ⊎ (count + k ≡ length new) → HasPut old (text ++ bytes) next
    put_some which = record { same_length = same_length ∙ h.same_length; front = rw grown (front which); after = rw grown past }
      where
        front : (k ≡ length bytes) ⊎ (count + k ≡ length new) → take (length text + length bytes) next ≡ take (length old) (text ++ bytes)
        front (inl all) =
            ap (λ n. take (length text + n) next) (sym all) ∙ in_front ∙ take_all (length text + k) (text ++ bytes) (omega (arith, grown, all))
            ∙ sym (take_all (length old) (text ++ bytes) (omega (arith, grown, all, is, room, h.same_length)))
        front (inr full) =
            take_all (length text + length bytes) next (omega (arith, is, within, full, same_length)) ∙ sym (take_all (length text + k) next (omega (arith, is, full, same_length)))
            ∙ in_front ∙ ap (λ n. take n (text ++ bytes)) (ap (λ n. n + k) (sym is) ∙ full ∙ h.same_length)

-- what is reported of a text that was put
module _ (old text new : List ℕ) (put : HasPut old text new) where
  -- it fits
  pub put_whole : (result : ℤ) → result ≡ pos (length text) → (n : ℕ) → n ≡ reported (length text) → length text ≤ length old → PutsText old text result new n
  put_whole result is n counted room = record {
    same_length = put.same_length;
    reports = counted;
    fits = λ _. (is, put.front ∙ take_all (length old) text room, put.after);
    cut = λ longer. absurd (omega (arith, room, longer));
  }

  -- it doesn't
  pub put_cut : (n : ℕ) → n ≡ reported (length text) → length old < length text → PutsText old text full new n
  put_cut n counted longer = record {
    same_length = put.same_length;
    reports = counted;
    fits = λ room. absurd (omega (arith, room, longer));
    cut = λ _. (refl, sym (take_all (length text) new (omega (arith, put.same_length, longer))) ∙ put.front);
  }
