-- Fronts of an input that are texts, as those of a text in quotation marks are.
use Rattle.std.proofs.Common.{◌≡◌, inl, inr, sym, ap, ◌∙◌, ℕ, ◌+◌, ◌<◌, ◌≤◌, List, ◌++◌, length, take, drop, length-append, arith}
use Rattle.std.specs.Str.{IsUtf8}
use Rattle.std.proofs.lemmas.Bool.{cases_lt}
use Rattle.std.proofs.lemmas.List.{take-append-drop, take-append-le}
use Rattle.ufmt_c.specs.Private.Front.{IsTextAtFront}

module _ (input front : List ℕ) (h : IsTextAtFront input front) where
  pub length_front : length input ≡ length front + length h.after
  length_front = ap length h.is ∙ length-append front h.after

  -- a front of the longest text is one of the input
  pub same_front : (n : ℕ) → n ≤ length front → take n input ≡ take n front
  same_front n within = ap (take n) h.is ∙ take-append-le n front h.after within

  module _ (IsFront : List ℕ → Type 0) (utf8 : (t : List ℕ) → IsFront t → IsUtf8 t) where
    -- such a front is within that text
    pub within_text : (n : ℕ) → n ≤ length input → IsFront (take n input) → n ≤ length front
    within_text n within is = elim (cases_lt (length front) n) [
      | inl more ↦ absurd (h.longest n more within (utf8 (take n input) is))
      | inr few ↦ few
    ]

    -- the text is that front, and more
    pub parts : (n : ℕ) → n ≤ length input → IsFront (take n input) → front ≡ take n input ++ drop n front
    parts n within is =
        let same = ap (take n) h.is ∙ take-append-le n front h.after (within_text n within is) in
        sym (ap (λ t. t ++ drop n front) same ∙ take-append-drop n front)
