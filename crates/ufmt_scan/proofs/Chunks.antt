-- A few bytes are compared with the front of a text as one word.
use Rattle.std.proofs.Common.{◌≡◌, ◌≢◌, sym, ap, ◌∙◌, ℕ, ◌<◌, ◌==◌, MatchBool, List, length, length-append, take, None, arith, inl, inr}
use Rattle.std.proofs.lemmas.Bool.{eq-eqb, eqb-true, true≢false, cases_Bool}
use Rattle.std.specs.Int.{Width, from_le_bytes, to_le_bytes}
use Rattle.std.proofs.Math.Seq.{take-append_seam}
use Rattle.ufmt_grammar.specs.Reading.{strip}
use Rattle.ufmt_grammar.proofs.Parsing.{strip_of_none}

module _ (n : ℕ) (word t : List ℕ) (size : length word ≡ n) where
  -- the word isn't there, if another one is the front
  pub other_chunk : (front : List ℕ) → front ≡ take n t → front ≢ word → None ≡ strip word t
  other_chunk front front_is differs =
      sym (strip_of_none word t (λ u same. differs (front_is ∙ ap (λ k. take k t) (sym size) ∙ ap (take (length word)) same ∙ take-append_seam word u)))

  -- nor is it in a text that is shorter
  pub short_text : length t < n → None ≡ strip word t
  short_text short = sym (strip_of_none word t (λ u same. omega (arith, size, short, ap length same, length-append word u)))

-- words are compared in place of their bytes, if the bytes can be told from the words
pub same_word : (w : Width) (xs ys : List ℕ) (j k : ℕ) → to_le_bytes w j ≡ xs → to_le_bytes w k ≡ ys → j ≡ from_le_bytes w xs → k ≡ from_le_bytes w ys → MatchBool (j == k) (xs ≡ ys) (xs ≢ ys)
same_word w xs ys j k back_x back_y j_is k_is = elim (cases_Bool (j == k)) [
  | inl e ↦ rw e (sym back_x ∙ ap (to_le_bytes w) (eqb-true j k e) ∙ back_y)
  | inr e ↦ rw e (λ same. true≢false (sym (eq-eqb j k (j_is ∙ ap (from_le_bytes w) same ∙ sym k_is)) ∙ e))
]
