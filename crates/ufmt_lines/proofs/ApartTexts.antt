-- What follows a byte of no name is converted as if nothing were before it; so is what follows a space, but for a brace.
use Rattle.std.proofs.Common.{◌≡◌, inl, inr, ◌∙◌, refl, ap, sym, ℕ, zero, suc, ◌+◌, ◌==◌, ◌||◌, Bool, true, false, List, [], ◌∷◌, ◌++◌, append_assoc, drop, take, length, length-append, arith}
use Rattle.std.proofs.Math.Seq.{drop-append-add, get_or-append_seam, take-append-add}
use Rattle.std.specs.Prelude.{nat_le}
use Rattle.ufmt.specs.Document.{Document}
use Rattle.ufmt.specs.Bytes.{opening_brace, space}
use Rattle.ufmt.specs.Leaves.{begins_with, is_name_byte, is_opening}
use Rattle.ufmt_lines.proofs.ConvertedSteps.{convert, given_text, no_bracket, no_value, value_step}
use Rattle.ufmt_values.proofs.FirstBrackets.{Without, first_bracket, without_append}
use Rattle.ufmt_lines.proofs.ValueStarts.{Apart, could_be_later, from_bracket, start_after, start_is, start_later}
use Rattle.ufmt_lines.specs.Values.{convert_from, if_pretty, stays, value_text}
use Rattle.ufmt_values.proofs.FoundValues.{cases_option}
use Rattle.ufmt_values.specs.Values.{is_in_struct, value_from, value_start}
use Rattle.ufmt_lines.specs.declared.run.conversion.Conversion.{Conversion}
use Rattle.ufmt_scan.specs.Fronts.{has_one_leaf}

module _ (conversion : Conversion) (y : List ℕ) (c : ℕ) (none : Without is_opening (y ++ c ∷ [])) (no_name : is_name_byte c ≡ false) where
  abbrev front : List ℕ
  front = y ++ c ∷ []

  module _ (z : List ℕ) (k : ℕ) (r : List ℕ) (before : Without is_opening z) (opens : is_opening k ≡ true)
      (spaced : (k == opening_brace) ≡ true → length z ≡ 0 → (c == space) ≡ false) where
    abbrev inside : Bool
    inside = is_in_struct conversion.to r

    -- a value begins as many bytes later as the front has
    start_apart : start_after k (front ++ z) inside ≡ length front + start_after k z inside
    start_apart =
        sym (start_is conversion.to (front ++ z) k r)
        ∙ ap (λ t. value_start conversion.to t 0 (length (front ++ z))) (append_assoc front z (k ∷ r))
        ∙ ap (value_start conversion.to (front ++ (z ++ k ∷ r)) 0) (length-append front z)
        ∙ start_later conversion.to y c (z ++ k ∷ r) (length z) no_name (λ brace. spaced (ap (λ b. b == opening_brace) (sym (get_or-append_seam z k r 0)) ∙ brace))
        ∙ ap (λ n. length front + n) (start_is conversion.to z k r)

    -- so the same text begins there
    same_from : from_bracket conversion.to (front ++ z) k r ≡ from_bracket conversion.to z k r
    same_from =
        ap (λ n. drop n (front ++ z) ++ k ∷ r) start_apart ∙ ap (λ t. t ++ k ∷ r) (drop-append-add front z (start_after k z inside))

    -- and a value stays if it would without the front
    same_stays : (d : Document) (size : ℕ) → stays conversion ((front ++ z) ++ k ∷ r) 0 (length (front ++ z)) d size ≡ stays conversion (z ++ k ∷ r) 0 (length z) d size
    same_stays d size = ap (λ b. if_pretty conversion.to (nat_le size conversion.longer_than || has_one_leaf d || b)) (could_be_later y c z k r no_name spaced)

    -- at a bracket, both are converted in the same way
    bracket_apart : (n : ℕ) → convert conversion (suc n) (front ++ (z ++ k ∷ r)) ≡ front ++ convert conversion (suc n) (z ++ k ∷ r)
    bracket_apart n = ap (convert conversion (suc n)) (sym (append_assoc front z (k ∷ r))) ∙ apart
      where
        longer : Without is_opening (front ++ z)
        longer = without_append is_opening front z none before

        apart : convert conversion (suc n) ((front ++ z) ++ k ∷ r) ≡ front ++ convert conversion (suc n) (z ++ k ∷ r)
        apart = elim (cases_option (value_from conversion.to (from_bracket conversion.to z k r))) [
          | inl is ↦
              no_value conversion n (front ++ z) k r longer opens (ap (value_from conversion.to) same_from ∙ is)
              ∙ append_assoc front z (k ∷ convert conversion n r)
              ∙ ap (λ t. front ++ t) (sym (no_value conversion n z k r before opens is))
          | inr (x, is) ↦
              let s = start_after k z inside in
              let v = given_text conversion x.0 in
              let after = value_text (stays conversion (z ++ k ∷ r) 0 (length z) x.0 (length v)) conversion.to v x.0 ++ convert conversion n x.1 in
              value_step conversion n (front ++ z) k r longer opens x.0 x.1 (ap (value_from conversion.to) same_from ∙ is)
              ∙ ap (λ b. take (start_after k (front ++ z) inside) (front ++ z) ++ (value_text b conversion.to v x.0 ++ convert conversion n x.1)) (same_stays x.0 (length v))
              ∙ ap (λ m. take m (front ++ z) ++ after) start_apart
              ∙ ap (λ t. t ++ after) (take-append-add front z s)
              ∙ append_assoc front (take s z) after
              ∙ ap (λ t. front ++ t) (sym (value_step conversion n z k r before opens x.0 x.1 is))
        ]

  brace_first : (z : List ℕ) (k : ℕ) (r : List ℕ) → (k == opening_brace) ≡ true → length z ≡ 0 → begins_with opening_brace (z ++ k ∷ r) ≡ true
  brace_first [] k r brace empty = brace
  brace_first (b ∷ z) k r brace empty = absurd (omega (arith, empty))

  -- what follows is converted as if nothing were before it
  pub converted_after : (n : ℕ) (text : List ℕ) → (begins_with opening_brace text ≡ true → (c == space) ≡ false)
      → convert conversion n ((y ++ c ∷ []) ++ text) ≡ (y ++ c ∷ []) ++ convert conversion n text
  unfolding convert_from
  converted_after zero text spaced = refl
  converted_after (suc n) text spaced = elim (first_bracket text) [
    | inl without ↦
        no_bracket conversion (suc n) (front ++ text) (without_append is_opening front text none without)
        ∙ ap (λ t. front ++ t) (sym (no_bracket conversion (suc n) text without))
    | inr f ↦
        ap (λ t. convert conversion (suc n) (front ++ t)) f.is
        ∙ bracket_apart f.before f.bracket f.after f.none f.opens
        (λ brace empty. spaced (ap (begins_with opening_brace) f.is ∙ brace_first f.before f.bracket f.after brace empty)) n
        ∙ ap (λ t. front ++ convert conversion (suc n) t) (sym f.is)
  ]

-- a byte that is no space either
pub converted_apart : (conversion : Conversion) (y : List ℕ) (c : ℕ) → Without is_opening (y ++ c ∷ []) → Apart c → (n : ℕ) (text : List ℕ)
    → convert conversion n ((y ++ c ∷ []) ++ text) ≡ (y ++ c ∷ []) ++ convert conversion n text
converted_apart conversion y c none apart n text = converted_after conversion y c none apart.no_name n text (λ brace. apart.no_space)
