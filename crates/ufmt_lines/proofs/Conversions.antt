-- What a text is converted to, from one bracket to the next.
use Rattle.std.proofs.Common.{◌≡◌, ◌∙◌, refl, ap, sym, subst, ℕ, zero, suc, List, ◌++◌, append_assoc, ◌+◌, ◌-◌, ◌<◌, ◌≤◌, nat_lt, true, false, cond, Some, None, drop, length, length-drop, arith}
use Rattle.std.proofs.lemmas.Bool.Decides.{nat_tests}
use Rattle.ufmt.specs.Document.{Document}
use Rattle.ufmt.specs.Layout.{layout, setting}
use Rattle.ufmt_lines.proofs.FoundValues.{same_text}
use Rattle.ufmt_lines.specs.Values.{bytes_between, convert_bracket, convert_from, convert_value, stays, value_text}
use Rattle.ufmt_values.specs.Values.{before_bracket, value_from, value_start}
use Rattle.ufmt_lines.specs.declared.run.conversion.Conversion.{Conversion}

module _ (conversion : Conversion) (text : List ℕ) (at : ℕ) where
  module _ (n bracket : ℕ) (next : bracket ≡ at + before_bracket (drop at text)) (within : bracket < length text) where
    -- the next bracket decides
    at_bracket : convert_from conversion (suc n) text at
        ≡ convert_value conversion (convert_from conversion n text) text at bracket (value_start conversion.to text at bracket) (value_from conversion.to (drop (value_start conversion.to text at bracket) text))
    unfolding convert_from
    at_bracket =
        let less : nat_lt bracket (length text) ≡ true = grind (arith, nat_tests) in
        ap (convert_bracket conversion (convert_from conversion n text) text at) (sym next)
        ∙ ap (λ b. cond b (convert_value conversion (convert_from conversion n text) text at bracket (value_start conversion.to text at bracket)
        (value_from conversion.to (drop (value_start conversion.to text at bracket) text))) (drop at text)) less

    -- a bracket of no value stays
    pub bracket_stays : (start : ℕ) → start ≡ value_start conversion.to text at bracket → value_from conversion.to (drop start text) ≡ None → (old new : List ℕ)
        → new ≡ old ++ bytes_between text at (bracket + 1) → old ++ convert_from conversion (suc n) text at ≡ new ++ convert_from conversion n text (bracket + 1)
    bracket_stays start is none old new grows =
        let there : value_from conversion.to (drop (value_start conversion.to text at bracket) text) ≡ None = subst (λ k. value_from conversion.to (drop k text) ≡ None) is none in
        ap (λ t. old ++ t) (at_bracket ∙ ap (convert_value conversion (convert_from conversion n text) text at bracket (value_start conversion.to text at bracket)) there)
        ∙ sym (append_assoc old (bytes_between text at (bracket + 1)) (convert_from conversion n text (bracket + 1)))
        ∙ ap (λ t. t ++ convert_from conversion n text (bracket + 1)) (sym grows)

    -- a value stays, or its other text comes in its place
    pub value_ends : (start size : ℕ) (d : Document) → start ≡ value_start conversion.to text at bracket → size ≤ length (drop start text) → start ≤ length text
        → value_from conversion.to (drop start text) ≡ Some (d, drop size (drop start text)) → (old mid new : List ℕ)
        → mid ≡ old ++ bytes_between text at start
        → new ≡ mid ++ value_text (stays conversion text at bracket d size) conversion.to (bytes_between text start (start + size)) d
        → old ++ convert_from conversion (suc n) text at ≡ new ++ convert_from conversion n text (start + size)
    value_ends start size d is fits inside some old mid new before value =
        let there : value_from conversion.to (drop (value_start conversion.to text at bracket) text) ≡ Some (d, drop size (drop start text)) = subst (λ k. value_from conversion.to (drop k text) ≡ Some (d, drop size (drop start text))) is some in
        let from_start = length-drop start text in
        let left = length-drop size (drop start text) in
        let end : length text - length (drop size (drop start text)) ≡ start + size = omega (arith, fits, inside, from_start, left) in
        let fewer : (start + size) - start ≡ size = omega arith in
        let rest = convert_from conversion n text (start + size) in
        let text_of : ℕ → List ℕ = λ k. value_text (stays conversion text at bracket d k) conversion.to (bytes_between text start (start + size)) d in
        let whole : convert_from conversion (suc n) text at ≡ bytes_between text at start ++ (text_of size ++ rest) =
        at_bracket ∙ ap (convert_value conversion (convert_from conversion n text) text at bracket (value_start conversion.to text at bracket)) there
        ∙ ap (λ k. bytes_between text at k ++ (value_text (stays conversion text at bracket d ((length text - length (drop size (drop start text))) - k)) conversion.to
        (bytes_between text k (length text - length (drop size (drop start text)))) d ++ convert_from conversion n text (length text - length (drop size (drop start text))))) (sym is)
        ∙ ap (λ e. bytes_between text at start ++ (value_text (stays conversion text at bracket d (e - start)) conversion.to (bytes_between text start e) d ++ convert_from conversion n text e)) end
        ∙ ap (λ k. bytes_between text at start ++ (text_of k ++ rest)) fewer in
        ap (λ t. old ++ t) whole
        ∙ sym (append_assoc old (bytes_between text at start) (text_of size ++ rest))
        ∙ ap (λ t. t ++ (text_of size ++ rest)) (sym before)
        ∙ sym (append_assoc mid (text_of size) rest)
        ∙ ap (λ t. t ++ rest) (sym value)

    module _ (start size : ℕ) (d : Document) (is : start ≡ value_start conversion.to text at bracket) (fits : size ≤ length (drop start text)) (inside : start ≤ length text)
        (some : value_from conversion.to (drop start text) ≡ Some (d, drop size (drop start text))) (old mid new : List ℕ) (before : mid ≡ old ++ bytes_between text at start) where
      pub value_kept : stays conversion text at bracket d size ≡ true → new ≡ mid ++ bytes_between text start (start + size)
          → old ++ convert_from conversion (suc n) text at ≡ new ++ convert_from conversion n text (start + size)
      value_kept kept value = value_ends start size d is fits inside some old mid new before
          (value ∙ ap (λ b. mid ++ value_text b conversion.to (bytes_between text start (start + size)) d) (sym kept))

      pub value_changed : stays conversion text at bracket d size ≡ false → (other : List ℕ) → Some other ≡ Some (layout (setting conversion.to 0) d) → new ≡ mid ++ other
          → old ++ convert_from conversion (suc n) text at ≡ new ++ convert_from conversion n text (start + size)
      value_changed changed other same value = value_ends start size d is fits inside some old mid new before
          (value ∙ ap (λ t. mid ++ t) (same_text other (layout (setting conversion.to 0) d) same)
          ∙ ap (λ b. mid ++ value_text b conversion.to (bytes_between text start (start + size)) d) (sym changed))

  -- without a bracket the rest stays
  pub rest_stays : (n : ℕ) → length text ≤ at + before_bracket (drop at text) → convert_from conversion n text at ≡ drop at text
  unfolding convert_from
  rest_stays zero none = refl
  rest_stays (suc n) none =
      let b = at + before_bracket (drop at text) in
      let more : nat_lt b (length text) ≡ false = grind (arith, nat_tests) in
      ap (λ t. cond t (convert_value conversion (convert_from conversion n text) text at b (value_start conversion.to text at b)
      (value_from conversion.to (drop (value_start conversion.to text at b) text))) (drop at text)) more

  -- the same, if all is converted before
  pub all_converted : (n : ℕ) → length text ≤ at + before_bracket (drop at text) → (whole old new : List ℕ) → whole ≡ old ++ convert_from conversion n text at → new ≡ old ++ drop at text
      → new ≡ whole
  all_converted n none whole old new before last = last ∙ ap (λ t. old ++ t) (sym (rest_stays n none)) ∙ sym before

  -- one bracket less is left
  pub converted_further : (end : ℕ) (whole old mid : List ℕ) → at < length text → at < end → (n : ℕ) × (length text - at ≤ n) × (whole ≡ old ++ convert_from conversion n text at)
      → ((n : ℕ) → old ++ convert_from conversion (suc n) text at ≡ mid ++ convert_from conversion n text end)
      → (n : ℕ) × (length text - end ≤ n) × (whole ≡ mid ++ convert_from conversion n text end)
  converted_further end whole old mid within more (zero, room, is) step = absurd (omega (arith, room, within))
  converted_further end whole old mid within more (suc n, room, is) step = (n, omega (arith, room, more), is ∙ step n)
