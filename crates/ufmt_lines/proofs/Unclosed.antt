-- A text without a closing bracket has no value: it stays.
use Rattle.std.proofs.Common.{◌≡◌, inl, inr, ◌∙◌, refl, ap, sym, ℕ, zero, suc, ◌+◌, ◌-◌, ◌≤◌, nat_lt, Bool, true, false, cond, List, ◌++◌, None, drop, length, arith}
use Rattle.std.proofs.lemmas.List.{drop-drop, take-append-drop}
use Rattle.ufmt_values.specs.Unclosed.{HasNoMore, IsUnclosed}
use Rattle.ufmt_lines.specs.Values.{bytes_between, convert_from, convert_value}
use Rattle.ufmt_values.specs.Values.{before_bracket, value_from, value_start}
use Rattle.ufmt_lines.specs.declared.run.conversion.Conversion.{Conversion}
use Rattle.ufmt_lines.proofs.Conversions.{all_converted}
use Rattle.ufmt_values.proofs.Unclosed.{further_unclosed, no_value, start_low}

module _ (conversion : Conversion) (text : List ℕ) where
  -- the bytes up to a bracket, and then the rest
  cut_again : (at b : ℕ) → at ≤ b → bytes_between text at (b + 1) ++ drop (b + 1) text ≡ drop at text
  cut_again at b order =
      let same : at + ((b + 1) - at) ≡ b + 1 = omega (arith, order) in
      ap (λ t. bytes_between text at (b + 1) ++ t) (sym (drop-drop ((b + 1) - at) at text ∙ ap (λ i. drop i text) same)) ∙ take-append-drop ((b + 1) - at) (drop at text)

  bracket_stays : (next : ℕ → List ℕ) (at b start : ℕ) → at ≤ b → (less : Bool) → value_from conversion.to (drop start text) ≡ None → next (b + 1) ≡ drop (b + 1) text
      → cond less (convert_value conversion next text at b start (value_from conversion.to (drop start text))) (drop at text) ≡ drop at text
  bracket_stays next at b start order false none rest = refl
  bracket_stays next at b start order true none rest =
      ap (convert_value conversion next text at b start) none ∙ ap (λ t. bytes_between text at (b + 1) ++ t) rest ∙ cut_again at b order

  unclosed_stays : (n at : ℕ) → IsUnclosed (drop at text) → convert_from conversion n text at ≡ drop at text
  unfolding convert_from
  unclosed_stays zero at none = refl
  unclosed_stays (suc n) at none =
      let b = at + before_bracket (drop at text) in
      let order : at ≤ b = omega arith in
      let start = value_start conversion.to text at b in
      bracket_stays (convert_from conversion n text) at b start order (nat_lt b (length text))
      (no_value conversion.to (drop start text) (further_unclosed text at start (start_low conversion.to text at b order) none))
      (unclosed_stays n (b + 1) (further_unclosed text at (b + 1) (omega arith) none))

  -- the same, if all is converted before
  unclosed_converted : (n at : ℕ) → IsUnclosed (drop at text) → (whole old new : List ℕ) → whole ≡ old ++ convert_from conversion n text at → new ≡ old ++ drop at text → new ≡ whole
  unclosed_converted n at none whole old new before last = last ∙ ap (λ t. old ++ t) (sym (unclosed_stays n at none)) ∙ sym before

  pub rest_converted : (n at : ℕ) → HasNoMore text at → (whole old new : List ℕ) → whole ≡ old ++ convert_from conversion n text at → new ≡ old ++ drop at text → new ≡ whole
  rest_converted n at (inl none) whole old new before last = all_converted conversion text at n none whole old new before last
  rest_converted n at (inr none) whole old new before last = unclosed_converted n at none whole old new before last
