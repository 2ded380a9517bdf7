-- What a text is converted to, from its first bracket on: with nothing known of the bytes before the text.
use Rattle.std.proofs.Common.{◌≡◌, inl, inr, ◌∙◌, refl, ap, sym, subst, ℕ, zero, suc, ◌+◌, ◌-◌, ◌<◌, ◌≤◌, true, List, [], ◌∷◌, ◌++◌, append_assoc, Option, Some, None, drop, take, length, length-append, length-drop, arith}
use Rattle.std.proofs.Math.Seq.{drop-append_seam, take-append-add, take-append_seam}
use Rattle.std.proofs.lemmas.List.{drop-append-le, length-take-le, take-append-drop, take-append-le}
use Rattle.ufmt.specs.Document.{Document}
use Rattle.ufmt.specs.Layout.{layout, setting}
use Rattle.ufmt.specs.Leaves.{is_opening}
use Rattle.ufmt_grammar.proofs.ReadingSound.{Found, read_sound}
use Rattle.ufmt_grammar.proofs.ReadingTurns.{read_takes}
use Rattle.ufmt_grammar.specs.declared.class.Class.TheVariants.{Debug}
use Rattle.ufmt_lines.proofs.Conversions.{bracket_stays, rest_stays, value_ends}
use Rattle.ufmt_values.proofs.FirstBrackets.{Without, before_first, before_none, first_bracket}
use Rattle.ufmt_values.proofs.FoundValues.{value_read}
use Rattle.ufmt_lines.proofs.Rests.{rest_converted}
use Rattle.ufmt_lines.proofs.ValueStarts.{from_bracket, start_after, start_is, start_within}
use Rattle.ufmt_lines.specs.Values.{bytes_between, convert_from, stays, value_text}
use Rattle.ufmt_values.specs.Values.{before_bracket, is_in_struct, value_from}
use Rattle.ufmt_lines.specs.declared.run.conversion.Conversion.{Conversion}
use Rattle.ufmt_scan.specs.Texts.{other_mode}

module _ (conversion : Conversion) where
  -- the whole text, with at most so many brackets
  abbrev pub convert : ℕ → List ℕ → List ℕ
  convert n text = convert_from conversion n text 0

  -- the text of a value in the mode that isn't written
  abbrev pub given_text : Document → List ℕ
  given_text d = layout (setting (other_mode conversion.to) 0) d

  -- a text without a bracket stays
  pub no_bracket : (n : ℕ) (text : List ℕ) → Without is_opening text → convert n text ≡ text
  no_bracket n text none =
      let place = before_none text none in
      rest_stays conversion text 0 n (omega (arith, place))

  -- what follows a front is converted as if nothing were before it
  after_front : (front r : List ℕ) (n end : ℕ) → end ≡ length front → convert_from conversion n (front ++ r) end ≡ convert n r
  after_front front r n end is =
      let place : end ≡ length front + 0 = omega (arith, is) in
      ap (convert_from conversion n (front ++ r)) place ∙ rest_converted front r conversion n 0

  module _ (n : ℕ) (z : List ℕ) (k : ℕ) (r : List ℕ) (none : Without is_opening z) (opens : is_opening k ≡ true) where
    abbrev text : List ℕ
    text = z ++ k ∷ r

    abbrev start : ℕ
    start = start_after k z (is_in_struct conversion.to r)

    abbrev from_start : List ℕ
    from_start = from_bracket conversion.to z k r

    -- a value would begin with the same bytes in the whole text
    from_is : drop start text ≡ from_start
    from_is = drop-append-le start z (k ∷ r) (start_within k z (is_in_struct conversion.to r))

    text_long : length text ≡ length z + suc (length r)
    text_long = length-append z (k ∷ r)

    -- if no value begins there, the bracket stays
    pub no_value : value_from conversion.to (from_bracket conversion.to z k r) ≡ None → convert (suc n) (z ++ k ∷ r) ≡ z ++ k ∷ convert n r
    no_value is =
        let long = text_long in
        let before = before_first z k r none opens in
        let place : length z ≡ 0 + before_bracket (z ++ k ∷ r) = omega (arith, before) in
        let cut : (z ++ k ∷ []) ++ r ≡ text = append_assoc z (k ∷ []) r in
        let there : value_from conversion.to (drop start text) ≡ None = ap (value_from conversion.to) from_is ∙ is in
        let all : (length z + 1) - 0 ≡ length z + 1 = omega arith in
        let front : bytes_between text 0 (length z + 1) ≡ z ++ k ∷ [] = ap (λ m. take m text) all ∙ take-append-add z (k ∷ r) 1 in
        bracket_stays conversion text 0 n (length z) place (omega (arith, long)) start (sym (start_is conversion.to z k r)) there [] (bytes_between text 0 (length z + 1)) refl
        ∙ ap (λ t. t ++ convert_from conversion n text (length z + 1)) front
        ∙ ap (λ t. (z ++ k ∷ []) ++ convert_from conversion n t (length z + 1)) (sym cut)
        ∙ ap (λ t. (z ++ k ∷ []) ++ t) (after_front (z ++ k ∷ []) r n (length z + 1) (sym (length-append z (k ∷ []))))
        ∙ append_assoc z (k ∷ []) (convert n r)

    -- if one does
    module _ (d : Document) (rest : List ℕ) (is : value_from conversion.to (from_bracket conversion.to z k r) ≡ Some (d, rest)) where
      abbrev y : List ℕ
      y = take start z

      abbrev v : List ℕ
      v = given_text d

      -- what was read is a document of the class
      pub found_there : Found Debug (setting (other_mode conversion.to) 0) 255 (from_bracket conversion.to z k r) d rest
      found_there = read_sound Debug 255 (setting (other_mode conversion.to) 0) from_start d rest (value_read conversion.to from_start d rest is)

      -- the text is what is before it, its text and the rest
      pub value_whole : z ++ k ∷ r ≡ take (start_after k z (is_in_struct conversion.to r)) z ++ (given_text d ++ rest)
      value_whole =
          ap (λ t. t ++ k ∷ r) (sym (take-append-drop start z)) ∙ append_assoc y (drop start z) (k ∷ r) ∙ ap (λ t. y ++ t) found_there.whole

      -- the value stays, or its other text comes in its place
      pub value_step : convert (suc n) (z ++ k ∷ r) ≡ take (start_after k z (is_in_struct conversion.to r)) z ++ (value_text (stays conversion (z ++ k ∷ r) 0 (length z) d (length (given_text d))) conversion.to (given_text d) d ++ convert n rest)
      value_step =
          let long = text_long in
          let before = before_first z k r none opens in
          let place : length z ≡ 0 + before_bracket (z ++ k ∷ r) = omega (arith, before) in
          let within = start_within k z (is_in_struct conversion.to r) in
          let whole = found_there.whole in
          let from_long : length from_start ≡ length v + length rest = ap length whole ∙ length-append v rest in
          let size = length v in
          let left : drop size (drop start text) ≡ rest = ap (drop size) (from_is ∙ whole) ∙ drop-append_seam v rest in
          let fits : size ≤ length (drop start text) = subst (λ t. size ≤ length t) (sym from_is) (omega (arith, from_long)) in
          let some : value_from conversion.to (drop start text) ≡ Some (d, drop size (drop start text)) = ap (value_from conversion.to) from_is ∙ is ∙ ap (λ t. Some (d, t)) (sym left) in
          let front_long : length y ≡ start = length-take-le start z within in
          let all : start - 0 ≡ start = omega arith in
          let front : bytes_between text 0 start ≡ y = ap (λ m. take m text) all ∙ take-append-le start z (k ∷ r) within in
          let more : (start + size) - start ≡ size = omega arith in
          let middle : bytes_between text start (start + size) ≡ v = ap (λ m. take m (drop start text)) more ∙ ap (take size) (from_is ∙ whole) ∙ take-append_seam v rest in
          let s = stays conversion text 0 (length z) d size in
          let parts = length-append y v in
          value_ends conversion text 0 n (length z) place (omega (arith, long)) start size d (sym (start_is conversion.to z k r)) fits (omega (arith, long, within)) some
          [] (bytes_between text 0 start) (bytes_between text 0 start ++ value_text s conversion.to (bytes_between text start (start + size)) d) refl refl
          ∙ ap (λ t. (t ++ value_text s conversion.to (bytes_between text start (start + size)) d) ++ convert_from conversion n text (start + size)) front
          ∙ ap (λ t. (y ++ value_text s conversion.to t d) ++ convert_from conversion n text (start + size)) middle
          ∙ ap (λ t. (y ++ value_text s conversion.to v d) ++ convert_from conversion n t (start + size)) (value_whole ∙ sym (append_assoc y v rest))
          ∙ ap (λ t. (y ++ value_text s conversion.to v d) ++ t) (after_front (y ++ v) rest n (start + size) (omega (arith, parts, front_long)))
          ∙ append_assoc y (value_text s conversion.to v d) (convert n rest)

  -- what is left after a value is shorter than the text
  pub value_shorter : (z : List ℕ) (k : ℕ) (r : List ℕ) (d : Document) (rest : List ℕ) → value_from conversion.to (from_bracket conversion.to z k r) ≡ Some (d, rest) → length rest < length (z ++ k ∷ r)
  value_shorter z k r d rest is =
      let s = start_after k z (is_in_struct conversion.to r) in
      let fewer = (read_takes Debug (setting (other_mode conversion.to) 0) 255).takes (from_bracket conversion.to z k r) d rest (value_read conversion.to (from_bracket conversion.to z k r) d rest is) in
      let short = length-append (drop s z) (k ∷ r) in
      let left = length-drop s z in
      let long = length-append z (k ∷ r) in
      omega (arith, fewer, short, left, long)

  -- so any two numbers of brackets that suffice give the same
  module _ (m n : ℕ) (z : List ℕ) (k : ℕ) (r : List ℕ) (none : Without is_opening z) (opens : is_opening k ≡ true)
      (more : (t : List ℕ) → length t < length (z ++ k ∷ r) → convert m t ≡ convert n t) where
    -- at a bracket, both numbers do the same
    enough_at : (o : Option (Document × List ℕ)) → value_from conversion.to (from_bracket conversion.to z k r) ≡ o → convert (suc m) (z ++ k ∷ r) ≡ convert (suc n) (z ++ k ∷ r)
    enough_at None is =
        let long = length-append z (k ∷ r) in
        no_value m z k r none opens is ∙ ap (λ t. z ++ k ∷ t) (more r (omega (arith, long))) ∙ sym (no_value n z k r none opens is)
    enough_at (Some x) is =
        value_step m z k r none opens x.0 x.1 is
        ∙ ap (λ t. take (start_after k z (is_in_struct conversion.to r)) z ++ (value_text (stays conversion (z ++ k ∷ r) 0 (length z) x.0 (length (given_text x.0))) conversion.to (given_text x.0) x.0 ++ t)) (more x.1 (value_shorter z k r x.0 x.1 is))
        ∙ sym (value_step n z k r none opens x.0 x.1 is)

  -- so do they on each text
  pub enough : (m n : ℕ) (text : List ℕ) → length text ≤ m → length text ≤ n → convert m text ≡ convert n text
  enough zero n [] first second = no_bracket zero [] tt ∙ sym (no_bracket n [] tt)
  enough zero n (c ∷ text) first second = absurd (omega (arith, first))
  enough (suc m) zero [] first second = no_bracket (suc m) [] tt ∙ sym (no_bracket zero [] tt)
  enough (suc m) zero (c ∷ text) first second = absurd (omega (arith, second))
  enough (suc m) (suc n) text first second = elim (first_bracket text) [
    | inl none ↦ no_bracket (suc m) text none ∙ sym (no_bracket (suc n) text none)
    | inr f ↦
        let size = ap length f.is in
        ap (convert (suc m)) f.is
        ∙ enough_at m n f.before f.bracket f.after f.none f.opens (λ t less. enough m n t (omega (arith, size, first, less)) (omega (arith, size, second, less))) _ refl
        ∙ ap (convert (suc n)) (sym f.is)
  ]
