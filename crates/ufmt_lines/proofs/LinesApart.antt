-- A text is made pretty line by line.
use Rattle.std.proofs.Common.{◌≡◌, inl, inr, ◌∙◌, refl, ap, sym, subst, ℕ, zero, suc, ◌+◌, ◌<◌, ◌≤◌, ◌==◌, ◌&&◌, ◌||◌, true, List, [], ◌∷◌, ◌++◌, append_assoc, Option, Some, None, drop, take, length, length-append, arith}
use Rattle.std.proofs.lemmas.List.{drop-append-le}
use Rattle.std.specs.Prelude.{nat_le}
use Rattle.ufmt.specs.Bytes.{line_feed, opening_brace, space}
use Rattle.ufmt.specs.Document.{Document}
use Rattle.ufmt.specs.Layout.{layout, setting}
use Rattle.ufmt.specs.Leaves.{begins_with, is_opening}
use Rattle.ufmt_core.specs.declared.layout.Mode.TheVariants.{Plain, Pretty}
use Rattle.ufmt_lines.proofs.ApartTexts.{converted_apart}
use Rattle.ufmt_lines.proofs.ConvertedSteps.{convert, enough, found_there, no_bracket, no_value, value_shorter, value_step}
use Rattle.ufmt_values.proofs.FirstBrackets.{Without, first_bracket, without_after, without_append, without_drop}
use Rattle.ufmt_lines.proofs.ReadLines.{field_in_line, no_value_in_line, value_in_line}
use Rattle.ufmt_lines.proofs.ValueStarts.{Apart, could_be_is, from_bracket, start_after, start_within}
use Rattle.ufmt_lines.specs.OutputLaws.{pretty_with}
use Rattle.ufmt_lines.specs.Private.LineLen.{is_line_feed}
use Rattle.ufmt_lines.specs.Values.{if_pretty, output_of, stays, value_text}
use Rattle.ufmt_values.specs.Values.{is_after_name, is_in_struct, value_from}
use Rattle.ufmt_scan.specs.Fronts.{has_one_leaf}

line_feed_apart : Apart line_feed
line_feed_apart = record { no_name = refl; no_space = refl }

-- whether a space comes first doesn't depend on what follows a line feed
space_in_line : (r rest : List ℕ) → begins_with space (r ++ line_feed ∷ rest) ≡ begins_with space r
space_in_line [] rest = refl
space_in_line (c ∷ r) rest = refl

module _ (limit : ℕ) where
  -- a line is made pretty as if nothing were after its line feed, and what follows as if nothing were before
  abbrev AreApart : List ℕ → List ℕ → Type 0
  AreApart line rest = (m n p : ℕ) → length (line ++ line_feed ∷ rest) ≤ m → length line ≤ n → length rest ≤ p
      → convert (pretty_with limit) m (line ++ line_feed ∷ rest) ≡ convert (pretty_with limit) n line ++ line_feed ∷ convert (pretty_with limit) p rest

  module _ (z : List ℕ) (k : ℕ) (r rest : List ℕ) (none : Without is_opening z) (opens : is_opening k ≡ true) (in_line : Without is_line_feed (z ++ k ∷ r)) where
    abbrev start : ℕ
    start = start_after k z (is_in_struct Pretty r)

    abbrev more : List ℕ
    more = r ++ line_feed ∷ rest

    -- what begins before a bracket of the line does so before the line feed too
    from_more : from_bracket Pretty z k more ≡ from_bracket Pretty z k r ++ line_feed ∷ rest
    from_more =
        ap (λ b. drop (start_after k z b) z ++ k ∷ more) (space_in_line r rest)
        ∙ sym (append_assoc (drop start z) (k ∷ r) (line_feed ∷ rest))

    -- it has no line feed in the line
    from_in_line : Without is_line_feed (from_bracket Pretty z k r)
    from_in_line =
        subst (Without is_line_feed) (drop-append-le start z (k ∷ r) (start_within k z (is_in_struct Pretty r))) (without_drop is_line_feed start (z ++ k ∷ r) in_line)

    rest_in_line : Without is_line_feed r
    rest_in_line = (without_after is_line_feed z (k ∷ r) in_line).1

    -- a value of the line stays, or doesn't, whatever follows the line
    same_stays : (d : Document) (size : ℕ) → stays (pretty_with limit) (z ++ k ∷ more) 0 (length z) d size ≡ stays (pretty_with limit) (z ++ k ∷ r) 0 (length z) d size
    same_stays d size =
        ap (λ b. if_pretty Pretty (nat_le size limit || has_one_leaf d || b))
        (could_be_is z k more ∙ ap (λ b. (k == opening_brace) && is_after_name z 0 (length z) && b) (field_in_line r rest) ∙ sym (could_be_is z k r))

    module _ (m n p : ℕ) where
      -- at a bracket of the line, both are converted in the same way
      at_bracket : ((line : List ℕ) → length line < length (z ++ k ∷ r) → Without is_line_feed line → AreApart line rest) → length (z ++ k ∷ more) ≤ suc m → length (z ++ k ∷ r) ≤ suc n → length rest ≤ p
          → (o : Option (Document × List ℕ)) → value_from Pretty (from_bracket Pretty z k r) ≡ o
          → convert (pretty_with limit) (suc m) (z ++ k ∷ more) ≡ convert (pretty_with limit) (suc n) (z ++ k ∷ r) ++ line_feed ∷ convert (pretty_with limit) p rest
      at_bracket apart long short last None is =
          let long_parts = length-append z (k ∷ more) in
          let short_parts = length-append z (k ∷ r) in
          no_value (pretty_with limit) m z k more none opens (ap (value_from Pretty) from_more ∙ no_value_in_line (from_bracket Pretty z k r) rest is)
          ∙ ap (λ t. z ++ k ∷ t) (apart r (omega (arith, short_parts)) rest_in_line m n p (omega (arith, long, long_parts)) (omega (arith, short, short_parts)) last)
          ∙ sym (append_assoc z (k ∷ convert (pretty_with limit) n r) (line_feed ∷ convert (pretty_with limit) p rest))
          ∙ ap (λ t. t ++ line_feed ∷ convert (pretty_with limit) p rest) (sym (no_value (pretty_with limit) n z k r none opens is))
      at_bracket apart long short last (Some x) is =
          let v = layout (setting Plain 0) x.0 in
          let y = take start z in
          let s = stays (pretty_with limit) (z ++ k ∷ r) 0 (length z) x.0 (length v) in
          let there : value_from Pretty (from_bracket Pretty z k more) ≡ Some (x.0, x.1 ++ line_feed ∷ rest) = ap (value_from Pretty) from_more ∙ value_in_line (from_bracket Pretty z k r) rest x.0 x.1 is in
          let whole = (found_there (pretty_with limit) n z k r none opens x.0 x.1 is).whole in
          let left_in_line : Without is_line_feed x.1 = without_after is_line_feed v x.1 (subst (Without is_line_feed) whole from_in_line) in
          let long_parts = length-append z (k ∷ more) in
          let more_parts = length-append r (line_feed ∷ rest) in
          let short_parts = length-append z (k ∷ r) in
          let left_parts = length-append x.1 (line_feed ∷ rest) in
          let fewer = value_shorter (pretty_with limit) z k r x.0 x.1 is in
          value_step (pretty_with limit) m z k more none opens x.0 (x.1 ++ line_feed ∷ rest) there
          ∙ ap (λ b. take (start_after k z b) z ++ (value_text (stays (pretty_with limit) (z ++ k ∷ more) 0 (length z) x.0 (length v)) Pretty v x.0 ++ convert (pretty_with limit) m (x.1 ++ line_feed ∷ rest))) (space_in_line r rest)
          ∙ ap (λ b. y ++ (value_text b Pretty v x.0 ++ convert (pretty_with limit) m (x.1 ++ line_feed ∷ rest))) (same_stays x.0 (length v))
          ∙ ap (λ t. y ++ (value_text s Pretty v x.0 ++ t)) (apart x.1 fewer left_in_line m n p (omega (arith, long, long_parts, more_parts, left_parts, fewer)) (omega (arith, short, short_parts, fewer)) last)
          ∙ parts y (value_text s Pretty v x.0) (convert (pretty_with limit) n x.1) (line_feed ∷ convert (pretty_with limit) p rest)
          ∙ ap (λ t. t ++ line_feed ∷ convert (pretty_with limit) p rest) (sym (value_step (pretty_with limit) n z k r none opens x.0 x.1 is))
        where
          parts : (a b c e : List ℕ) → a ++ (b ++ (c ++ e)) ≡ (a ++ (b ++ c)) ++ e
          parts a b c e = simp append_assoc

  module _ (rest : List ℕ) where
    -- the recursion goes by how many bytes the line has at most
    abbrev AllApart : ℕ → Type 0
    AllApart most = (line : List ℕ) → length line ≤ most → Without is_line_feed line → AreApart line rest

    -- a line without a bracket
    without_bracket : (line : List ℕ) → Without is_opening line → AreApart line rest
    without_bracket line none = λ m n p long short last.
        let parts = length-append line (line_feed ∷ rest) in
        ap (convert (pretty_with limit) m) (sym (append_assoc line (line_feed ∷ []) rest))
        ∙ converted_apart (pretty_with limit) line line_feed (without_append is_opening line (line_feed ∷ []) none (refl, tt)) line_feed_apart m rest
        ∙ append_assoc line (line_feed ∷ []) (convert (pretty_with limit) m rest)
        ∙ ap (λ t. line ++ line_feed ∷ t) (enough (pretty_with limit) m p rest (omega (arith, long, parts)) last)
        ∙ ap (λ t. t ++ line_feed ∷ convert (pretty_with limit) p rest) (sym (no_bracket (pretty_with limit) n line none))

    -- a line with one
    with_bracket : (most : ℕ) → AllApart most → (z : List ℕ) (k : ℕ) (r : List ℕ) → Without is_opening z → is_opening k ≡ true → length (z ++ k ∷ r) ≤ suc most → Without is_line_feed (z ++ k ∷ r) → AreApart (z ++ k ∷ r) rest
    with_bracket most all z k r none opens within in_line zero n p long short last =
        let whole = length-append (z ++ k ∷ r) (line_feed ∷ rest) in
        absurd (omega (arith, whole, long))
    with_bracket most all z k r none opens within in_line (suc m) zero p long short last =
        let whole = length-append z (k ∷ r) in
        absurd (omega (arith, whole, short))
    with_bracket most all z k r none opens within in_line (suc m) (suc n) p long short last =
        let whole = length-append z (k ∷ r) in
        let cut = append_assoc z (k ∷ r) (line_feed ∷ rest) in
        ap (convert (pretty_with limit) (suc m)) cut
        ∙ at_bracket z k r rest none opens in_line m n p (λ line shorter without. all line (omega (arith, whole, within, shorter)) without) (subst (λ t. length t ≤ suc m) cut long) short last _ refl

    -- each line
    lines_apart : (most : ℕ) → AllApart most
    lines_apart zero [] within in_line = without_bracket [] tt
    lines_apart zero (c ∷ line) within in_line = absurd (omega (arith, within))
    lines_apart (suc most) line within in_line = elim (first_bracket line) [
      | inl none ↦ without_bracket line none
      | inr f ↦
          subst (λ t. AreApart t rest) (sym f.is)
          (with_bracket most (lines_apart most) f.before f.bracket f.after f.none f.opens (subst (λ t. length t ≤ suc most) f.is within) (subst (Without is_line_feed) f.is in_line))
    ]

  -- the output for a line, its line feed, and the output for the rest
  pub pretty_line : (line rest : List ℕ) → Without is_line_feed line → output_of (pretty_with limit) (line ++ line_feed ∷ rest) ≡ output_of (pretty_with limit) line ++ line_feed ∷ output_of (pretty_with limit) rest
  pretty_line line rest in_line =
      lines_apart rest (length line) line (omega arith) in_line (length (line ++ line_feed ∷ rest)) (length line) (length rest) (omega arith) (omega arith) (omega arith)
