-- A line that is cut before the word of its last bracket: what is before the word ends a group, and the rest begins one.
use Rattle.std.proofs.Common.{◌≡◌, ◌∙◌, refl, ap, sym, ℕ, List, [], ◌∷◌, ◌++◌, Bool, true, false, nat_lt, drop, take, length, ◌-◌}
use Rattle.std.proofs.Math.Bool.{and-false}
use Rattle.ufmt_core.specs.declared.layout.Mode.TheVariants.{Plain}
use Rattle.ufmt_lines.specs.Groups.{AreFirstGroups, continues, grouped, groups_of, if_any, is_indented, opens, pieces_of, pieces_of_line, word_start}
use Rattle.ufmt_lines.specs.Private.Group.{IsEndedLine, IsOpen}
use Rattle.ufmt_lines.proofs.Groups.{grouped_step, pieces_after, pieces_in, with_line}
use Rattle.ufmt_lines.proofs.LineEnds.{front_in_line, front_indented, opens_no_line, rest_ended, rest_opens, word_first, word_within}

module _ (lines line : List ℕ) (is_open : IsOpen Plain lines) (ended : IsEndedLine line) (is : opens line ≡ true) (at_edge : is_indented line ≡ false) where
  abbrev pub start : ℕ
  start = word_start line (length line - 2)

  abbrev pub front : List ℕ
  front = take start line

  abbrev pub rest : List ℕ
  rest = drop start line

  cut : pieces_in Plain line ≡ front ∷ rest ∷ []
  cut = rw (is, at_edge) refl

  front_ends : continues Plain lines front ≡ false
  front_ends = rw (opens_no_line front (front_in_line line start is (word_within line (length line - 2)) ended), front_indented line start at_edge) (and-false (nat_lt 0 (length lines)))

  rest_goes_on : continues Plain [] rest ≡ true
  rest_goes_on = rw (rest_opens line start is (word_within line (length line - 2))) refl

  cut_grouped : (pieces : List (List ℕ)) → grouped Plain lines (pieces_in Plain line ++ pieces) ≡ if_any (lines ++ front) ++ grouped Plain [] (rest ∷ pieces)
  cut_grouped pieces = ap (λ p. grouped Plain lines (p ++ pieces)) cut ∙ grouped_step Plain false lines front (rest ∷ pieces) front_ends

  one_rest : is_indented rest ≡ true → pieces_of_line rest ≡ rest ∷ []
  one_rest indented = rw (rest_opens line start is (word_within line (length line - 2)), indented) refl

  nothing_and_rest : is_indented rest ≡ false → pieces_of_line rest ≡ [] ∷ rest ∷ []
  nothing_and_rest edge = rw (rest_opens line start is (word_within line (length line - 2)), edge, word_first line is) refl

  -- the rest isn't cut again
  rest_by : (b : Bool) (pieces : List (List ℕ)) → is_indented rest ≡ b → grouped Plain [] (pieces_of_line rest ++ pieces) ≡ grouped Plain [] (rest ∷ pieces)
  rest_by true pieces indented = ap (λ p. grouped Plain [] (p ++ pieces)) (one_rest indented)
  rest_by false pieces edge = ap (λ p. grouped Plain [] (p ++ pieces)) (nothing_and_rest edge) ∙ grouped_step Plain false [] [] (rest ∷ pieces) refl

  rest_grouped : (more : List ℕ) → groups_of Plain (rest ++ more) ≡ grouped Plain [] (rest ∷ pieces_of Plain more)
  rest_grouped more =
      ap (grouped Plain []) (pieces_after Plain rest more (rest_ended line start is (word_within line (length line - 2)) ended))
      ∙ rest_by (is_indented rest) (pieces_of Plain more) refl

  pub rest_is_open : IsOpen Plain rest
  rest_is_open = λ more. rest_grouped more ∙ grouped_step Plain true [] rest (pieces_of Plain more) rest_goes_on

  pub front_is_first : AreFirstGroups Plain (if_any (lines ++ front)) (lines ++ line) rest
  front_is_first = λ more.
      with_line Plain lines line is_open ended more ∙ cut_grouped (pieces_of Plain more) ∙ ap (λ g. if_any (lines ++ front) ++ g) (sym (rest_grouped more))
