-- Where a group ends in a line, or that it continues after the line.
use Rattle.std.proofs.Common.{◌≡◌, ◌∙◌, refl, sym, subst, ℕ, List, [], ◌∷◌, ◌++◌, Bool, true, false, nat_lt, take, length, ◌-◌, arith}
use Rattle.std.proofs.Math.Bool.{and-false}
use Rattle.std.proofs.lemmas.List.{drop_all, take_all}
use Rattle.ufmt_core.specs.declared.layout.Mode.{Mode}
use Rattle.ufmt_core.specs.declared.layout.Mode.TheVariants.{Plain, Pretty}
use Rattle.ufmt_lines.specs.Groups.{AreFirstGroups, continues, if_any, is_indented, opens, word_start}
use Rattle.ufmt_lines.specs.Private.Group.{EndsGroup, IsEndedLine, IsOpen}
use Rattle.ufmt_lines.proofs.CutLines.{front_is_first, rest_is_open}
use Rattle.ufmt_lines.proofs.Groups.{line_continues, line_ends, nothing_open, pieces_in}
use Rattle.ufmt_lines.proofs.LineEnds.{word_within}

module _ (mode : Mode) (lines line : List ℕ) (is_open : IsOpen mode lines) (ended : IsEndedLine line) where
  -- the whole line is the last of its group
  ends_whole : pieces_in mode line ≡ line ∷ [] → continues mode lines line ≡ false → EndsGroup mode lines line (length line)
  ends_whole one off =
      let all = take_all (length line) line (omega arith) in let none = drop_all (length line) line (omega arith) in
      record {
        within = omega arith;
        ended = subst (λ r. AreFirstGroups mode (if_any (lines ++ take (length line) line)) (lines ++ line) r) (sym none)
            (subst (λ t. AreFirstGroups mode (if_any (lines ++ t)) (lines ++ line) []) (sym all) (line_ends mode lines line is_open ended one off));
        left = subst (IsOpen mode) (sym none) (nothing_open mode);
      }

  -- each line that is made pretty is a group
  pub pretty_ends : mode ≡ Pretty → EndsGroup mode lines line (length line)
  pretty_ends pretty = ends_whole (rw pretty refl) (rw pretty refl)

  module _ (plain : mode ≡ Plain) where
    -- an indented line that ends with a bracket is in its group, and more lines are
    pub bracket_continues : opens line ≡ true → is_indented line ≡ true → IsOpen mode (lines ++ line)
    bracket_continues is indented = line_continues mode lines line is_open ended (rw (plain, is, indented) refl) (rw (plain, is) refl)

    -- and so is each indented line that isn't the first
    pub indented_continues : (inside : Bool) → opens line ≡ false → is_indented line ≡ true → inside ≡ nat_lt 0 (length lines) → inside ≡ true → IsOpen mode (lines ++ line)
    indented_continues inside none indented is on = line_continues mode lines line is_open ended (rw (plain, none) refl) (rw (plain, none, indented, sym is ∙ on) refl)

    -- the first line is a group, if it doesn't end with a bracket
    pub first_ends : (inside : Bool) → opens line ≡ false → inside ≡ nat_lt 0 (length lines) → inside ≡ false → EndsGroup mode lines line (length line)
    first_ends inside none is off = ends_whole (rw (plain, none) refl) (rw (plain, none, sym is ∙ off) refl)

    -- a line that neither ends with a bracket nor is indented is the last of its group
    pub last_ends : opens line ≡ false → is_indented line ≡ false → EndsGroup mode lines line (length line)
    last_ends none edge = ends_whole (rw (plain, none) refl) (rw (plain, none, edge) (and-false (nat_lt 0 (length lines))))

-- a line that ends with a bracket and isn't indented is cut before the bracket's word
pub cut_ends : (mode : Mode) (lines line : List ℕ) (size : ℕ) → mode ≡ Plain → IsOpen mode lines → IsEndedLine line → opens line ≡ true → is_indented line ≡ false
    → size ≡ word_start line (length line - 2) → EndsGroup mode lines line size
cut_ends mode lines line size plain is_open ended is edge at_word =
    let open_plain = subst (λ m. IsOpen m lines) plain is_open in
    subst (λ m. EndsGroup m lines line size) (sym plain) (subst (EndsGroup Plain lines line) (sym at_word) (record {
      within = let before = word_within line (length line - 2) in omega (arith, before);
      ended = front_is_first lines line open_plain ended is edge;
      left = rest_is_open lines line open_plain ended is edge;
    }))
