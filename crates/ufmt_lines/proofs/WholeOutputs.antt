-- The outputs for the groups of a text, put together, are the output for the text.
use Rattle.std.proofs.Common.{◌≡◌, ◌≢◌, ◌⊎◌, inl, inr, ◌∙◌, refl, ap, sym, ℕ, zero, suc, ◌≤◌, ◌-◌, ◌==◌, ◌||◌, ◌&&◌, Bool, true, false, List, [], ◌∷◌, ◌++◌, append_assoc, drop, take, length, length-append, eqb-true, arith}
use Rattle.std.proofs.lemmas.Bool.Decides.{eqb_tells, nat_tests}
use Rattle.std.proofs.lemmas.Bool.{false_from_ne_true}
use Rattle.std.proofs.lemmas.List.{take-append-drop}
use Rattle.std.proofs.lemmas.List.Elements.{All-cons, All-head, All-nil, All-tail}
use Rattle.std.specs.Prelude.{nat_lt}
use Rattle.ufmt.specs.Bytes.{line_feed}
use Rattle.ufmt_core.specs.declared.layout.Mode.{Mode}
use Rattle.ufmt_core.specs.declared.layout.Mode.TheVariants.{Plain, Pretty}
use Rattle.ufmt_lines.proofs.ComesBack.{plain_texts_come_back}
use Rattle.ufmt_lines.proofs.ConvertedSteps.{no_bracket}
use Rattle.ufmt_lines.proofs.CutLines.{front_is_first, rest_is_open}
use Rattle.ufmt_lines.proofs.Cuts.{outputs_any, outputs_cut, outputs_one}
use Rattle.ufmt_values.proofs.FirstBrackets.{Without}
use Rattle.ufmt_lines.proofs.GroupParts.{line_parts, word_parts}
use Rattle.ufmt_lines.proofs.Groups.{groups_only, line_continues, line_ends, nothing_open, pieces_in}
use Rattle.ufmt_lines.proofs.LineEnds.{rest_ended, word_within}
use Rattle.ufmt_lines.proofs.LinesApart.{pretty_line}
use Rattle.ufmt_lines.proofs.PlainCuts.{plain_cut}
use Rattle.ufmt_lines.specs.Groups.{IsInLine, continues, if_any, is_indented, opens, word_start}
use Rattle.ufmt_lines.specs.Output.{outputs_of}
use Rattle.ufmt_lines.specs.OutputLaws.{OutputsAreTheOutput, PlainLogsComeBack, plain_with, pretty_with}
use Rattle.ufmt_lines.specs.Private.Group.{IsEndedLine, IsOpen}
use Rattle.ufmt_lines.specs.Private.LineLen.{is_line_feed}
use Rattle.ufmt_lines.specs.Private.WholeLines.{EndsLine}
use Rattle.ufmt_lines.specs.Values.{output_of}

-- the first line of a text, if it has a line feed
record FirstLine (text : List ℕ) : Type 0 where
  pub line : List ℕ
  pub more : List ℕ
  pub within : IsInLine line
  pub is : text ≡ line ++ line_feed ∷ more

-- each text has one, or no line feed
first_line : (text : List ℕ) → IsInLine text ⊎ FirstLine text
first_line [] = inl (All-nil (λ b. b ≢ line_feed))
first_line (c ∷ t) = elim (eqb_tells c line_feed) [
  | inl h ↦ inr (record { line = []; more = t; within = All-nil (λ b. b ≢ line_feed); is = ap (λ b. b ∷ t) h.1 })
  | inr h ↦ elim (first_line t) [
    | inl within ↦ inl (All-cons (λ b. b ≢ line_feed) c t h.1 within)
    | inr f ↦ inr (record { line = c ∷ f.line; more = f.more; within = All-cons (λ b. b ≢ line_feed) c f.line h.1 f.within; is = ap (λ u. c ∷ u) f.is })
  ]
]

-- no byte of a line is a line feed, by the test
in_line : (text : List ℕ) → IsInLine text → Without is_line_feed text
in_line [] within = tt
in_line (c ∷ t) within = (
  false_from_ne_true (c == line_feed) (λ is. All-head (λ b. b ≢ line_feed) c t within (eqb-true c line_feed is)),
  in_line t (All-tail (λ b. b ≢ line_feed) c t within),
)

module _ (limit : ℕ) where
  -- ---- pretty

  -- the outputs for a line with its line feed and for the rest
  ended_line : (line more : List ℕ) → IsInLine line
      → output_of (pretty_with limit) (line ++ line_feed ∷ []) ++ output_of (pretty_with limit) more ≡ output_of (pretty_with limit) (line ++ line_feed ∷ more)
  ended_line line more within =
      let out = output_of (pretty_with limit) line in
      ap (λ t. t ++ output_of (pretty_with limit) more) (pretty_line limit line [] (in_line line within) ∙ ap (λ t. out ++ line_feed ∷ t) (no_bracket (pretty_with limit) 0 [] tt))
      ∙ append_assoc out (line_feed ∷ []) (output_of (pretty_with limit) more)
      ∙ sym (pretty_line limit line more (in_line line within))

  -- the outputs for lines are the output for the text
  by_lines : (most : ℕ) (text : List ℕ) → length text ≤ most → outputs_of (pretty_with limit) text ≡ output_of (pretty_with limit) text
  by_lines zero [] short = outputs_one (pretty_with limit) [] (groups_only Pretty [] [] (nothing_open Pretty) (All-nil (λ b. b ≢ line_feed)))
  by_lines zero (c ∷ text) short = absurd (omega (arith, short))
  by_lines (suc most) text short = elim (first_line text) [
    | inl within ↦ outputs_one (pretty_with limit) text (groups_only Pretty [] text (nothing_open Pretty) within)
    | inr f ↦
        let ended = f.line ++ line_feed ∷ [] in
        let size = ap length f.is in
        let parts = length-append f.line (line_feed ∷ f.more) in
        ap (outputs_of (pretty_with limit)) (f.is ∙ sym (append_assoc f.line (line_feed ∷ []) f.more))
        ∙ outputs_cut (pretty_with limit) (if_any ended) ended [] (line_ends Pretty [] ended (nothing_open Pretty) (f.line, f.within, refl) refl refl) f.more
        ∙ ap (λ t. t ++ outputs_of (pretty_with limit) f.more) (outputs_any (pretty_with limit) ended)
        ∙ ap (λ t. output_of (pretty_with limit) ended ++ t) (by_lines most f.more (omega (arith, short, size, parts)))
        ∙ ended_line f.line f.more f.within
        ∙ ap (output_of (pretty_with limit)) (sym f.is)
  ]

  -- ---- plain

  -- for what follows these lines, after which a group is open
  abbrev AllGroups : ℕ → Type 0
  AllGroups most = (lines more : List ℕ) → length more ≤ most → IsOpen Plain lines → EndsLine lines → outputs_of (plain_with limit) (lines ++ more) ≡ output_of (plain_with limit) (lines ++ more)

  module _ (most : ℕ) (all : AllGroups most) (lines line more : List ℕ) (within : IsInLine line) (is_open : IsOpen Plain lines) (ends : EndsLine lines) (short : length more ≤ most) where
    abbrev ended : List ℕ
    ended = line ++ line_feed ∷ []

    is_ended : IsEndedLine ended
    is_ended = (line, within, refl)

    abbrev Same : Type 0
    Same = outputs_of (plain_with limit) ((lines ++ ended) ++ more) ≡ output_of (plain_with limit) ((lines ++ ended) ++ more)

    module _ (is : opens ended ≡ true) (edge : is_indented ended ≡ false) where
      abbrev s : ℕ
      s = word_start ended (length ended - 2)

      rest_lines : EndsLine (drop s ended)
      rest_lines = let rest = rest_ended ended s is (word_within ended (length ended - 2)) is_ended in inr (rest.0, rest.2)

      -- the line is cut before a word
      at_word : Same
      at_word =
          let front = lines ++ take s ended in
          let rest = drop s ended in
          outputs_cut (plain_with limit) (if_any front) (lines ++ ended) rest (front_is_first lines ended is_open is_ended is edge) more
          ∙ ap (λ t. t ++ outputs_of (plain_with limit) (rest ++ more)) (outputs_any (plain_with limit) front)
          ∙ ap (λ t. output_of (plain_with limit) front ++ t) (all rest more short (rest_is_open lines ended is_open is_ended is edge) rest_lines)
          ∙ sym (plain_cut limit (rest ++ more) front (word_parts lines ended more ends is_ended is edge))
          ∙ ap (output_of (plain_with limit)) (append_assoc lines (take s ended) (rest ++ more)
          ∙ ap (λ t. lines ++ t) (sym (append_assoc (take s ended) rest more) ∙ ap (λ t. t ++ more) (take-append-drop s ended))
          ∙ sym (append_assoc lines ended more))

    -- the line is in one group
    module _ (one : pieces_in Plain ended ≡ ended ∷ []) where
      -- the group continues after it
      goes_on : continues Plain lines ended ≡ true → Same
      goes_on on = all (lines ++ ended) more short (line_continues Plain lines ended is_open is_ended one on) (inr (lines ++ line, sym (append_assoc lines line (line_feed ∷ []))))

      -- or it ends there
      ends_there : continues Plain lines ended ≡ false → Same
      ends_there off =
          outputs_cut (plain_with limit) (if_any (lines ++ ended)) (lines ++ ended) [] (line_ends Plain lines ended is_open is_ended one off) more
          ∙ ap (λ t. t ++ outputs_of (plain_with limit) more) (outputs_any (plain_with limit) (lines ++ ended))
          ∙ ap (λ t. output_of (plain_with limit) (lines ++ ended) ++ t) (all [] more short (nothing_open Plain) (inl refl))
          ∙ sym (plain_cut limit more (lines ++ ended) (line_parts lines line more ends within (no_opening (opens ended) _ off) (at_edge lines (opens ended) (is_indented ended) off)))
        where
          no_opening : (a b : Bool) → (a || b) ≡ false → a ≡ false
          no_opening true b h = absurd (cc)
          no_opening false b h = refl

          at_edge : (lines : List ℕ) (a b : Bool) → (a || (nat_lt 0 (length lines) && b)) ≡ false → lines ≢ [] → b ≡ false
          at_edge [] a b h some = absurd (some refl)
          at_edge (c ∷ lines) true b h some = absurd (cc)
          at_edge (c ∷ lines) false b h some = grind (arith, nat_tests)

      in_one : (b : Bool) → continues Plain lines ended ≡ b → Same
      in_one true on = goes_on on
      in_one false off = ends_there off

    -- after each line, the outputs are those of the whole
    at_line : (o i : Bool) → opens ended ≡ o → is_indented ended ≡ i → Same
    at_line true false is edge = at_word is edge
    at_line true true is indented = in_one (rw (is, indented) refl) (continues Plain lines ended) refl
    at_line false i none indented = in_one (rw none refl) (continues Plain lines ended) refl

  -- the outputs for groups are the output for the text
  by_groups : (most : ℕ) → AllGroups most
  by_groups zero lines [] short is_open ends = outputs_one (plain_with limit) (lines ++ []) (groups_only Plain lines [] is_open (All-nil (λ b. b ≢ line_feed)))
  by_groups zero lines (c ∷ more) short is_open ends = absurd (omega (arith, short))
  by_groups (suc most) lines more short is_open ends = elim (first_line more) [
    | inl within ↦ outputs_one (plain_with limit) (lines ++ more) (groups_only Plain lines more is_open within)
    | inr f ↦
        let ended = f.line ++ line_feed ∷ [] in
        let size = ap length f.is in
        let parts = length-append f.line (line_feed ∷ f.more) in
        let whole : lines ++ more ≡ (lines ++ ended) ++ f.more = ap (λ t. lines ++ t) (f.is ∙ sym (append_assoc f.line (line_feed ∷ []) f.more)) ∙ sym (append_assoc lines ended f.more) in
        ap (outputs_of (plain_with limit)) whole
        ∙ at_line most (by_groups most) lines f.line f.more f.within is_open ends (omega (arith, short, size, parts)) (opens ended) (is_indented ended) refl refl
        ∙ ap (output_of (plain_with limit)) (sym whole)
  ]

-- ---- both

-- in each mode
whole_output : (to : Mode) (limit : ℕ) (text : List ℕ) → outputs_of (record { to = to; longer_than = limit }) text ≡ output_of (record { to = to; longer_than = limit }) text
whole_output Plain limit text = by_groups limit (length text) [] text (omega arith) (nothing_open Plain) (inl refl)
whole_output Pretty limit text = by_lines limit (length text) text (omega arith)

-- the law on outputs
pub outputs_are_the_output : OutputsAreTheOutput
outputs_are_the_output = λ conversion text. whole_output conversion.to conversion.longer_than text

-- the law on logs
pub plain_logs_come_back : PlainLogsComeBack
plain_logs_come_back = λ limit log same.
    whole_output Plain limit (outputs_of (pretty_with limit) log) ∙ ap (output_of (plain_with limit)) (whole_output Pretty limit log)
    ∙ plain_texts_come_back limit log (sym (whole_output Plain limit log) ∙ same)
