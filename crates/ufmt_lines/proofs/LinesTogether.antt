-- Lines that are converted together: the output for some lines, each a group, and for those that follow.
use Rattle.std.proofs.Common.{◌≡◌, ◌≢◌, inl, inr, ◌∙◌, refl, ap, sym, subst, ℕ, zero, suc, ◌+◌, ◌-◌, ◌<◌, ◌≤◌, ◌==◌, not, Bool, true, false, cond, List, [], ◌∷◌, ◌++◌, append_assoc, append-nil, drop, get_or, slice_index, take, length, length-drop, eqb-true, arith}
use Rattle.std.proofs.lemmas.Bool.{eqb-false}
use Rattle.std.proofs.lemmas.List.{append_cancel_right, drop_all, length-take-le, take-append-drop, take_more}
use Rattle.std.proofs.lemmas.List.Elements.{All-head, All-tail, All-weaker}
use Rattle.std.specs.List.{All, onto_first, suffix_len}
use Rattle.ufmt.specs.Bytes.{line_feed}
use Rattle.ufmt_core.specs.declared.layout.Mode.TheVariants.{Pretty}
use Rattle.ufmt_lines.specs.declared.run.conversion.Conversion.{Conversion}
use Rattle.ufmt_lines.specs.Groups.{AreFirstGroups, IsInLine, ended_lines, groups_of}
use Rattle.ufmt_lines.specs.Output.{outputs_for}
use Rattle.ufmt_lines.specs.Private.Group.{Gathers, IsEndedLine}
use Rattle.ufmt_lines.specs.Private.WholeLines.{EndsLine, PushesLines}
use Rattle.ufmt_lines.specs.Values.{convert_from, output_of}
use Rattle.ufmt_lines.proofs.ConvertedSteps.{enough, no_bracket}
use Rattle.ufmt_lines.proofs.Cuts.{outputs_cut}
use Rattle.ufmt_lines.proofs.Fronts.{first_before}
use Rattle.ufmt_lines.proofs.Groups.{pretty_groups}
use Rattle.ufmt_lines.proofs.Rests.{rest_converted}
use Rattle.ufmt_lines.proofs.Unclosed.{rest_converted as unclosed_stays}
use Rattle.ufmt_values.specs.Unclosed.{HasNoMore}
use Rattle.ufmt_values.proofs.Searches.{last_end, last_is_of_set, rest_has_none}
use Rattle.ufmt_lines.proofs.WholeOutputs.{outputs_are_the_output}

-- ---- whole lines

-- a text that ends a line isn't without a line feed, but if it is empty
not_in_line : (line : List ℕ) → ¬ IsInLine (line ++ line_feed ∷ [])
not_in_line [] within = All-head (λ b. b ≢ line_feed) line_feed [] within refl
not_in_line (c ∷ line) within = not_in_line line (All-tail (λ b. b ≢ line_feed) c (line ++ line_feed ∷ []) within)

left_of_line : (k : ℕ) (line : List ℕ) → IsInLine (drop k (line ++ line_feed ∷ [])) → drop k (line ++ line_feed ∷ []) ≡ []
left_of_line zero line within = absurd (not_in_line line within)
left_of_line (suc k) [] within = drop_all k [] (omega arith)
left_of_line (suc k) (c ∷ line) within = left_of_line k line within

-- what is left of whole lines, if it has no line feed, is nothing
pub nothing_left : (k : ℕ) (lines : List ℕ) → EndsLine lines → IsInLine (drop k lines) → drop k lines ≡ []
nothing_left k lines (inl none) within = ap (drop k) none ∙ drop_all k [] (omega arith)
nothing_left k lines (inr (line, is)) within = ap (drop k) is ∙ left_of_line k line (subst (λ t. IsInLine (drop k t)) is within)

-- so some whole lines have a line feed
pub some_line : (lines : List ℕ) → EndsLine lines → 0 < length lines → ¬ IsInLine lines
some_line lines ends some within = let none = ap length (nothing_left 0 lines ends within) in absurd (omega (arith, none, some))

no_bytes : (a b : List ℕ) → a ++ b ≡ [] → b ≡ []
no_bytes [] b is = is
no_bytes (c ∷ a) b is = absurd (cc)

-- what follows some bytes of whole lines ends a line
pub ends_left : (first left : List ℕ) → EndsLine (first ++ left) → EndsLine left
ends_left first left (inl none) = inl (no_bytes first left none)
ends_left [] left (inr (line, is)) = inr (line, is)
ends_left (c ∷ first) left (inr ([], is)) = inl (no_bytes first left (cc))
ends_left (c ∷ first) left (inr (d ∷ line, is)) = ends_left first left (inr (line, cc))

-- what follows a line in whole lines ends a line
pub left_ends : (k : ℕ) (lines line left : List ℕ) → EndsLine lines → drop k lines ≡ line ++ left → EndsLine left
left_ends k lines line left ends cut =
    ends_left (take k lines ++ line) left
    (subst EndsLine (sym (take-append-drop k lines) ∙ ap (λ t. take k lines ++ t) cut ∙ sym (append_assoc (take k lines) line left)) ends)

-- a text of no length has no bytes
pub no_length : (text : List ℕ) → (length text == 0) ≡ true → text ≡ []
no_length [] none = refl
no_length (c ∷ text) none = let long = eqb-true (length (c ∷ text)) 0 none in absurd (omega (arith, long))

-- ---- the last line feed

-- bytes that aren't line feeds are in one line
in_line : (t : List ℕ) → All (λ b. (b == line_feed) ≡ false) t → IsInLine t
in_line t none = All-weaker (λ b. (b == line_feed) ≡ false) (λ b. b ≢ line_feed) (λ b is. eqb-false b line_feed is) t none

-- the bytes up to the last line feed end a line
up_to_last : (t : List ℕ) (end : ℕ) → end ≤ length t → (0 < end → (slice_index t (end - 1) == line_feed) ≡ true) → EndsLine (take end t)
up_to_last t zero within last = inl refl
up_to_last t (suc k) within last =
    let next : k + 1 ≡ suc k = omega arith in
    let before : suc k - 1 ≡ k = omega arith in
    let byte = eqb-true (get_or t k 0) line_feed (ap (λ i. slice_index t i == line_feed) (sym before) ∙ last (omega arith)) in
    inr (take k t, ap (λ n. take n t) (sym next) ∙ take_more t k 0 (omega (arith, within)) ∙ ap (λ c. take k t ++ c ∷ []) byte)

-- a text is cut after its last line feed
pub cut_at_last : (t : List ℕ) (end : ℕ) → end ≡ length t - suffix_len (λ b. not (b == line_feed)) t
    → (t ≡ take end t ++ drop end t) × EndsLine (take end t) × IsInLine (drop end t)
cut_at_last t end is =
    let least = last_end (λ b. b == line_feed) t in
    rw is (
      sym (take-append-drop least t),
      up_to_last t least (omega arith) (last_is_of_set (λ b. b == line_feed) t),
      in_line (drop least t) (rest_has_none (λ b. b == line_feed) t),
    )

-- ---- lines are groups

lines_then : (b : Bool) (c : ℕ) (lines more : List (List ℕ)) → 0 < length lines
    → cond b ((c ∷ []) ∷ (lines ++ more)) (onto_first c (lines ++ more)) ≡ cond b ((c ∷ []) ∷ lines) (onto_first c lines) ++ more
lines_then true c lines more some = refl
lines_then false c [] more some = absurd (omega (arith, some))
lines_then false c (line ∷ lines) more some = refl

some_onto : (b : Bool) (c : ℕ) (lines : List (List ℕ)) → 0 < length (cond b ((c ∷ []) ∷ lines) (onto_first c lines))
some_onto true c lines = omega arith
some_onto false c [] = omega arith
some_onto false c (line ∷ lines) = omega arith

some_lines : (line : List ℕ) → 0 < length (ended_lines (line ++ line_feed ∷ []))
some_lines [] = some_onto (line_feed == line_feed) line_feed []
some_lines (c ∷ line) = some_onto (c == line_feed) c (ended_lines (line ++ line_feed ∷ []))

more_lines : (line more : List ℕ) → ended_lines ((line ++ line_feed ∷ []) ++ more) ≡ ended_lines (line ++ line_feed ∷ []) ++ ended_lines more
more_lines [] more = refl
more_lines (c ∷ line) more =
    ap (λ l. cond (c == line_feed) ((c ∷ []) ∷ l) (onto_first c l)) (more_lines line more)
    ∙ lines_then (c == line_feed) c (ended_lines (line ++ line_feed ∷ [])) (ended_lines more) (some_lines line)

lines_more : (lines more : List ℕ) → EndsLine lines → ended_lines (lines ++ more) ≡ ended_lines lines ++ ended_lines more
lines_more lines more (inl none) = rw none refl
lines_more lines more (inr (line, is)) = rw is (more_lines line more)

module _ (conversion : Conversion) (pretty : conversion.to ≡ Pretty) where
  -- whole lines are the first groups of a text that is made pretty
  lines_are_first : (lines : List ℕ) → EndsLine lines → AreFirstGroups conversion.to (ended_lines lines) lines []
  lines_are_first lines ends = λ more.
      ap (λ m. groups_of m (lines ++ more)) pretty ∙ pretty_groups (lines ++ more) ∙ lines_more lines more ends
      ∙ ap (λ g. ended_lines lines ++ g) (sym (pretty_groups more)) ∙ ap (λ m. ended_lines lines ++ groups_of m more) (sym pretty)

  -- the output for whole lines and for what follows
  output_cut : (lines more : List ℕ) → EndsLine lines → output_of conversion (lines ++ more) ≡ outputs_for conversion (ended_lines lines) ++ output_of conversion more
  output_cut lines more ends =
      sym (outputs_are_the_output conversion (lines ++ more))
      ∙ outputs_cut conversion (ended_lines lines) lines [] (lines_are_first lines ends) more
      ∙ ap (λ t. outputs_for conversion (ended_lines lines) ++ t) (outputs_are_the_output conversion more)

  output_whole : (lines : List ℕ) → EndsLine lines → output_of conversion lines ≡ outputs_for conversion (ended_lines lines)
  output_whole lines ends =
      ap (output_of conversion) (sym (append-nil lines)) ∙ output_cut lines [] ends
      ∙ ap (λ t. outputs_for conversion (ended_lines lines) ++ t) (no_bracket conversion 0 [] tt) ∙ append-nil (outputs_for conversion (ended_lines lines))

  -- lines of which the outputs were pushed were gathered
  lines_gathered : (lines left old new : List ℕ) → PushesLines conversion lines left old new → Gathers conversion lines left old new
  lines_gathered lines left old new h = record {
    groups = ended_lines h.first;
    are_first = subst (λ t. AreFirstGroups conversion.to (ended_lines h.first) t left) (sym h.is) (first_before conversion.to (ended_lines h.first) h.first [] left (lines_are_first h.first h.ended));
    appended = h.appended;
  }

  -- the same where no line was read before
  pub from_nothing : (group lines left old new : List ℕ) → group ≡ [] → PushesLines conversion lines left old new → Gathers conversion (group ++ lines) (group ++ left) old new
  from_nothing group lines left old new none h = subst (λ g. Gathers conversion (g ++ lines) (g ++ left) old new) (sym none) (lines_gathered lines left old new h)

  module _ (k : ℕ) (lines old mid : List ℕ) (ends : EndsLine lines) (front : old ++ output_of conversion lines ≡ mid ++ output_of conversion (drop k lines)) where
    -- all was converted
    pub all_pushed : IsInLine (drop k lines) → PushesLines conversion lines (drop k lines) old mid
    all_pushed within =
        let none = nothing_left k lines ends within in
        let all : mid ++ output_of conversion (drop k lines) ≡ mid = ap (λ t. mid ++ output_of conversion t) none ∙ ap (λ t. mid ++ t) (no_bracket conversion 0 [] tt) ∙ append-nil mid in
        record {
          first = lines;
          is = sym (append-nil lines) ∙ ap (λ t. lines ++ t) (sym none);
          ended = ends;
          appended = sym all ∙ sym front ∙ ap (λ t. old ++ t) (output_whole lines ends);
        }

    -- a front was converted, and then the line in which it ends
    pub lines_pushed : (line left new : List ℕ) → IsEndedLine line → drop k lines ≡ line ++ left → new ≡ mid ++ output_of conversion line → PushesLines conversion lines left old new
    lines_pushed line left new ended cut more =
        let first = take k lines ++ line in
        let is : lines ≡ first ++ left = sym (take-append-drop k lines) ∙ ap (λ t. take k lines ++ t) cut ∙ sym (append_assoc (take k lines) line left) in
        let first_ends : EndsLine first = inr (take k lines ++ ended.0, ap (λ t. take k lines ++ t) ended.2 ∙ sym (append_assoc (take k lines) ended.0 (line_feed ∷ []))) in
        let line_ends : EndsLine line = inr (ended.0, ended.2) in
        let out = outputs_for conversion (ended_lines first) in
        let last = output_of conversion left in
        let whole : (old ++ out) ++ last ≡ new ++ last =
        append_assoc old out last ∙ ap (λ t. old ++ t) (sym (output_cut first left first_ends) ∙ ap (output_of conversion) (sym is)) ∙ front
        ∙ ap (λ t. mid ++ output_of conversion t) cut ∙ ap (λ t. mid ++ t) (output_cut line left line_ends ∙ ap (λ t. t ++ last) (sym (output_whole line line_ends)))
        ∙ sym (append_assoc mid (output_of conversion line) last) ∙ ap (λ t. t ++ last) (sym more) in
        record { first = first; is = is; ended = first_ends; appended = sym (append_cancel_right (old ++ out) new last whole) }

-- ---- the front of a text

-- what follows a front is converted as if nothing were before it
pub front_converted : (conversion : Conversion) (text : List ℕ) (at n : ℕ) (whole new : List ℕ) → at ≤ length text → length text - at ≤ n
    → whole ≡ new ++ convert_from conversion n text at → whole ≡ new ++ output_of conversion (drop at text)
front_converted conversion text at n whole new within room is =
    let size = length-take-le at text within in
    let left = length-drop at text in
    let place : at ≡ length (take at text) + 0 = omega (arith, size) in
    is ∙ ap (λ t. new ++ t) (
    ap (λ t. convert_from conversion n t at) (sym (take-append-drop at text))
    ∙ ap (convert_from conversion n (take at text ++ drop at text)) place
    ∙ rest_converted (take at text) (drop at text) conversion n 0
    ∙ enough conversion n (length (drop at text)) (drop at text) (omega (arith, left, room)) (omega arith))

-- a text of no value is its own output
pub stays_whole : (conversion : Conversion) (text : List ℕ) → HasNoMore text 0 → output_of conversion text ≡ text
stays_whole conversion text none = sym (unclosed_stays conversion text (length text) 0 none (output_of conversion text) [] text refl refl)

module _ (conversion : Conversion) (text : List ℕ) where
  -- nothing is left of a text at its end
  no_output : (front : ℕ) → front ≡ length text → (new : List ℕ) → new ++ output_of conversion (drop front text) ≡ new
  no_output front end new =
      ap (λ k. new ++ output_of conversion (drop k text)) end ∙ ap (λ t. new ++ output_of conversion t) (drop_all (length text) text (omega arith))
      ∙ ap (λ t. new ++ t) (no_bracket conversion 0 [] tt) ∙ append-nil new

  -- so nothing follows a text that was converted whole
  pub whole_converted : (whole new : List ℕ) → new ≡ whole → whole ≡ new ++ output_of conversion (drop (length text) text)
  whole_converted whole new is = sym is ∙ sym (no_output (length text) refl new)

  -- and a text was converted whole if its front is all of it
  pub nothing_follows : (front : ℕ) → front ≡ length text → (whole new : List ℕ) → whole ≡ new ++ output_of conversion (drop front text) → new ≡ whole
  nothing_follows front end whole new is = sym (is ∙ no_output front end new)
