-- Where a group ends, a text may be cut.
use Rattle.std.proofs.Common.{◌≡◌, ◌≢◌, ◌⊎◌, inl, inr, ◌∙◌, refl, ap, sym, subst, ℕ, zero, suc, ◌+◌, ◌-◌, ◌<◌, ◌≤◌, ◌==◌, ◌&&◌, Bool, true, false, cond, List, [], ◌∷◌, ◌++◌, append_assoc, append-nil, drop, take, get_or, length, length-append, length-drop, eqb-true, arith}
use Rattle.std.proofs.Math.Seq.{get_or-append_seam}
use Rattle.std.proofs.lemmas.Bool.{cases_Bool, cases_lt, true≢false}
use Rattle.std.proofs.lemmas.List.{get_or-append-add, get_or-drop, length-take-le, take-append-drop}
use Rattle.std.proofs.lemmas.List.Elements.{All-head, All-tail}
use Rattle.ufmt.specs.Bytes.{line_feed, opening_brace, space}
use Rattle.ufmt.specs.Leaves.{begins_with, is_ender, is_name_byte, is_opening}
use Rattle.ufmt_values.proofs.LastWords.{run_begins, run_on}
use Rattle.ufmt_values.proofs.NameBrackets.{name_no_ender, opening_no_ender}
use Rattle.ufmt_lines.proofs.LineEnds.{front_in_line, front_indented, opens_long, rest_ended, word_within}
use Rattle.ufmt_lines.proofs.PlainCuts.{BeginsAnew, Parts, Turns}
use Rattle.ufmt_lines.proofs.PrettyInside.{last_of, last_same, two_fronts}
use Rattle.ufmt_lines.proofs.Rests.{run_within}
use Rattle.ufmt_lines.proofs.SteepTexts.{InLine}
use Rattle.ufmt_lines.specs.Groups.{IsInLine, is_indented, is_spaced_brace, opens, word_start}
use Rattle.ufmt_lines.specs.Private.Group.{IsEndedLine}
use Rattle.ufmt_lines.specs.Private.WholeLines.{EndsLine}
use Rattle.ufmt_values.specs.Values.{run_start}

-- ---- bytes of a word

-- the byte before a run is no name's
before_run : (text : List ℕ) (end l : ℕ) → run_start text 0 end ≡ suc l → is_name_byte (get_or text l 0) ≡ false
before_run text zero l is = absurd (omega (arith, is))
before_run text (suc n) l is = elim (cases_Bool (is_name_byte (get_or text n 0))) [
  | inl named ↦ before_run text n l (sym (run_on text n named) ∙ is)
  | inr other ↦
      let here : suc n ≡ suc l = sym (run_begins text n other) ∙ is in
      let same : l ≡ n = omega (arith, here) in
      ap (λ i. is_name_byte (get_or text i 0)) same ∙ other
]

-- the bytes in it are
in_run : (text : List ℕ) (end j : ℕ) → run_start text 0 end ≤ j → j < end → is_name_byte (get_or text j 0) ≡ true
in_run text zero j from less = absurd (omega (arith, less))
in_run text (suc n) j from less = elim (cases_Bool (is_name_byte (get_or text n 0))) [
  | inl named ↦ elim (cases_lt j n) [
    | inl inner ↦ in_run text n j (subst (λ s. s ≤ j) (run_on text n named) from) inner
    | inr after ↦ let same : j ≡ n = omega (arith, after, less) in ap (λ i. is_name_byte (get_or text i 0)) same ∙ named
  ]
  | inr other ↦ let past : suc n ≤ j = subst (λ s. s ≤ j) (run_begins text n other) from in absurd (omega (arith, past, less))
]

both_true : (a b : Bool) → (a && b) ≡ true → (a ≡ true) × (b ≡ true)
both_true true b h = (refl, h)
both_true false b h = absurd (cc)

-- ---- line feeds

-- no line has a line feed
no_feed : (a b : List ℕ) → IsInLine (a ++ line_feed ∷ b) → ⊥
no_feed [] b within = All-head (λ c. c ≢ line_feed) line_feed b within refl
no_feed (c ∷ a) b within = no_feed a b (All-tail (λ c. c ≢ line_feed) c (a ++ line_feed ∷ b) within)

-- an opening bracket is no line feed
no_opening_feed : (k : ℕ) → is_opening k ≡ true → k ≡ line_feed → ⊥
no_opening_feed k opens same = true≢false (sym opens ∙ ap is_opening same)

-- what follows a line feed in lines are lines
lines_after : (a x : List ℕ) → EndsLine (a ++ line_feed ∷ x) → EndsLine x
lines_after a [] line = inl refl
lines_after [] (c ∷ x) (inl empty) = absurd (cc)
lines_after (b ∷ a) (c ∷ x) (inl empty) = absurd (cc)
lines_after a (c ∷ x) (inr ended) = inr (last_of (a ++ line_feed ∷ []) (c ∷ x) ended.0 line_feed (append_assoc a (line_feed ∷ []) (c ∷ x) ∙ ended.1) (λ empty. absurd (cc)))

no_last : (f : List ℕ) (c : ℕ) → [] ≡ f ++ c ∷ [] → ⊥
no_last [] c is = absurd (cc)
no_last (b ∷ f) c is = absurd (cc)

-- the last byte of lines is a line feed
last_is_feed : (lines f : List ℕ) (c : ℕ) → EndsLine lines → lines ≡ f ++ c ∷ [] → c ≡ line_feed
last_is_feed lines f c (inl empty) is = absurd (no_last f c (sym empty ∙ is))
last_is_feed lines f c (inr ended) is = last_same f ended.0 c line_feed (sym is ∙ ended.1)

-- a bracket at a line's end is in the lines before a piece, or in the piece
module _ (lines piece : List ℕ) (line : EndsLine lines) (a : List ℕ) (k : ℕ) (b : List ℕ) (opening : is_opening k ≡ true) where
  abbrev IsInLines : Type 0
  IsInLines = (x : List ℕ) × (lines ≡ a ++ k ∷ line_feed ∷ x) × (b ≡ x ++ piece)

  abbrev IsInPiece : Type 0
  IsInPiece = (x : List ℕ) × (piece ≡ x ++ k ∷ line_feed ∷ b)

  in_lines : (x : List ℕ) → lines ≡ a ++ x → k ∷ line_feed ∷ b ≡ x ++ piece → IsInLines ⊎ IsInPiece
  in_lines [] same is = inr ([], sym is)
  in_lines (c ∷ []) same is =
      absurd (no_opening_feed k opening (ap (λ l. get_or l 0 0) is ∙ last_is_feed lines a c line same))
  in_lines (c ∷ d ∷ x) same is =
      let first : k ≡ c = ap (λ l. get_or l 0 0) is in
      let second : line_feed ≡ d = ap (λ l. get_or l 1 0) is in
      inl (x, same ∙ ap (λ e. a ++ e ∷ d ∷ x) (sym first) ∙ ap (λ e. a ++ k ∷ e ∷ x) (sym second), ap (drop 2) is)

  feed_place : lines ++ piece ≡ a ++ k ∷ line_feed ∷ b → IsInLines ⊎ IsInPiece
  feed_place is = elim (two_fronts lines piece a (k ∷ line_feed ∷ b) is) [
    | inl h ↦ in_lines h.0 h.1 h.2
    | inr h ↦ inr (h.0, h.2)
  ]

-- ---- a line that isn't cut

module _ (x : List ℕ) (k : ℕ) (opening : is_opening k ≡ true) where
  -- a line with a bracket before its line feed ends with one
  opens_is : opens (x ++ k ∷ line_feed ∷ []) ≡ true
  opens_is =
      let size = length-append x (k ∷ line_feed ∷ []) in
      let one : length (x ++ k ∷ line_feed ∷ []) - 1 ≡ length x + 1 = omega (arith, size) in
      let two : length (x ++ k ∷ line_feed ∷ []) - 2 ≡ length x + 0 = omega (arith, size) in
      let text = x ++ k ∷ line_feed ∷ [] in
      ap (λ i. (get_or text i 0 == line_feed) && is_opening (get_or text (length text - 2) 0)) one
      ∙ ap (λ i. (get_or text (length x + 1) 0 == line_feed) && is_opening (get_or text i 0)) two
      ∙ ap (λ c. (c == line_feed) && is_opening (get_or text (length x + 0) 0)) (get_or-append-add x (k ∷ line_feed ∷ []) 1 0)
      ∙ ap (λ c. is_opening c) (get_or-append-add x (k ∷ line_feed ∷ []) 0 0) ∙ opening

  -- the only line feed of a line is its last byte
  last_feed : (line b : List ℕ) → IsInLine line → line ++ line_feed ∷ [] ≡ x ++ k ∷ line_feed ∷ b → opens (line ++ line_feed ∷ []) ≡ true
  last_feed line [] within is = ap opens is ∙ opens_is
  last_feed line (c ∷ b) within is = absurd (elim (two_fronts line (line_feed ∷ []) (x ++ k ∷ line_feed ∷ []) (c ∷ b) (is ∙ sym (append_assoc x (k ∷ line_feed ∷ []) (c ∷ b)))) [
    | inl h ↦ no_feed (x ++ k ∷ []) h.0 (subst IsInLine (h.1 ∙ append_assoc x (k ∷ line_feed ∷ []) h.0 ∙ sym (append_assoc x (k ∷ []) (line_feed ∷ h.0))) within)
    | inr h ↦ longer h.0 h.1 h.2
  ])
    where
      longer : (y : List ℕ) → x ++ k ∷ line_feed ∷ [] ≡ line ++ y → line_feed ∷ [] ≡ y ++ c ∷ b → ⊥
      longer [] same rest = no_feed (x ++ k ∷ []) [] (subst IsInLine (sym (append-nil line) ∙ sym same ∙ sym (append_assoc x (k ∷ []) (line_feed ∷ []))) within)
      longer (d ∷ []) same rest = absurd (cc (ap (drop 1) rest))
      longer (d ∷ e ∷ y) same rest = absurd (cc (ap (drop 1) rest))

-- a byte that begins a line
begins : (piece : List ℕ) → is_indented piece ≡ false → piece ≢ [] → (c : ℕ) × (t : List ℕ) × ((c == space) ≡ false) × (piece ≡ c ∷ t)
begins [] edge some = absurd (some refl)
begins (c ∷ t) edge some = (c, t, edge, refl)

-- a piece that isn't indented begins a line with no space
turned : (x piece : List ℕ) → EndsLine x → is_indented piece ≡ false → piece ≢ [] → (b : List ℕ) → b ≡ x ++ piece → Turns b
turned x piece line edge some b is =
    let first = begins piece edge some in
    record { before = x; first = first.0; after = first.1; line = line; no_space = first.2; is = is ∙ ap (λ t. x ++ t) first.3 }

lines_some : (a : List ℕ) (k : ℕ) (x : List ℕ) → a ++ k ∷ x ≢ []
lines_some [] k x = λ e. absurd (cc)
lines_some (b ∷ a) k x = λ e. absurd (cc)

module _ (lines line back : List ℕ) (ends : EndsLine lines) (within : IsInLine line) (none : opens (line ++ line_feed ∷ []) ≡ false) (edge : lines ≢ [] → is_indented (line ++ line_feed ∷ []) ≡ false) where
  -- a group ends after a line that neither opens nor is indented in it
  pub line_parts : Parts (lines ++ (line ++ line_feed ∷ [])) back
  line_parts = record {
    closed = λ a k b is opening. elim (feed_place lines (line ++ line_feed ∷ []) ends a k b opening is) [
      | inl h ↦ inl (turned h.0 (line ++ line_feed ∷ []) (lines_after (a ++ k ∷ []) h.0 (subst EndsLine (h.1 ∙ sym (append_assoc a (k ∷ []) (line_feed ∷ h.0))) ends))
          (edge (λ empty. lines_some a k (line_feed ∷ h.0) (sym h.1 ∙ empty))) (lines_some line line_feed []) b h.2)
      | inr h ↦ absurd (true≢false (sym (last_feed h.0 k opening line b within h.1) ∙ none))
    ];
    seam = λ f c is.
        let last : line_feed ≡ c = last_same (lines ++ line) f line_feed c (append_assoc lines line (line_feed ∷ []) ∙ is) in
        (ap is_name_byte (sym last), λ brace. ap (λ b. b == space) (sym last), λ opening. absurd (no_opening_feed c opening (sym last)));
  }

-- ---- a line that is cut

module _ (lines line more : List ℕ) (ends : EndsLine lines) (ended : IsEndedLine line) (is : opens line ≡ true) (edge : is_indented line ≡ false) where
  abbrev bracket : ℕ
  bracket = length line - 2

  abbrev s : ℕ
  s = word_start line bracket

  abbrev front : List ℕ
  front = take s line

  abbrev rest : List ℕ
  rest = drop s line

  long : 2 ≤ length line
  long = opens_long line is

  before : s ≤ bracket
  before = word_within line bracket

  -- the front has no line feed
  front_line : IsInLine front
  front_line = front_in_line line s is before ended

  -- the rest has a byte before its line feed
  rest_line : (c : ℕ) × (t : List ℕ) × (c ≢ line_feed) × (rest ≡ c ∷ t)
  rest_line = go (rest_ended line s is before ended)
    where
      go : IsEndedLine rest → (c : ℕ) × (t : List ℕ) × (c ≢ line_feed) × (rest ≡ c ∷ t)
      go ([], within, same) = let size = length-drop s line in let one = ap length same in let all = long in let low = before in absurd (omega (arith, size, one, all, low))
      go (c ∷ t, within, same) = (c, t ++ line_feed ∷ [], All-head (λ b. b ≢ line_feed) c t within, same)

  -- it is the one where the word begins
  first_byte : get_or line s 0 ≡ rest_line.0
  first_byte =
      let place : s + 0 ≡ s = omega arith in
      ap (λ i. get_or line i 0) (sym place) ∙ sym (get_or-drop s line 0 0) ∙ ap (λ t. get_or t 0 0) rest_line.3

  -- the byte before the word
  last_byte : (y : List ℕ) (c : ℕ) → front ≡ y ++ c ∷ [] → (s ≡ suc (length y)) × (get_or line (length y) 0 ≡ c)
  last_byte y c same =
      let all = long in
      let low = before in
      let short : s ≤ length line = omega (arith, all, low) in
      let size = sym (length-take-le s line short) ∙ ap length same ∙ length-append y (c ∷ []) in
      (size ∙ omega arith, ap (λ t. get_or t (length y) 0) (sym (take-append-drop s line) ∙ ap (λ t. t ++ rest) same ∙ append_assoc y (c ∷ []) rest) ∙ get_or-append_seam y c rest 0)

  -- where the word begins, by whether a space comes before a brace
  by_word : (spaced : Bool) → is_spaced_brace line bracket ≡ spaced → (i : ℕ) → i ≡ cond spaced (bracket - 1) bracket → s ≡ run_start line 0 i
  by_word spaced kind i at = ap (λ b. run_start line 0 (cond b (bracket - 1) bracket)) kind ∙ ap (run_start line 0) (sym at)

  -- no brace comes right after a space before the word
  no_spaced : (y : List ℕ) (c : ℕ) → front ≡ y ++ c ∷ [] → (get_or line s 0 == opening_brace) ≡ true → (c == space) ≡ false
  no_spaced y c same brace = elim (cases_Bool (is_spaced_brace line bracket)) [
    | inl kind ↦ at_spaced kind (by_word true kind (bracket - 1) refl)
    | inr kind ↦ at_end kind (by_word false kind bracket refl)
  ]
    where
      name_no_brace : is_name_byte (get_or line s 0) ≡ true → ⊥
      name_no_brace named = true≢false (sym named ∙ ap is_name_byte (eqb-true (get_or line s 0) opening_brace brace))

      in_word : (i : ℕ) → s ≡ run_start line 0 i → s < i → ⊥
      in_word i at less = name_no_brace (in_run line i s (subst (λ n. n ≤ s) at (omega arith)) less)

      at_space : (get_or line s 0 == space) ≡ true → ⊥
      at_space spaced = true≢false (sym spaced ∙ ap (λ b. b == space) (eqb-true (get_or line s 0) opening_brace brace))

      not_both : (a b : Bool) → (a && b) ≡ false → a ≡ true → b ≡ false
      not_both true b h e = h
      not_both false b h e = absurd (cc)

      at_end : is_spaced_brace line bracket ≡ false → s ≡ run_start line 0 bracket → (c == space) ≡ false
      at_end kind at = elim (cases_lt s bracket) [
        | inl less ↦ absurd (in_word bracket at less)
        | inr after ↦
            let low = before in
            let place : s ≡ bracket = omega (arith, low, after) in
            let last = last_byte y c same in
            let size = last.0 in
            let index : bracket - 1 ≡ length y = omega (arith, place, size) in
            ap (λ b. b == space) (sym last.1) ∙ ap (λ j. get_or line j 0 == space) (sym index)
            ∙ not_both _ _ kind (ap (λ j. get_or line j 0 == opening_brace) (sym place) ∙ brace)
      ]

      at_spaced : is_spaced_brace line bracket ≡ true → s ≡ run_start line 0 (bracket - 1) → (c == space) ≡ false
      at_spaced kind at = elim (cases_lt s (bracket - 1)) [
        | inl less ↦ absurd (in_word (bracket - 1) at less)
        | inr after ↦
            let within : s ≤ bracket - 1 = subst (λ n. n ≤ bracket - 1) (sym at) (run_within line 0 (bracket - 1)) in
            let place : s ≡ bracket - 1 = omega (arith, within, after) in
            absurd (at_space (ap (λ j. get_or line j 0 == space) place ∙ (both_true _ _ kind).1))
      ]

  -- a line that is all word begins with no ender
  word_no_ender : s ≡ 0 → is_ender (get_or line 0 0) ≡ false
  word_no_ender first = elim (cases_Bool (is_spaced_brace line bracket)) [
    | inl kind ↦ elim (cases_lt 0 (bracket - 1)) [
      | inl some ↦ named (bracket - 1) (by_word true kind (bracket - 1) refl) some
      | inr none ↦
          let place : bracket - 1 ≡ 0 = omega (arith, none) in
          absurd (no_space_first (ap (λ j. get_or line j 0 == space) (sym place) ∙ (both_true _ _ kind).1))
    ]
    | inr kind ↦ elim (cases_lt 0 bracket) [
      | inl some ↦ named bracket (by_word false kind bracket refl) some
      | inr none ↦
          let place : bracket ≡ 0 = omega (arith, none) in
          opening_no_ender (get_or line 0 0) (ap (λ j. is_opening (get_or line j 0)) (sym place) ∙ (both_true _ _ is).1)
    ]
  ]
    where
      no_space_first : (get_or line 0 0 == space) ≡ true → ⊥
      no_space_first spaced = true≢false (sym spaced ∙ at line edge spaced)
        where
          at : (t : List ℕ) → is_indented t ≡ false → (get_or t 0 0 == space) ≡ true → (get_or t 0 0 == space) ≡ false
          at [] h e = absurd (cc)
          at (c ∷ t) h e = h

      named : (i : ℕ) → s ≡ run_start line 0 i → 0 < i → is_ender (get_or line 0 0) ≡ false
      named i at some = name_no_ender (get_or line 0 0) (in_run line i 0 (subst (λ n. n ≤ 0) (sym first ∙ at) (omega arith)) some)

  at_front : (t : List ℕ) → 2 ≤ length t → is_indented t ≡ false → is_ender (get_or t 0 0) ≡ false → BeginsAnew (t ++ more)
  at_front [] some h e = absurd (omega (arith, some))
  at_front (c ∷ t) some h e = (h, e)

  -- if nothing is before the word, the line begins with no space and no ender
  anew : front ≡ [] → BeginsAnew (rest ++ more)
  anew empty = subst (λ n. BeginsAnew (drop n line ++ more)) (sym none) (at_front line long edge (word_no_ender none))
    where
      none : s ≡ 0
      none =
          let all = long in
          let low = before in
          let short : s ≤ length line = omega (arith, all, low) in
          sym (length-take-le s line short) ∙ ap length empty

  -- a group ends before the word of a line's last bracket
  pub word_parts : Parts (lines ++ front) (rest ++ more)
  word_parts = record {
    closed = λ a k b same opening. elim (feed_place lines front ends a k b opening same) [
      | inl h ↦ after h.0 (lines_after (a ++ k ∷ []) h.0 (subst EndsLine (h.1 ∙ sym (append_assoc a (k ∷ []) (line_feed ∷ h.0))) ends)) b h.2 front refl
      | inr h ↦ absurd (no_feed (h.0 ++ k ∷ []) b (subst IsInLine (h.1 ∙ sym (append_assoc h.0 (k ∷ []) (line_feed ∷ b))) front_line))
    ];
    seam = λ f c same. seam_at f c front refl same;
  }
    where
      after : (x : List ℕ) → EndsLine x → (b : List ℕ) → b ≡ x ++ front → (piece : List ℕ) → front ≡ piece → Turns b ⊎ (EndsLine b × BeginsAnew (rest ++ more))
      after x line_x b at [] empty = inr (subst EndsLine (sym (at ∙ ap (λ t. x ++ t) empty ∙ append-nil x)) line_x, anew empty)
      after x line_x b at (c ∷ t) some = inl (turned x front line_x (front_indented line s edge) (λ empty. absurd (cc (some, empty))) b at)

      rest_in_line : InLine (rest ++ more)
      rest_in_line = λ v at. rest_line.2 (ap (λ l. get_or l 0 0) (sym (ap (λ t. t ++ more) rest_line.3) ∙ at))

      seam_at : (f : List ℕ) (c : ℕ) (piece : List ℕ) → front ≡ piece → lines ++ front ≡ f ++ c ∷ []
          → (is_name_byte c ≡ false) × (begins_with opening_brace (rest ++ more) ≡ true → (c == space) ≡ false) × (is_opening c ≡ true → InLine (rest ++ more))
      seam_at f c [] empty same =
          let last : c ≡ line_feed = last_is_feed lines f c ends (sym (append-nil lines) ∙ ap (λ t. lines ++ t) (sym empty) ∙ same) in
          (ap is_name_byte last, λ brace. ap (λ b. b == space) last, λ opening. rest_in_line)
      seam_at f c (d ∷ t) some same =
          let end = last_of lines front f c same (λ empty. absurd (cc (some, empty))) in
          let last = last_byte end.0 c end.1 in
          let word : run_start line 0 (cond (is_spaced_brace line bracket) (bracket - 1) bracket) ≡ suc (length end.0) = last.0 in (
            ap is_name_byte (sym last.1) ∙ before_run line (cond (is_spaced_brace line bracket) (bracket - 1) bracket) (length end.0) word,
            λ brace. no_spaced end.0 c end.1 (ap (λ b. b == opening_brace) first_byte ∙ ap (begins_with opening_brace) (sym (ap (λ t. t ++ more) rest_line.3)) ∙ brace),
            λ opening. rest_in_line,
          )
