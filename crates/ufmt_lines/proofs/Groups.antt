-- Groups of lines: of a text that is cut where a group ends, and of a text that is one group.
use Rattle.std.proofs.Common.{◌≡◌, ◌≢◌, inl, inr, ◌==◌, ◌∙◌, refl, ap, sym, subst, ℕ, List, [], ◌∷◌, ◌++◌, Bool, true, false, ◌&&◌, not, cond, append_assoc, append-nil, drop, take, length, ◌<◌, ◌≤◌, arith}
use Rattle.std.proofs.lemmas.List.{take-append-drop}
use Rattle.std.proofs.lemmas.List.Folds.{concat-append}
use Rattle.std.proofs.lemmas.Bool.Decides.{eqb_tells}
use Rattle.std.proofs.lemmas.List.Elements.{All-append, All-cons, All-head, All-nil, All-tail}
use Rattle.std.specs.List.{All, concat, flat_map, onto_first}
use Rattle.ufmt.specs.Bytes.{line_feed, space}
use Rattle.ufmt_core.specs.declared.layout.Mode.{Mode}
use Rattle.ufmt_core.specs.declared.layout.Mode.TheVariants.{Plain, Pretty}
use Rattle.ufmt_lines.specs.Groups.{AreFirstGroups, IsInGroup, IsInLine, continues, ended_lines, grouped, groups_of, if_any, is_indented, opens, pieces_of, pieces_of_line}
use Rattle.ufmt_lines.specs.Private.Group.{IsEndedLine, IsOpen}
use Rattle.ufmt_lines.proofs.LineEnds.{opens_no_line}

not_equal : (a b : ℕ) → a ≢ b → (a == b) ≡ false
not_equal a b apart = elim (eqb_tells a b) [ inl h ↦ absurd (apart h.1) | inr h ↦ h.0 ]

-- the lines of a text after a line are that line and the others
line_first : (line more : List ℕ) → IsInLine line → ended_lines (line ++ line_feed ∷ more) ≡ (line ++ line_feed ∷ []) ∷ ended_lines more
line_first [] more within = refl
line_first (byte ∷ line) more within =
    let head = not_equal byte line_feed (All-head (λ b. b ≢ line_feed) byte line within) in
    rw (head, line_first line more (All-tail (λ b. b ≢ line_feed) byte line within)) refl

onto_any : (byte : ℕ) (line : List ℕ) → onto_first byte (if_any line) ≡ (byte ∷ line) ∷ []
onto_any byte [] = refl
onto_any byte (c ∷ line) = refl

-- a text without a line feed is one line, if there is any of it
line_only : (line : List ℕ) → IsInLine line → ended_lines line ≡ if_any line
line_only [] within = refl
line_only (byte ∷ line) within =
    let head = not_equal byte line_feed (All-head (λ b. b ≢ line_feed) byte line within) in
    rw (head, line_only line (All-tail (λ b. b ≢ line_feed) byte line within)) (onto_any byte line)

-- the pieces of a line to this mode
abbrev pub pieces_in : Mode → List ℕ → List (List ℕ)
pieces_in Pretty line = line ∷ []
pieces_in Plain line = pieces_of_line line

pieces_first : (mode : Mode) (line more : List ℕ) → IsInLine line → pieces_of mode (line ++ line_feed ∷ more) ≡ pieces_in mode (line ++ line_feed ∷ []) ++ pieces_of mode more
pieces_first Pretty line more within = line_first line more within
pieces_first Plain line more within = ap (flat_map pieces_of_line) (line_first line more within)

-- the pieces of a text after a line
pub pieces_after : (mode : Mode) (line more : List ℕ) → IsEndedLine line → pieces_of mode (line ++ more) ≡ pieces_in mode line ++ pieces_of mode more
pieces_after mode line more (text, within, is) =
    subst (λ l. pieces_of mode (l ++ more) ≡ pieces_in mode l ++ pieces_of mode more) (sym is)
    (ap (pieces_of mode) (append_assoc text (line_feed ∷ []) more) ∙ pieces_first mode text more within)

uncut : (line : List ℕ) → opens line ≡ false → pieces_of_line line ≡ line ∷ []
uncut line none = rw none refl

pieces_of_any : (line : List ℕ) → opens line ≡ false → flat_map pieces_of_line (if_any line) ≡ if_any line
pieces_of_any [] none = refl
pieces_of_any (byte ∷ line) none = ap (λ l. l ++ []) (uncut (byte ∷ line) none)

-- a text without a line feed is one piece, if there is any of it
pub pieces_only : (mode : Mode) (line : List ℕ) → IsInLine line → pieces_of mode line ≡ if_any line
pieces_only Pretty line within = line_only line within
pieces_only Plain line within = ap (flat_map pieces_of_line) (line_only line within) ∙ pieces_of_any line (opens_no_line line within)

if_any_more : (group : List ℕ) (byte : ℕ) → if_any (group ++ byte ∷ []) ≡ (group ++ byte ∷ []) ∷ []
if_any_more [] byte = refl
if_any_more (c ∷ group) byte = refl

module _ (mode : Mode) where
  pub grouped_step : (b : Bool) (group piece : List ℕ) (pieces : List (List ℕ)) → continues mode group piece ≡ b
      → grouped mode group (piece ∷ pieces) ≡ cond b (grouped mode (group ++ piece) pieces) (if_any (group ++ piece) ++ grouped mode [] pieces)
  unfolding grouped
  grouped_step b group piece pieces is = rw is refl

  grouped_nothing : (group : List ℕ) → grouped mode group [] ≡ if_any group
  unfolding grouped
  grouped_nothing group = refl

  one_piece : (b : Bool) (group piece : List ℕ) → cond b (grouped mode (group ++ piece) []) (if_any (group ++ piece) ++ grouped mode [] []) ≡ if_any (group ++ piece)
  unfolding grouped
  one_piece true group piece = refl
  one_piece false group piece = append-nil (if_any (group ++ piece))

  -- one piece more is in the group, if it is the last
  grouped_any : (group piece : List ℕ) → grouped mode group (if_any piece) ≡ if_any (group ++ piece)
  unfolding grouped
  grouped_any group [] = ap if_any (sym (append-nil group))
  grouped_any group (byte ∷ piece) = grouped_step (continues mode group (byte ∷ piece)) group (byte ∷ piece) [] refl ∙ one_piece (continues mode group (byte ∷ piece)) group (byte ∷ piece)

  -- at first no group has ended
  pub nothing_open : IsOpen mode []
  nothing_open = λ more. refl

  -- lines after which a group continues, and a line that hasn't ended, are one group
  pub groups_only : (lines line : List ℕ) → IsOpen mode lines → IsInLine line → groups_of mode (lines ++ line) ≡ if_any (lines ++ line)
  groups_only lines line is_open within = is_open line ∙ ap (grouped mode lines) (pieces_only mode line within) ∙ grouped_any lines line

  -- and no group has ended in them
  pub reading_in_group : (lines line : List ℕ) → IsOpen mode lines → IsInLine line → IsInGroup mode (lines ++ line)
  reading_in_group lines line is_open within =
      let apart : space ≢ line_feed = λ is. absurd (omega (arith, is)) in
      let more = All-append (λ b. b ≢ line_feed) line (space ∷ []) within (All-cons (λ b. b ≢ line_feed) space [] apart (All-nil (λ b. b ≢ line_feed))) in
      ap (groups_of mode) (append_assoc lines line (space ∷ [])) ∙ groups_only lines (line ++ space ∷ []) is_open more
      ∙ ap if_any (sym (append_assoc lines line (space ∷ []))) ∙ if_any_more (lines ++ line) space

  module _ (lines line : List ℕ) (is_open : IsOpen mode lines) (ended : IsEndedLine line) where
    pub with_line : (more : List ℕ) → groups_of mode ((lines ++ line) ++ more) ≡ grouped mode lines (pieces_in mode line ++ pieces_of mode more)
    with_line more = ap (groups_of mode) (append_assoc lines line more) ∙ is_open (line ++ more) ∙ ap (grouped mode lines) (pieces_after mode line more ended)

    -- a line of one piece after which the group continues
    pub line_continues : pieces_in mode line ≡ line ∷ [] → continues mode lines line ≡ true → IsOpen mode (lines ++ line)
    line_continues one on = λ more. with_line more ∙ ap (λ p. grouped mode lines (p ++ pieces_of mode more)) one ∙ grouped_step true lines line (pieces_of mode more) on

    -- a line of one piece after which it doesn't
    pub line_ends : pieces_in mode line ≡ line ∷ [] → continues mode lines line ≡ false → AreFirstGroups mode (if_any (lines ++ line)) (lines ++ line) []
    line_ends one off = λ more. with_line more ∙ ap (λ p. grouped mode lines (p ++ pieces_of mode more)) one ∙ grouped_step false lines line (pieces_of mode more) off

concat_if_any : (group : List ℕ) → concat (if_any group) ≡ group
concat_if_any [] = refl
concat_if_any (byte ∷ group) = append-nil (byte ∷ group)

concat_onto : (byte : ℕ) (lines : List (List ℕ)) → concat (onto_first byte lines) ≡ byte ∷ concat lines
concat_onto byte [] = refl
concat_onto byte (line ∷ lines) = refl

concat_line : (b : Bool) (byte : ℕ) (lines : List (List ℕ)) → concat (cond b ((byte ∷ []) ∷ lines) (onto_first byte lines)) ≡ byte ∷ concat lines
concat_line true byte lines = refl
concat_line false byte lines = concat_onto byte lines

concat_lines : (text : List ℕ) → concat (ended_lines text) ≡ text
concat_lines [] = refl
concat_lines (byte ∷ text) = concat_line (byte == line_feed) byte (ended_lines text) ∙ ap (λ t. byte ∷ t) (concat_lines text)

concat_cut : (b : Bool) (start : ℕ) (line : List ℕ) → concat (cond b (take start line ∷ drop start line ∷ []) (line ∷ [])) ≡ line
concat_cut true start line = ap (λ t. take start line ++ t) (append-nil (drop start line)) ∙ take-append-drop start line
concat_cut false start line = append-nil line

concat_pieces : (lines : List (List ℕ)) → concat (flat_map pieces_of_line lines) ≡ concat lines
concat_pieces [] = refl
concat_pieces (line ∷ lines) =
    concat-append (pieces_of_line line) (flat_map pieces_of_line lines)
    ∙ ap (λ t. t ++ concat (flat_map pieces_of_line lines)) (concat_cut (opens line && not (is_indented line)) _ line) ∙ ap (λ t. line ++ t) (concat_pieces lines)

concat_pieces_of : (mode : Mode) (text : List ℕ) → concat (pieces_of mode text) ≡ text
concat_pieces_of Pretty text = concat_lines text
concat_pieces_of Plain text = concat_pieces (ended_lines text) ∙ concat_lines text

concat_step : (b : Bool) (group rest : List ℕ) (one others : List (List ℕ)) → concat one ≡ group ++ rest → concat others ≡ rest
    → concat (cond b one (if_any group ++ others)) ≡ group ++ rest
concat_step true group rest one others is_one is_others = is_one
concat_step false group rest one others is_one is_others =
    concat-append (if_any group) others ∙ ap (λ t. t ++ concat others) (concat_if_any group) ∙ ap (λ t. group ++ t) is_others

concat_grouped : (mode : Mode) (group : List ℕ) (pieces : List (List ℕ)) → concat (grouped mode group pieces) ≡ group ++ concat pieces
unfolding grouped
concat_grouped mode group [] = concat_if_any group ∙ sym (append-nil group)
concat_grouped mode group (piece ∷ pieces) =
    concat_step (continues mode group piece) (group ++ piece) (concat pieces) _ _ (concat_grouped mode (group ++ piece) pieces) (concat_grouped mode [] pieces)
    ∙ append_assoc group piece (concat pieces)

-- the groups of a text, put together, are the text
pub groups_are_text : (mode : Mode) (text : List ℕ) → concat (groups_of mode text) ≡ text
groups_are_text mode text = concat_grouped mode [] (pieces_of mode text) ∙ concat_pieces_of mode text

-- each line of a text has a byte
abbrev AreSome : List (List ℕ) → Type 0
AreSome lines = All (λ line. if_any line ≡ line ∷ []) lines

some_onto : (byte : ℕ) (lines : List (List ℕ)) → AreSome lines → AreSome (onto_first byte lines)
some_onto byte [] some = All-cons (λ line. if_any line ≡ line ∷ []) (byte ∷ []) [] refl (All-nil (λ line. if_any line ≡ line ∷ []))
some_onto byte (line ∷ lines) some = All-cons (λ line. if_any line ≡ line ∷ []) (byte ∷ line) lines refl (All-tail (λ line. if_any line ≡ line ∷ []) line lines some)

some_line : (b : Bool) (byte : ℕ) (lines : List (List ℕ)) → AreSome lines → AreSome (cond b ((byte ∷ []) ∷ lines) (onto_first byte lines))
some_line true byte lines some = All-cons (λ line. if_any line ≡ line ∷ []) (byte ∷ []) lines refl some
some_line false byte lines some = some_onto byte lines some

some_lines : (text : List ℕ) → AreSome (ended_lines text)
some_lines [] = All-nil (λ line. if_any line ≡ line ∷ [])
some_lines (byte ∷ text) = some_line (byte == line_feed) byte (ended_lines text) (some_lines text)

lines_are_groups : (lines : List (List ℕ)) → AreSome lines → grouped Pretty [] lines ≡ lines
unfolding grouped
lines_are_groups [] some = refl
lines_are_groups (line ∷ lines) some =
    ap (λ l. l ++ grouped Pretty [] lines) (All-head (λ line. if_any line ≡ line ∷ []) line lines some)
    ∙ ap (λ l. line ∷ l) (lines_are_groups lines (All-tail (λ line. if_any line ≡ line ∷ []) line lines some))

-- the groups to be made pretty are the lines
pub pretty_groups : (text : List ℕ) → groups_of Pretty text ≡ ended_lines text
pretty_groups text = lines_are_groups (ended_lines text) (some_lines text)

length_onto : (byte : ℕ) (lines : List (List ℕ)) → length lines ≤ length (onto_first byte lines)
length_onto byte [] = omega arith
length_onto byte (line ∷ lines) = omega arith

onto_some : (byte : ℕ) (lines : List (List ℕ)) → 0 < length (onto_first byte lines)
onto_some byte [] = omega arith
onto_some byte (line ∷ lines) = omega arith

has_line : (b : Bool) (byte : ℕ) (lines : List (List ℕ)) → 0 < length (cond b ((byte ∷ []) ∷ lines) (onto_first byte lines))
has_line true byte lines = omega arith
has_line false byte lines = onto_some byte lines

has_lines : (text : List ℕ) (byte : ℕ) → 0 < length (ended_lines (text ++ byte ∷ []))
has_lines [] byte = has_line (byte == line_feed) byte []
has_lines (c ∷ text) byte = has_line (c == line_feed) c (ended_lines (text ++ byte ∷ []))

one_line : (b : Bool) (byte : ℕ) (lines : List (List ℕ)) → 0 < length lines → length (cond b ((byte ∷ []) ∷ lines) (onto_first byte lines)) ≤ 1 → (b ≡ false) × (length lines ≤ 1)
one_line true byte lines some one = absurd (omega (arith, some, one))
one_line false byte lines some one = let more = length_onto byte lines in (refl, omega (arith, more, one))

-- a text that is in one line with a byte after it has no line feed
in_one_line : (text : List ℕ) (byte : ℕ) → length (ended_lines (text ++ byte ∷ [])) ≤ 1 → IsInLine text
in_one_line [] byte one = All-nil (λ b. b ≢ line_feed)
in_one_line (c ∷ text) byte one =
    let inner = one_line (c == line_feed) c (ended_lines (text ++ byte ∷ [])) (has_lines text byte) one in
    All-cons (λ b. b ≢ line_feed) c text (elim (eqb_tells c line_feed) [ inl h ↦ absurd (cc (h.0, inner.0)) | inr h ↦ h.1 ]) (in_one_line text byte inner.1)

-- a text in which no group ends has no line feed, if it is made pretty
pub pretty_rest : (text : List ℕ) → IsInGroup Pretty text → IsInLine text
pretty_rest text within = in_one_line text space (let is = ap length (sym (pretty_groups (text ++ space ∷ [])) ∙ within) in omega (arith, is))
