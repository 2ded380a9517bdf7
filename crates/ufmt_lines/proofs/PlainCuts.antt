-- Where a text may be cut, so that each part is made plain by itself: no pretty text is across the cut.
use Rattle.std.proofs.Common.{◌≡◌, ◌⊎◌, inl, inr, ◌∙◌, refl, ap, sym, subst, ℕ, zero, suc, ◌+◌, ◌≤◌, ◌==◌, Bool, true, false, cond, List, [], ◌∷◌, ◌++◌, append_assoc, append-nil, Option, Some, None, codes, drop, take, get_or, length, length-append, eqb-true, arith}
use Rattle.std.proofs.lemmas.Bool.Decides.{nat_tests}
use Rattle.std.proofs.lemmas.Bool.{cases_Bool, false_from_ne_true, true≢false}
use Rattle.std.specs.Prelude.{⊤}
use Rattle.ufmt.specs.Bytes.{line_feed, opening_brace, space}
use Rattle.ufmt.specs.Document.{Document}
use Rattle.ufmt.specs.Layout.{layout, setting}
use Rattle.ufmt.specs.Leaves.{begins_with, is_ender, is_name_byte, is_opening}
use Rattle.ufmt_core.specs.declared.layout.Mode.TheVariants.{Plain, Pretty}
use Rattle.ufmt_grammar.proofs.ReadingSound.{Found, read_sound}
use Rattle.ufmt_grammar.specs.Reading.{choose, strip}
use Rattle.ufmt_grammar.specs.declared.class.Class.TheVariants.{Debug}
use Rattle.ufmt_lines.proofs.ApartTexts.{converted_after}
use Rattle.ufmt_lines.proofs.BlockTexts.{BlockTexts, block_texts}
use Rattle.ufmt_values.proofs.Blocks.{entries_block}
use Rattle.ufmt_lines.proofs.ComesBack.{pretty_read}
use Rattle.ufmt_lines.proofs.ConvertedSteps.{convert, enough, no_bracket, no_value, value_shorter, value_step, value_whole}
use Rattle.ufmt_values.proofs.FirstBrackets.{Without, first_bracket, one_first, without_drop}
use Rattle.ufmt_values.proofs.FoundValues.{none_unless, value_entries, value_read}
use Rattle.ufmt_lines.proofs.PrettyInside.{first_line, last_same, line_steep, two_fronts}
use Rattle.ufmt_lines.proofs.ReadLines.{field_in_line}
use Rattle.ufmt_lines.proofs.SteepTexts.{BeginsLine, InLine, Steep, steep_after}
use Rattle.ufmt_lines.proofs.ValueStarts.{from_bracket, start_after}
use Rattle.ufmt_lines.specs.OutputLaws.{plain_with}
use Rattle.ufmt_lines.specs.Private.LineLen.{is_line_feed}
use Rattle.ufmt_lines.specs.Private.WholeLines.{EndsLine}
use Rattle.ufmt_lines.specs.Values.{output_of}
use Rattle.ufmt_values.specs.Values.{is_in_struct, value_from}
use Rattle.ufmt_scan.specs.Fronts.{begins_with_field, has_entries}

-- ---- cuts

-- a byte that is no space begins a line
pub record Turns (text : List ℕ) : Type 0 where
  pub before : List ℕ
  pub first : ℕ
  pub after : List ℕ
  pub line : EndsLine before
  pub no_space : (first == space) ≡ false
  pub is : text ≡ before ++ first ∷ after

-- a byte that is no space and closes nothing begins the text, if there is any
abbrev pub BeginsAnew : List ℕ → Type 0
BeginsAnew [] = ⊤
BeginsAnew (c ∷ t) = ((c == space) ≡ false) × (is_ender c ≡ false)

-- no pretty text that begins in the front ends after it, and none begins in both
pub record Parts (front back : List ℕ) : Type 0 where
  -- after each bracket at a line's end, a line begins with another byte than a space, in the front or right after it
  pub closed : (a : List ℕ) (k : ℕ) (b : List ℕ) → front ≡ a ++ k ∷ line_feed ∷ b → is_opening k ≡ true → Turns b ⊎ (EndsLine b × BeginsAnew back)
  -- the front's last byte is no name's, and no space before a brace, and no bracket before a line feed
  pub seam : (f : List ℕ) (c : ℕ) → front ≡ f ++ c ∷ [] → (is_name_byte c ≡ false) × (begins_with opening_brace back ≡ true → (c == space) ≡ false) × (is_opening c ≡ true → InLine back)

-- so it is with what is left of the front
pub parts_after : (p front back : List ℕ) → Parts (p ++ front) back → Parts front back
parts_after p front back h = record {
  closed = λ a k b is. h.closed (p ++ a) k b (ap (λ t. p ++ t) is ∙ sym (append_assoc p a (k ∷ line_feed ∷ b)));
  seam = λ f c is. h.seam (p ++ f) c (ap (λ t. p ++ t) is ∙ sym (append_assoc p f (c ∷ [])));
}

-- ---- the line of a struct's field

-- whether these bytes come first and then a field
abbrev field_after : List ℕ → List ℕ → Bool
field_after p text = choose (strip p text) (begins_with_field Debug) false

-- whether a field comes in a line doesn't depend on what follows the line
feed_kept : (p line u : List ℕ) → Without is_line_feed p → field_after p (line ++ line_feed ∷ u) ≡ field_after p line
feed_kept [] line u none = field_in_line line u
feed_kept (b ∷ p) [] u none = ap (λ s. choose (cond s (strip p u) None) (begins_with_field Debug) false) none.0
feed_kept (b ∷ p) (a ∷ line) u none = elim (cases_Bool (b == a)) [
  | inl is ↦ rw is (feed_kept p line u none.1)
  | inr is ↦ rw is refl
]

-- four spaces don't begin with another byte
no_indentation : (e : ℕ) (t : List ℕ) → (e == space) ≡ false → field_after (codes "    ") (e ∷ t) ≡ false
no_indentation e t other = let apart : (32 == e) ≡ false = grind (arith, nat_tests) in rw apart refl

-- nor does a text that begins anew
anew_no_field : (t : List ℕ) → BeginsAnew t → field_after (codes "    ") t ≡ false
anew_no_field [] h = refl
anew_no_field (c ∷ t) h = no_indentation c t h.0

spaces_in_line : Without is_line_feed (codes "    ")
spaces_in_line = (refl, (refl, (refl, (refl, tt))))

module _ (back : List ℕ) where
  -- so what follows the front doesn't change whether one comes in it
  line_kept : (b : List ℕ) → Turns b ⊎ (EndsLine b × BeginsAnew back) → field_after (codes "    ") (b ++ back) ≡ field_after (codes "    ") b
  line_kept b (inl t) = rw t.is (elim t.line [
    | inl empty ↦ ap (λ u. field_after (codes "    ") ((u ++ t.first ∷ t.after) ++ back)) empty ∙ no_indentation t.first (t.after ++ back) t.no_space
        ∙ sym (no_indentation t.first t.after t.no_space) ∙ ap (λ u. field_after (codes "    ") (u ++ t.first ∷ t.after)) (sym empty)
    | inr ended ↦ ap (λ u. field_after (codes "    ") ((u ++ t.first ∷ t.after) ++ back)) ended.1
        ∙ ap (field_after (codes "    ")) (parts ended.0 (t.first ∷ t.after) back)
        ∙ feed_kept (codes "    ") ended.0 ((t.first ∷ t.after) ++ back) spaces_in_line
        ∙ sym (feed_kept (codes "    ") ended.0 (t.first ∷ t.after) spaces_in_line)
        ∙ ap (field_after (codes "    ")) (sym (append_assoc ended.0 (line_feed ∷ []) (t.first ∷ t.after)))
        ∙ ap (λ u. field_after (codes "    ") (u ++ t.first ∷ t.after)) (sym ended.1)
  ])
    where
      parts : (l a u : List ℕ) → ((l ++ line_feed ∷ []) ++ a) ++ u ≡ l ++ line_feed ∷ (a ++ u)
      parts l a u = simp append_assoc
  line_kept b (inr (inl empty, anew)) = ap (λ u. field_after (codes "    ") (u ++ back)) empty ∙ anew_no_field back anew ∙ ap (field_after (codes "    ")) (sym empty)
  line_kept b (inr (inr ended, anew)) =
      ap (λ u. field_after (codes "    ") (u ++ back)) ended.1
      ∙ ap (field_after (codes "    ")) (append_assoc ended.0 (line_feed ∷ []) back)
      ∙ feed_kept (codes "    ") ended.0 back spaces_in_line
      ∙ sym (feed_kept (codes "    ") ended.0 [] spaces_in_line)
      ∙ ap (field_after (codes "    ")) (sym ended.1)

  -- no struct continues without a line feed
  no_struct : (t : List ℕ) → InLine t → is_in_struct Plain t ≡ false
  no_struct [] line = refl
  no_struct (b ∷ t) line =
      let other : (10 == b) ≡ false = false_from_ne_true (10 == b) (λ is. line t (ap (λ c. c ∷ t) (sym (eqb-true 10 b is)))) in
      rw other refl

  -- what follows the front doesn't make its last bracket a struct's
  struct_kept : (k : ℕ) (r : List ℕ) → is_opening k ≡ true → Parts (k ∷ r) back → is_in_struct Plain (r ++ back) ≡ is_in_struct Plain r
  struct_kept k [] opens h = no_struct back ((h.seam [] k refl).2 opens)
  struct_kept k (b ∷ r) opens h = elim (cases_Bool (10 == b)) [
    | inl is ↦ rw is (line_kept r (h.closed [] k r (ap (λ c. k ∷ c ∷ r) (sym (eqb-true 10 b is))) opens))
    | inr is ↦ rw is refl
  ]

  -- ---- pretty texts

  -- each line of a pretty text's rest begins so
  line_begins : (text c t : List ℕ) → Steep (line_feed ∷ text) → text ≡ c ++ t → EndsLine c → BeginsLine t
  line_begins text c t steep is (inl empty) = subst BeginsLine (is ∙ ap (λ u. u ++ t) empty) (steep.1 refl)
  line_begins text c t steep is (inr ended) =
      (steep_after ended.0 (line_feed ∷ t) (subst Steep (is ∙ ap (λ u. u ++ t) ended.1 ∙ append_assoc ended.0 (line_feed ∷ []) t) steep.2)).1 refl

  module _ {d : Document} (b : BlockTexts d) (head : List ℕ) (k : ℕ) (none : Without is_opening head) (opens : is_opening k ≡ true) (e : ℕ) (x u : List ℕ) (next : back ≡ e ∷ (x ++ u)) where
    -- what follows the bracket of a pretty text that ends after the front
    from_first : (r : List ℕ) → layout (setting Pretty 0) d ≡ (head ++ k ∷ r) ++ e ∷ x → first_line b ≡ r ++ e ∷ x
    from_first r is = (one_first b.head head b.bracket k (first_line b) (r ++ e ∷ x) b.none none b.opens opens (sym b.pretty ∙ is ∙ append_assoc head (k ∷ r) (e ∷ x))).2

    -- no pretty text ends after the front
    ends_inside : (r : List ℕ) → Parts (k ∷ r) back → layout (setting Pretty 0) d ≡ (head ++ k ∷ r) ++ e ∷ x → ⊥
    ends_inside [] h is = (h.seam [] k refl).2 opens (x ++ u) (next ∙ ap (λ c. c ∷ (x ++ u)) (sym (ap (λ l. get_or l 0 0) (from_first [] is))))
    ends_inside (f ∷ r) h is =
        let whole = from_first (f ∷ r) is in
        let head_is : line_feed ≡ f = ap (λ l. get_or l 0 0) whole in
        let rest : line_feed ∷ drop 1 (first_line b) ≡ line_feed ∷ (r ++ e ∷ x) = ap (λ t. line_feed ∷ drop 1 t) whole in
        elim (h.closed [] k r (ap (λ c. k ∷ c ∷ r) (sym head_is)) opens) [
          | inl t ↦ turned r t rest
          | inr t ↦ anew r t.0 (begun back t.1 next) rest
        ]
      where
        space_no : (c : ℕ) → (c == space) ≡ false → c ≡ space → ⊥
        space_no c other same = true≢false (sym (ap (λ a. a == space) same) ∙ other)

        no_more : (d : List ℕ) → d ++ e ∷ x ≡ [] → ⊥
        no_more [] empty = absurd (cc)
        no_more (a ∷ d) empty = absurd (cc)

        turned : (r : List ℕ) → Turns r → line_feed ∷ drop 1 (first_line b) ≡ line_feed ∷ (r ++ e ∷ x) → ⊥
        turned r t whole = elim (line_begins (drop 1 (first_line b)) t.before (t.first ∷ (t.after ++ e ∷ x)) (line_steep b)
            (ap (drop 1) whole ∙ ap (λ v. v ++ e ∷ x) t.is ∙ append_assoc t.before (t.first ∷ t.after) (e ∷ x)) t.line) [
              | inl same ↦ space_no t.first t.no_space same
              | inr empty ↦ no_more t.after empty
            ]

        anew : (begun : List ℕ) → EndsLine begun → ((e == space) ≡ false) × (is_ender e ≡ false) → line_feed ∷ drop 1 (first_line b) ≡ line_feed ∷ (begun ++ e ∷ x) → ⊥
        anew begun line other whole = elim (line_begins (drop 1 (first_line b)) begun (e ∷ x) (line_steep b) (ap (drop 1) whole) line) [
          | inl same ↦ space_no e other.0 same
          | inr empty ↦
              let end = b.ends Pretty in
              let same = last_same (head ++ k ∷ f ∷ r) end.front e end.last (ap (λ v. (head ++ k ∷ f ∷ r) ++ e ∷ v) (sym empty) ∙ sym is ∙ end.is) in
              true≢false (sym end.ender ∙ ap is_ender (sym same) ∙ other.1)
        ]

        begun : (t : List ℕ) → BeginsAnew t → t ≡ e ∷ (x ++ u) → ((e == space) ≡ false) × (is_ender e ≡ false)
        begun [] h same = absurd (cc)
        begun (c ∷ t) h same = subst (λ c. ((c == space) ≡ false) × (is_ender c ≡ false)) (ap (λ l. get_or l 0 0) same) h

  module _ (z : List ℕ) (k : ℕ) (r : List ℕ) (none : Without is_opening z) (opens : is_opening k ≡ true) (h : Parts (k ∷ r) back) where
    abbrev from : List ℕ
    from = from_bracket Plain z k r

    -- a value in the front is found in the whole
    value_kept : (d : Document) (x : List ℕ) → value_from Plain from ≡ Some (d, x) → value_from Plain (from ++ back) ≡ Some (d, x ++ back)
    value_kept d x is =
        let found = read_sound Debug 255 (setting Pretty 0) from d x (value_read Plain from d x is) in
        ap (λ t. value_from Plain (t ++ back)) found.whole ∙ ap (value_from Plain) (append_assoc (layout (setting Pretty 0) d) x back)
        ∙ pretty_read from x (setting Pretty 0) d found (value_entries Plain from d x is) (x ++ back)

    -- and if none is found in the front, none is in the whole
    none_kept : value_from Plain from ≡ None → value_from Plain (from ++ back) ≡ None
    none_kept is = none_unless (value_from Plain (from ++ back)) (λ x e.
        let found = read_sound Debug 255 (setting Pretty 0) (from ++ back) x.0 x.1 (value_read Plain (from ++ back) x.0 x.1 e) in
        at x.0 x.1 found (value_entries Plain (from ++ back) x.0 x.1 e) (two_fronts from back (layout (setting Pretty 0) x.0) x.1 found.whole))
      where
        shorter : (d : Document) (u x : List ℕ) → Found Debug (setting Pretty 0) 255 (from ++ back) d u → has_entries d ≡ true → from ≡ layout (setting Pretty 0) d ++ x → ⊥
        shorter d u x found entries same =
            let there = ap (value_from Plain) same ∙ pretty_read (from ++ back) u (setting Pretty 0) d found entries x in absurd (cc (there, is))

        at : (d : Document) (u : List ℕ) → Found Debug (setting Pretty 0) 255 (from ++ back) d u → has_entries d ≡ true
            → ((x : List ℕ) × (from ≡ layout (setting Pretty 0) d ++ x) × (u ≡ x ++ back)) ⊎ ((x : List ℕ) × (layout (setting Pretty 0) d ≡ from ++ x) × (back ≡ x ++ u)) → ⊥
        at d u found entries (inl c) = shorter d u c.0 found entries c.1
        at d u found entries (inr ([], same, rest)) = shorter d u [] found entries (sym (append-nil from) ∙ sym same ∙ sym (append-nil (layout (setting Pretty 0) d)))
        at d u found entries (inr (e ∷ x, same, rest)) =
            ends_inside (block_texts d found.tokens (entries_block d entries)) (drop (start_after k z (is_in_struct Plain r)) z) k (without_drop is_opening _ z none) opens e x u rest r h same

    -- what begins before a bracket of the front does so in the whole
    from_more : from_bracket Plain z k (r ++ back) ≡ from ++ back
    from_more =
        ap (λ b. drop (start_after k z b) z ++ k ∷ (r ++ back)) (struct_kept k r opens h)
        ∙ sym (append_assoc (drop (start_after k z (is_in_struct Plain r)) z) (k ∷ r) back)

-- ---- each part by itself

-- the last byte of a text
last_part : (c : ℕ) (t : List ℕ) → (f : List ℕ) × (x : ℕ) × (c ∷ t ≡ f ++ x ∷ [])
last_part c [] = ([], c, refl)
last_part c (b ∷ t) = let inner = last_part b t in (c ∷ inner.0, inner.1, ap (λ u. c ∷ u) inner.2)

module _ (limit : ℕ) (back : List ℕ) where
  abbrev IsCut : List ℕ → Type 0
  IsCut front = (m n p : ℕ) → length (front ++ back) ≤ m → length front ≤ n → length back ≤ p
      → convert (plain_with limit) m (front ++ back) ≡ convert (plain_with limit) n front ++ convert (plain_with limit) p back

  abbrev AllCut : ℕ → Type 0
  AllCut most = (front : List ℕ) → length front ≤ most → Parts front back → IsCut front

  -- a front without a bracket
  without_bracket : (front : List ℕ) → Without is_opening front → Parts front back → IsCut front
  without_bracket [] none h = λ m n p long short last.
      enough (plain_with limit) m p back long last ∙ ap (λ t. t ++ convert (plain_with limit) p back) (sym (no_bracket (plain_with limit) n [] tt))
  without_bracket (c ∷ t) none h = λ m n p long short last.
      let end = last_part c t in
      let seam = h.seam end.0 end.1 end.2 in
      let parts = length-append (c ∷ t) back in
      ap (λ u. convert (plain_with limit) m (u ++ back)) end.2
      ∙ converted_after (plain_with limit) end.0 end.1 (subst (Without is_opening) end.2 none) seam.0 m back seam.1
      ∙ ap (λ u. u ++ convert (plain_with limit) m back) (sym end.2)
      ∙ ap (λ u. (c ∷ t) ++ u) (enough (plain_with limit) m p back (omega (arith, long, parts)) last)
      ∙ ap (λ u. u ++ convert (plain_with limit) p back) (sym (no_bracket (plain_with limit) n (c ∷ t) none))

  module _ (most : ℕ) (all : AllCut most) (z : List ℕ) (k : ℕ) (r : List ℕ) (none : Without is_opening z) (opens : is_opening k ≡ true) (within : length (z ++ k ∷ r) ≤ suc most) (h : Parts (z ++ k ∷ r) back) where
    at : Parts (k ∷ r) back
    at = parts_after z (k ∷ r) back h

    size : length (z ++ k ∷ r) ≡ length z + suc (length r)
    size = length-append z (k ∷ r)

    longer : length (z ++ k ∷ (r ++ back)) ≡ length z + suc (length (r ++ back))
    longer = length-append z (k ∷ (r ++ back))

    -- at a bracket of the front, both are converted in the same way
    at_bracket : (m n p : ℕ) → length (z ++ k ∷ (r ++ back)) ≤ suc m → length (z ++ k ∷ r) ≤ suc n → length back ≤ p → (o : Option (Document × List ℕ)) → value_from Plain (from_bracket Plain z k r) ≡ o
        → convert (plain_with limit) (suc m) (z ++ k ∷ (r ++ back)) ≡ convert (plain_with limit) (suc n) (z ++ k ∷ r) ++ convert (plain_with limit) p back
    at_bracket m n p long short last None is =
        let whole = size in
        let more = longer in
        let rest : Parts r back = parts_after (z ++ k ∷ []) r back (subst (λ t. Parts t back) (sym (append_assoc z (k ∷ []) r)) h) in
        no_value (plain_with limit) m z k (r ++ back) none opens (ap (value_from Plain) (from_more back z k r none opens at) ∙ none_kept back z k r none opens at is)
        ∙ ap (λ t. z ++ k ∷ t) (all r (omega (arith, whole, within)) rest m n p (omega (arith, more, long)) (omega (arith, whole, short)) last)
        ∙ sym (append_assoc z (k ∷ convert (plain_with limit) n r) (convert (plain_with limit) p back))
        ∙ ap (λ t. t ++ convert (plain_with limit) p back) (sym (no_value (plain_with limit) n z k r none opens is))
    at_bracket m n p long short last (Some x) is =
        let whole = size in
        let more = longer in
        let s = start_after k z (is_in_struct Plain r) in
        let v = layout (setting Plain 0) x.0 in
        let y = take s z in
        let left : Parts x.1 back = parts_after (layout (setting Pretty 0) x.0) x.1 back (parts_after y (layout (setting Pretty 0) x.0 ++ x.1) back (subst (λ t. Parts t back) (value_whole (plain_with limit) n z k r none opens x.0 x.1 is) h)) in
        let fewer = value_shorter (plain_with limit) z k r x.0 x.1 is in
        let left_size = length-append x.1 back in
        let rest_size = length-append r back in
        value_step (plain_with limit) m z k (r ++ back) none opens x.0 (x.1 ++ back) (ap (value_from Plain) (from_more back z k r none opens at) ∙ value_kept back z k r none opens at x.0 x.1 is)
        ∙ ap (λ b. take (start_after k z b) z ++ (v ++ convert (plain_with limit) m (x.1 ++ back))) (struct_kept back k r opens at)
        ∙ ap (λ t. y ++ (v ++ t)) (all x.1 (omega (arith, fewer, within)) left m n p (omega (arith, more, long, left_size, rest_size, whole, fewer)) (omega (arith, short, fewer)) last)
        ∙ parts y v (convert (plain_with limit) n x.1) (convert (plain_with limit) p back)
        ∙ ap (λ t. t ++ convert (plain_with limit) p back) (sym (value_step (plain_with limit) n z k r none opens x.0 x.1 is))
      where
        parts : (a b c e : List ℕ) → a ++ (b ++ (c ++ e)) ≡ (a ++ (b ++ c)) ++ e
        parts a b c e = simp append_assoc

    -- a front with one
    with_bracket : IsCut (z ++ k ∷ r)
    with_bracket zero n p long short last = let whole = length-append (z ++ k ∷ r) back in let more = size in absurd (omega (arith, whole, more, long))
    with_bracket (suc m) zero p long short last = let whole = size in absurd (omega (arith, whole, short))
    with_bracket (suc m) (suc n) p long short last =
        ap (convert (plain_with limit) (suc m)) (append_assoc z (k ∷ r) back) ∙ at_bracket m n p (subst (λ t. length t ≤ suc m) (append_assoc z (k ∷ r) back) long) short last _ refl

  -- each front
  all_cut : (most : ℕ) → AllCut most
  all_cut zero [] within h = without_bracket [] tt h
  all_cut zero (c ∷ front) within h = absurd (omega (arith, within))
  all_cut (suc most) front within h = elim (first_bracket front) [
    | inl none ↦ without_bracket front none h
    | inr f ↦ subst IsCut (sym f.is)
        (with_bracket most (all_cut most) f.before f.bracket f.after f.none f.opens (subst (λ t. length t ≤ suc most) f.is within) (subst (λ t. Parts t back) f.is h))
  ]

  -- the output for both parts
  pub plain_cut : (front : List ℕ) → Parts front back → output_of (plain_with limit) (front ++ back) ≡ output_of (plain_with limit) front ++ output_of (plain_with limit) back
  plain_cut front h = all_cut (length front) front (omega arith) h (length (front ++ back)) (length front) (length back) (omega arith) (omega arith) (omega arith)
