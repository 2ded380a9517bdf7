-- No pretty text begins inside of a pretty text; so what is pretty in a text that was made pretty, and begins before its values, was there before.
use Rattle.std.proofs.Common.{◌≡◌, ◌≢◌, ◌⊎◌, inl, inr, ◌∙◌, refl, ap, sym, subst, ℕ, zero, suc, ◌==◌, Bool, true, false, List, [], ◌∷◌, ◌++◌, append_assoc, append-nil, Option, Some, None, drop, take, length, get_or}
use Rattle.std.proofs.lemmas.Bool.{true≢false}
use Rattle.ufmt.specs.Bytes.{line_feed, space}
use Rattle.ufmt.specs.Document.{Document}
use Rattle.ufmt.specs.Layout.{indentation, layout, setting, trail}
use Rattle.ufmt.specs.Leaves.{is_ender, is_opening}
use Rattle.ufmt_core.specs.declared.layout.Mode.TheVariants.{Plain, Pretty}
use Rattle.ufmt_lines.proofs.BlockTexts.{BlockTexts}
use Rattle.ufmt_lines.proofs.ConvertedSteps.{convert, no_bracket, no_value, value_step, value_whole}
use Rattle.ufmt_lines.proofs.FieldsAhead.{struct_by_front}
use Rattle.ufmt_values.proofs.FirstBrackets.{FirstBracket, Without, first_bracket, front_before, one_first, with_more, without_append}
use Rattle.ufmt_values.proofs.NameBrackets.{opening_no_ender}
use Rattle.ufmt_lines.proofs.SteepTexts.{Steep, steep_after, steep_feed, steep_indentation}
use Rattle.ufmt_lines.proofs.StillTexts.{block_of}
use Rattle.ufmt_lines.proofs.ValueStarts.{from_bracket, start_after}
use Rattle.ufmt_lines.specs.OutputLaws.{pretty_with}
use Rattle.ufmt_lines.specs.Values.{convert_from, stays, value_text}
use Rattle.ufmt_values.specs.Values.{is_in_struct, value_from}

-- ---- lists

-- one of two fronts is the other and more
pub two_fronts : (a b c e : List ℕ) → a ++ b ≡ c ++ e → ((x : List ℕ) × (a ≡ c ++ x) × (e ≡ x ++ b)) ⊎ ((x : List ℕ) × (c ≡ a ++ x) × (b ≡ x ++ e))
two_fronts [] b c e is = inr (c, refl, is)
two_fronts (j ∷ a) b [] e is = inl (j ∷ a, refl, sym is)
two_fronts (j ∷ a) b (k ∷ c) e is =
    let head : j ≡ k = ap (λ l. get_or l 0 0) is in
    elim (two_fronts a b c e (ap (drop 1) is)) [
      | inl h ↦ inl (h.0, ap (λ b. b ∷ a) head ∙ ap (λ t. k ∷ t) h.1, h.2)
      | inr h ↦ inr (h.0, ap (λ b. b ∷ c) (sym head) ∙ ap (λ t. j ∷ t) h.1, h.2)
    ]

no_end : (c x : List ℕ) → c ++ x ≡ [] → x ≡ []
no_end [] x is = is
no_end (b ∷ c) x is = absurd (cc)

-- two texts that are equal end alike
pub last_same : (a f : List ℕ) (e l : ℕ) → a ++ e ∷ [] ≡ f ++ l ∷ [] → e ≡ l
last_same [] [] e l is = ap (λ t. get_or t 0 0) is
last_same [] (b ∷ []) e l is = absurd (cc)
last_same [] (b ∷ c ∷ f) e l is = absurd (cc)
last_same (b ∷ []) [] e l is = absurd (cc)
last_same (b ∷ c ∷ a) [] e l is = absurd (cc)
last_same (b ∷ a) (c ∷ f) e l is = last_same a f e l (ap (drop 1) is)

-- a part at the end that isn't empty ends alike
pub last_of : (c x f : List ℕ) (l : ℕ) → c ++ x ≡ f ++ l ∷ [] → x ≢ [] → (y : List ℕ) × (x ≡ y ++ l ∷ [])
last_of [] x f l is some = (f, is)
last_of (b ∷ c) x [] l is some = absurd (some (no_end c x (ap (drop 1) is)))
last_of (b ∷ c) x (a ∷ f) l is some = last_of c x f l (ap (drop 1) is) some

-- ---- no pretty text inside

-- what follows the bracket of a pretty block
abbrev pub first_line : {d : Document} → BlockTexts d → List ℕ
first_line b = line_feed ∷ (indentation 1 ++ (b.text ++ (trail Pretty ++ b.left)))

-- it is steep
pub line_steep : {d : Document} (b : BlockTexts d) → Steep (first_line b)
line_steep b = steep_feed _ (inl refl) (steep_indentation 1 _ b.steep)

-- after a bracket, a line feed and four spaces an entry comes, and no space
not_steep : (k e : ℕ) (t : List ℕ) → is_opening k ≡ true → (e == space) ≡ false → Steep (k ∷ line_feed ∷ (indentation 1 ++ e ∷ t)) → ⊥
not_steep k e t opens other steep =
    let deep = steep.0 opens (indentation 1 ++ e ∷ t) refl in
    let same : e ≡ space = ap (λ l. get_or l 4 0) deep.1 in
    true≢false (sym (ap (λ b. b == space) same) ∙ other)

module _ {d e : Document} (b : BlockTexts d) (inner : BlockTexts e) where
  -- what a pretty text begins with, up to the first byte of its first entry
  abbrev opening : List ℕ
  opening = inner.head ++ inner.bracket ∷ line_feed ∷ (indentation 1 ++ inner.begins.first ∷ [])

  -- a pretty text is that and more
  after_opening : (x : List ℕ) → layout (setting Pretty 0) e ++ x ≡ opening ++ (inner.begins.tail ++ ((trail Pretty ++ inner.left) ++ x))
  after_opening x =
      ap (λ t. t ++ x) inner.pretty ∙ ap (λ t. (inner.head ++ inner.bracket ∷ line_feed ∷ (indentation 1 ++ (t ++ (trail Pretty ++ inner.left)))) ++ x) inner.begins.is
      ∙ parts inner.head inner.bracket inner.begins.first inner.begins.tail (trail Pretty ++ inner.left) x
    where
      parts : (h : List ℕ) (k f : ℕ) (t l x : List ℕ) → (h ++ k ∷ line_feed ∷ (indentation 1 ++ ((f ∷ t) ++ l))) ++ x ≡ (h ++ k ∷ line_feed ∷ (indentation 1 ++ f ∷ [])) ++ (t ++ (l ++ x))
      parts h k f t l x = simp append_assoc

  -- nothing in it is an ender
  no_ender_in : Without is_ender opening
  no_ender_in = without_append is_ender inner.head _ inner.no_ender (opening_no_ender inner.bracket inner.opens, (refl, (refl, (refl, (refl, (refl, (inner.begins.solid.no_ender, tt)))))))

  -- a pretty text doesn't begin after the bracket of another, and before its end
  pub not_inside : (c x left rest : List ℕ) → FirstBracket c → x ≢ [] → layout (setting Pretty 0) d ≡ c ++ x → layout (setting Pretty 0) e ++ left ≡ x ++ rest → ⊥
  not_inside c x left rest first some whole begins =
      let end = b.ends Pretty in
      let last = last_of c x end.front end.last (sym whole ∙ end.is) some in
      let inside : opening ++ (inner.begins.tail ++ ((trail Pretty ++ inner.left) ++ left)) ≡ last.0 ++ end.last ∷ rest = sym (after_opening left) ∙ begins ∙ ap (λ t. t ++ rest) last.1 ∙ append_assoc last.0 (end.last ∷ []) rest in
      let before = front_before is_ender opening _ last.0 end.last rest no_ender_in end.ender inside in
      let cut = one_first b.head first.before b.bracket first.bracket (first_line b) (first.after ++ x) b.none first.none b.opens first.opens
      (sym b.pretty ∙ whole ∙ ap (λ t. t ++ x) first.is ∙ append_assoc first.before (first.bracket ∷ first.after) x) in
      let steep : Steep x = steep_after first.after x (subst Steep cut.2 (line_steep b)) in
      let tail = before.0 ++ end.last ∷ [] in
      let shown : x ≡ inner.head ++ (inner.bracket ∷ line_feed ∷ (indentation 1 ++ inner.begins.first ∷ tail)) = last.1 ∙ ap (λ t. t ++ end.last ∷ []) before.1 ∙ parts inner.head inner.bracket inner.begins.first before.0 (end.last ∷ []) in
      not_steep inner.bracket inner.begins.first tail inner.opens inner.begins.solid.no_space (steep_after inner.head _ (subst Steep shown steep))
    where
      parts : (h : List ℕ) (k f : ℕ) (t l : List ℕ) → ((h ++ k ∷ line_feed ∷ (indentation 1 ++ f ∷ [])) ++ t) ++ l ≡ h ++ (k ∷ line_feed ∷ (indentation 1 ++ f ∷ (t ++ l)))
      parts h k f t l = simp append_assoc

-- ---- texts that were made pretty

-- both have this bracket after the same bytes
pub record Alike (a b : List ℕ) : Type 0 where
  pub before : List ℕ
  pub bracket : ℕ
  pub opens : is_opening bracket ≡ true
  pub first : List ℕ
  pub second : List ℕ
  pub first_is : a ≡ before ++ bracket ∷ first
  pub second_is : b ≡ before ++ bracket ∷ second

head_assoc : (y h : List ℕ) (k : ℕ) (t x : List ℕ) → y ++ ((h ++ k ∷ t) ++ x) ≡ (y ++ h) ++ k ∷ (t ++ x)
head_assoc y h k t x = simp append_assoc

bracket_assoc : (w z : List ℕ) (k : ℕ) (t : List ℕ) → (w ++ (z ++ k ∷ [])) ++ t ≡ w ++ (z ++ k ∷ t)
bracket_assoc w z k t = simp append_assoc

value_assoc : (w y v t : List ℕ) → (w ++ (y ++ v)) ++ t ≡ w ++ (y ++ (v ++ t))
value_assoc w y v t = simp append_assoc

module _ (limit : ℕ) where
  module _ (n : ℕ) (z : List ℕ) (k : ℕ) (r : List ℕ) (none : Without is_opening z) (opens : is_opening k ≡ true) where
    -- with a bracket, both have it after the same bytes
    alike_at : (o : Option (Document × List ℕ)) → value_from Pretty (from_bracket Pretty z k r) ≡ o → Alike (convert (pretty_with limit) (suc n) (z ++ k ∷ r)) (z ++ k ∷ r)
    alike_at None is = record { before = z; bracket = k; opens = opens; first = convert (pretty_with limit) n r; second = r; first_is = no_value (pretty_with limit) n z k r none opens is; second_is = refl }
    alike_at (Some x) is =
        let b = block_of (pretty_with limit) z k r x.0 x.1 is in
        let y = take (start_after k z (is_in_struct Pretty r)) z in
        let after = convert (pretty_with limit) n x.1 in
        let shown = text_of b (stays (pretty_with limit) (z ++ k ∷ r) 0 (length z) x.0 (length (layout (setting Plain 0) x.0))) in
        record {
          before = y ++ b.head;
          bracket = b.bracket;
          opens = b.opens;
          first = shown.0 ++ after;
          second = b.plain_tail ++ x.1;
          first_is = value_step (pretty_with limit) n z k r none opens x.0 x.1 is ∙ ap (λ t. y ++ (t ++ after)) shown.1 ∙ head_assoc y b.head b.bracket shown.0 after;
          second_is = value_whole (pretty_with limit) n z k r none opens x.0 x.1 is ∙ ap (λ t. y ++ (t ++ x.1)) b.plain ∙ head_assoc y b.head b.bracket b.plain_tail x.1;
        }
      where
        text_of : {d : Document} (b : BlockTexts d) (s : Bool) → (t : List ℕ) × (value_text s Pretty (layout (setting Plain 0) d) d ≡ b.head ++ b.bracket ∷ t)
        text_of b true = (b.plain_tail, b.plain)
        text_of b false = (first_line b, b.pretty)

  -- up to a bracket, a text that is made pretty stays
  pub alike : (n : ℕ) (text : List ℕ) → (convert (pretty_with limit) n text ≡ text) ⊎ Alike (convert (pretty_with limit) n text) text
  unfolding convert_from
  alike zero text = inl refl
  alike (suc n) text = elim (first_bracket text) [
    | inl none ↦ inl (no_bracket (pretty_with limit) (suc n) text none)
    | inr f ↦ inr (subst (λ t. Alike (convert (pretty_with limit) (suc n) t) t) (sym f.is) (alike_at n f.before f.bracket f.after f.none f.opens _ refl))
  ]

  -- so whether the line of a struct's field comes before it stays
  pub same_struct : (w : List ℕ) (n : ℕ) (text : List ℕ) → is_in_struct Plain (w ++ convert (pretty_with limit) n text) ≡ is_in_struct Plain (w ++ text)
  same_struct w n text = elim (alike n text) [
    | inl same ↦ ap (λ t. is_in_struct Plain (w ++ t)) same
    | inr h ↦ ap (λ t. is_in_struct Plain (w ++ t)) h.first_is
        ∙ ap (is_in_struct Plain) (sym (append_assoc w h.before (h.bracket ∷ h.first)))
        ∙ struct_by_front (w ++ h.before) h.bracket h.first h.second h.opens
        ∙ ap (is_in_struct Plain) (append_assoc w h.before (h.bracket ∷ h.second))
        ∙ ap (λ t. is_in_struct Plain (w ++ t)) (sym h.second_is)
  ]

  -- ---- what is pretty there was pretty before

  module _ {d : Document} (b : BlockTexts d) where
    -- a pretty text is at the front
    abbrev pub IsAtFront : List ℕ → Type 0
    IsAtFront text = (rest : List ℕ) × (text ≡ layout (setting Pretty 0) d ++ rest)

    -- it ends before a value that was made pretty, since that doesn't begin inside
    ends_before : {e : Document} → BlockTexts e → (w y left rest plain : List ℕ) → FirstBracket w → w ++ (y ++ (layout (setting Pretty 0) e ++ left)) ≡ layout (setting Pretty 0) d ++ rest
        → IsAtFront (w ++ (y ++ plain))
    ends_before {e} inner w y left rest plain first is = elim (two_fronts (layout (setting Pretty 0) d) rest (w ++ y) (layout (setting Pretty 0) e ++ left) (sym is ∙ sym (append_assoc w y _))) [
      | inl h ↦ at h.0 h.1 h.2
      | inr h ↦ whole h.0 h.1
    ]
      where
        whole : (x : List ℕ) → w ++ y ≡ layout (setting Pretty 0) d ++ x → IsAtFront (w ++ (y ++ plain))
        whole x k = (x ++ plain, sym (append_assoc w y plain) ∙ ap (λ t. t ++ plain) k ∙ append_assoc (layout (setting Pretty 0) d) x plain)

        at : (x : List ℕ) → layout (setting Pretty 0) d ≡ (w ++ y) ++ x → layout (setting Pretty 0) e ++ left ≡ x ++ rest → IsAtFront (w ++ (y ++ plain))
        at [] k l = whole [] (sym (append-nil (w ++ y)) ∙ sym k ∙ sym (append-nil (layout (setting Pretty 0) d)))
        at (c ∷ x) k l = absurd (not_inside b inner (w ++ y) (c ∷ x) left rest (with_more first y) (λ empty. absurd (cc)) k l)

    -- what is said of a text that is made pretty with so many brackets, after bytes with a bracket
    abbrev WasThere : ℕ → Type 0
    WasThere n = (w text rest : List ℕ) → FirstBracket w → w ++ convert (pretty_with limit) n text ≡ layout (setting Pretty 0) d ++ rest → IsAtFront (w ++ text)

    module _ (n : ℕ) (more : WasThere n) (z : List ℕ) (k : ℕ) (r : List ℕ) (none : Without is_opening z) (opens : is_opening k ≡ true) (w rest : List ℕ) (first : FirstBracket w) where
      -- at a value before which the pretty text has a bracket
      at_value : (e : Document) (left y : List ℕ) → BlockTexts e → (s : Bool)
          → w ++ (y ++ (value_text s Pretty (layout (setting Plain 0) e) e ++ convert (pretty_with limit) n left)) ≡ layout (setting Pretty 0) d ++ rest → IsAtFront (w ++ (y ++ (layout (setting Plain 0) e ++ left)))
      at_value e left y inner true is =
          let v = layout (setting Plain 0) e in
          subst IsAtFront (value_assoc w y v left) (more (w ++ (y ++ v)) left rest (with_more first (y ++ v)) (value_assoc w y v (convert (pretty_with limit) n left) ∙ is))
      at_value e left y inner false is = ends_before inner w y (convert (pretty_with limit) n left) rest (layout (setting Plain 0) e ++ left) first is

      -- at any bracket
      at_bracket : w ++ convert (pretty_with limit) (suc n) (z ++ k ∷ r) ≡ layout (setting Pretty 0) d ++ rest
          → (o : Option (Document × List ℕ)) → value_from Pretty (from_bracket Pretty z k r) ≡ o → IsAtFront (w ++ (z ++ k ∷ r))
      at_bracket is None found =
          subst IsAtFront (bracket_assoc w z k r)
          (more (w ++ (z ++ k ∷ [])) r rest (with_more first (z ++ k ∷ []))
          (bracket_assoc w z k (convert (pretty_with limit) n r) ∙ ap (λ t. w ++ t) (sym (no_value (pretty_with limit) n z k r none opens found)) ∙ is))
      at_bracket is (Some x) found =
          subst (λ t. IsAtFront (w ++ t)) (sym (value_whole (pretty_with limit) n z k r none opens x.0 x.1 found))
          (at_value x.0 x.1 (take (start_after k z (is_in_struct Pretty r)) z) (block_of (pretty_with limit) z k r x.0 x.1 found)
          (stays (pretty_with limit) (z ++ k ∷ r) 0 (length z) x.0 (length (layout (setting Plain 0) x.0)))
          (ap (λ t. w ++ t) (sym (value_step (pretty_with limit) n z k r none opens x.0 x.1 found)) ∙ is))

    -- if a pretty text is at the front then, it is without that too
    pub was_there : (n : ℕ) → WasThere n
    unfolding convert_from
    was_there zero = λ w text rest first is. (rest, is)
    was_there (suc n) = λ w text rest first is. elim (first_bracket text) [
      | inl none ↦ (rest, ap (λ t. w ++ t) (sym (no_bracket (pretty_with limit) (suc n) text none)) ∙ is)
      | inr f ↦
          subst (λ t. IsAtFront (w ++ t)) (sym f.is)
          (at_bracket n (was_there n) f.before f.bracket f.after f.none f.opens w rest first
          (subst (λ t. w ++ convert (pretty_with limit) (suc n) t ≡ layout (setting Pretty 0) d ++ rest) f.is is) (value_from Pretty (from_bracket Pretty f.before f.bracket f.after)) refl)
    ]
