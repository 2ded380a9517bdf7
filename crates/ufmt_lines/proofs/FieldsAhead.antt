-- Whether a field is at the front of a text: what follows the first bracket doesn't count.
use Rattle.std.proofs.Common.{◌≡◌, inl, inr, ◌∙◌, refl, ap, sym, subst, ℕ, ◌==◌, ◌&&◌, Bool, true, false, cond, List, [], ◌∷◌, ◌++◌, Option, Some, None, codes, append_assoc, drop, is_some, eqb-true}
use Rattle.std.proofs.lemmas.Bool.{cases_Bool, false_from_ne_true}
use Rattle.std.proofs.lemmas.Option.{cond_some}
use Rattle.ufmt.specs.Bytes.{closing_brace, colon, space}
use Rattle.ufmt.specs.Document.{Document}
use Rattle.ufmt.specs.Layout.{layout}
use Rattle.ufmt.specs.Leaves.{IsDebugFollower, IsDebugLeaf, IsDebugWord, begins_with, has_name_bytes, is_name_byte, is_opening, Place, beginning, outside, place_outside}
use Rattle.ufmt.specs.Token.{IsBuilt}
use Rattle.ufmt_core.specs.declared.layout.Mode.TheVariants.{Plain}
use Rattle.ufmt_core.specs.declared.layout.Setting.{Setting}
use Rattle.ufmt_grammar.proofs.ClassLeaves.{follower_ends_front, read_name_complete, read_name_sound, text_fronts}
use Rattle.ufmt_grammar.proofs.DebugLeaves.{both, follower_stops_leaf, follower_unspaced}
use Rattle.ufmt_grammar.proofs.NoStarts.{name_begins, name_step}
use Rattle.ufmt_grammar.proofs.Parsing.{strip_found}
use Rattle.ufmt_grammar.specs.Reading.{after_front, after_leaf, choose, front_of, if_name, is_name, is_whole, leaf_from, read_name, strip}
use Rattle.ufmt_grammar.specs.declared.class.Class.TheVariants.{Debug}
use Rattle.ufmt_values.proofs.FirstBrackets.{Without, front_before, passes_not, without_append}
use Rattle.ufmt_lines.proofs.FoundValues.{some_from}
use Rattle.ufmt_lines.proofs.Heads.{leaf_or_head}
use Rattle.ufmt_values.proofs.FoundValues.{cases_option}
use Rattle.ufmt_values.proofs.NameBrackets.{name_without_openings}
use Rattle.ufmt_values.specs.Values.{is_in_struct}
use Rattle.ufmt_scan.specs.Fronts.{begins_with_field}

-- a name, a colon and a space, and no closing brace after them
pub record Field (t : List ℕ) : Type 0 where
  pub name : List ℕ
  pub rest : List ℕ
  pub named : IsDebugWord name
  pub is : t ≡ name ++ colon ∷ space ∷ rest
  pub unclosed : begins_with closing_brace rest ≡ false

-- whether a colon and a space come next
abbrev has_colon : List ℕ × List ℕ → Bool
has_colon x = is_some (strip (codes ": ") x.1)

-- then a field is found at the front
pub field_there : (t : List ℕ) → Field t → begins_with_field Debug t ≡ true
field_there t f =
    ap (begins_with_field Debug) f.is
    ∙ ap (λ o. choose o has_colon false) (read_name_complete Debug f.name (colon ∷ space ∷ f.rest) f.named (follower_ends_front Debug (colon ∷ space ∷ f.rest) (inr (inl (refl, refl, f.unclosed)))))

-- before a space and a closing brace, a colon after a name belongs to the leaf
outside_front : (w u : List ℕ) → has_name_bytes w ≡ true → leaf_from outside (w ++ (colon ∷ space ∷ closing_brace ∷ u)) ≡ w → ⊥
outside_front [] u named is = absurd (cc)
outside_front (c ∷ w) u named is =
    let parts = both (is_name_byte c) (has_name_bytes w) named in
    let t = w ++ (colon ∷ space ∷ closing_brace ∷ u) in
    let leaf = λ (o : Option Place). choose o (λ next. c ∷ leaf_from next t) [] in
    elim (cases_option (place_outside c t)) [
      | inl none ↦ let empty : [] ≡ c ∷ w = ap leaf (sym none) ∙ is in absurd (cc)
      | inr (next, some) ↦ outside_front w u parts.1 (subst (λ p. leaf_from p t ≡ w) (name_step c t next parts.0 some) (ap (drop 1) (ap leaf (sym some) ∙ is)))
    ]

-- the same of a whole leaf
beginning_front : (w u : List ℕ) → has_name_bytes w ≡ true → leaf_from beginning (w ++ (colon ∷ space ∷ closing_brace ∷ u)) ≡ w → ⊥
beginning_front [] u named is = absurd (cc)
beginning_front (c ∷ w) u named is =
    let parts = both (is_name_byte c) (has_name_bytes w) named in
    outside_front (c ∷ w) u named (ap (λ o. choose o (λ next. c ∷ leaf_from next (w ++ (colon ∷ space ∷ closing_brace ∷ u))) []) (sym (name_begins c (w ++ (colon ∷ space ∷ closing_brace ∷ u)) parts.0)) ∙ is)

-- a name that is read is the longest leaf at the front
name_is_front : (front rest : List ℕ) (x : List ℕ × List ℕ) → if_name Debug front rest ≡ Some x → front ≡ x.0
name_is_front [] rest x h = absurd (cc)
name_is_front (c ∷ front) rest x h = ap (λ (y : List ℕ × List ℕ). y.0) (cond_some (is_whole Debug (c ∷ front) && is_name Debug (c ∷ front)) (c ∷ front, rest) x h).1

-- so no closing brace comes after the space of a field
no_brace_after : (w r : List ℕ) → has_name_bytes w ≡ true → leaf_from beginning (w ++ (colon ∷ space ∷ r)) ≡ w → begins_with closing_brace r ≡ false
no_brace_after w [] named is = refl
no_brace_after w (c ∷ u) named is =
    false_from_ne_true (c == closing_brace) (λ e. beginning_front w u named (subst (λ b. leaf_from beginning (w ++ (colon ∷ space ∷ b ∷ u)) ≡ w) (eqb-true c closing_brace e) is))

-- a field that is found is there
pub field_found : (t : List ℕ) → begins_with_field Debug t ≡ true → Field t
field_found t h = elim (cases_option (read_name Debug t)) [
  | inl none ↦ let never : false ≡ true = ap (λ o. choose o has_colon false) (sym none) ∙ h in absurd (cc)
  | inr (x, is) ↦
      let word = read_name_sound Debug t x.0 x.1 is in
      let rest = some_from (strip (codes ": ") x.1) (ap (λ o. choose o has_colon false) (sym is) ∙ h) in
      let whole : t ≡ x.0 ++ (colon ∷ space ∷ rest.0) = word.1 ∙ ap (λ u. x.0 ++ u) (strip_found (codes ": ") x.1 rest.0 rest.1) in
      let front : leaf_from beginning t ≡ x.0 = name_is_front (front_of Debug t) (after_front Debug t) x is in
      record {
        name = x.0;
        rest = rest.0;
        named = word.0;
        is = whole;
        unclosed = no_brace_after x.0 rest.0 word.0.bytes (subst (λ u. leaf_from beginning u ≡ x.0) whole front);
      }
]

-- ---- what follows a bracket

-- two tests are equal if each implies the other
pub same_answer : (a b : Bool) → (a ≡ true → b ≡ true) → (b ≡ true → a ≡ true) → a ≡ b
same_answer true b there back = sym (there refl)
same_answer false true there back = back refl
same_answer false false there back = refl

first_same : (y : List ℕ) (c : ℕ) (r v : List ℕ) → begins_with closing_brace (y ++ c ∷ v) ≡ begins_with closing_brace (y ++ c ∷ r)
first_same [] c r v = refl
first_same (b ∷ y) c r v = refl

-- a field before a bracket is one whatever follows the bracket
field_kept : (z : List ℕ) (c : ℕ) (r v : List ℕ) → is_opening c ≡ true → begins_with_field Debug (z ++ c ∷ r) ≡ true → begins_with_field Debug (z ++ c ∷ v) ≡ true
field_kept z c r v opens h =
    let f = field_found (z ++ c ∷ r) h in
    let p = f.name ++ colon ∷ space ∷ [] in
    let none = without_append is_opening f.name (colon ∷ space ∷ []) (name_without_openings f.name f.named) (refl, (refl, tt)) in
    let cut = front_before is_opening p f.rest z c r none opens (append_assoc f.name (colon ∷ space ∷ []) f.rest ∙ sym f.is) in
    field_there (z ++ c ∷ v) (record {
      name = f.name;
      rest = cut.0 ++ c ∷ v;
      named = f.named;
      is = ap (λ t. t ++ c ∷ v) cut.1 ∙ append_assoc p cut.0 (c ∷ v) ∙ append_assoc f.name (colon ∷ space ∷ []) (cut.0 ++ c ∷ v);
      unclosed = first_same cut.0 c r v ∙ ap (begins_with closing_brace) (sym cut.2) ∙ f.unclosed;
    })

-- so a text has a field at its front or not, whatever follows a bracket
pub field_by_front : (z : List ℕ) (c : ℕ) (r v : List ℕ) → is_opening c ≡ true → begins_with_field Debug (z ++ c ∷ r) ≡ begins_with_field Debug (z ++ c ∷ v)
field_by_front z c r v opens = same_answer _ _ (field_kept z c r v opens) (field_kept z c v r opens)

-- the same after other bytes
stripped_by_front : (p z : List ℕ) (c : ℕ) (r v : List ℕ) → Without is_opening p → is_opening c ≡ true
    → choose (strip p (z ++ c ∷ r)) (begins_with_field Debug) false ≡ choose (strip p (z ++ c ∷ v)) (begins_with_field Debug) false
stripped_by_front [] z c r v none opens = field_by_front z c r v opens
stripped_by_front (b ∷ p) [] c r v none opens =
    let other : (b == c) ≡ false = false_from_ne_true (b == c) (λ same. passes_not is_opening c b opens none.0 (sym (eqb-true b c same))) in
    rw other refl
stripped_by_front (b ∷ p) (a ∷ z) c r v none opens = elim (cases_Bool (b == a)) [
  | inl is ↦ rw is (stripped_by_front p z c r v none.1 opens)
  | inr is ↦ rw is refl
]

-- so it is with the line of a field in a pretty struct
pub struct_by_front : (z : List ℕ) (c : ℕ) (r v : List ℕ) → is_opening c ≡ true → is_in_struct Plain (z ++ c ∷ r) ≡ is_in_struct Plain (z ++ c ∷ v)
struct_by_front z c r v opens = stripped_by_front (codes "\n    ") z c r v (refl, (refl, (refl, (refl, (refl, tt))))) opens

-- ---- a document at the front

-- a leaf at the front is a field's name if it is a name and a colon follows
leaf_field : (text u : List ℕ) → IsDebugLeaf text → IsDebugFollower u → begins_with_field Debug (text ++ u) ≡ (is_name Debug text && is_some (strip (codes ": ") u))
leaf_field [] u h follows = absurd (h.some refl)
leaf_field (c ∷ t) u h follows =
    let fronts = text_fronts (c ∷ t) u h (follower_stops_leaf u follows) (λ ends. follower_unspaced u follows) in
    ap (λ w. choose (if_name Debug w (after_leaf beginning ((c ∷ t) ++ u))) has_colon false) fronts.front
    ∙ ap (λ v. choose (if_name Debug (c ∷ t) v) has_colon false) fronts.after
    ∙ ap (λ b. choose (cond {A = Option (List ℕ × List ℕ)} (b && is_name Debug (c ∷ t)) (Some (c ∷ t, u)) None) has_colon false) fronts.whole
    ∙ (elim (is_name Debug (c ∷ t)) as (λ b. choose (cond {A = Option (List ℕ × List ℕ)} b (Some (c ∷ t, u)) None) has_colon false ≡ (b && is_some (strip (codes ": ") u))) [ true ↦ refl | false ↦ refl ])

module _ (i j : Setting) (u v : List ℕ) (first : IsDebugFollower u) (second : IsDebugFollower v) (same : is_some (strip (codes ": ") u) ≡ is_some (strip (codes ": ") v)) where
  -- a document's text is a field's name before a colon in both modes, or in none
  pub document_field : (d : Document) → IsBuilt Debug d → begins_with_field Debug (layout i d ++ u) ≡ begins_with_field Debug (layout j d ++ v)
  document_field d h = elim (leaf_or_head d h) [
    | inl k ↦ ap (λ t. begins_with_field Debug (t ++ u)) (k.is i) ∙ leaf_field k.text u k.leaf first ∙ ap (λ b. is_name Debug k.text && b) same
        ∙ sym (leaf_field k.text v k.leaf second) ∙ ap (λ t. begins_with_field Debug (t ++ v)) (sym (k.is j))
    | inr k ↦ ap (λ t. begins_with_field Debug (t ++ u)) (k.is i) ∙ ap (begins_with_field Debug) (append_assoc k.head (k.bracket ∷ k.tail i) u)
        ∙ field_by_front k.head k.bracket (k.tail i ++ u) (k.tail j ++ v) k.opens
        ∙ ap (begins_with_field Debug) (sym (append_assoc k.head (k.bracket ∷ k.tail j) v)) ∙ ap (λ t. begins_with_field Debug (t ++ v)) (sym (k.is j))
  ]
