-- The fields of a struct, as they are read one after the other.
use Rattle.std.proofs.Common.{◌≡◌, inl, inr, ◌∙◌, refl, ap, sym, subst, ℕ, ◌+◌, ◌-◌, ◌<◌, ◌≤◌, Bool, true, false, cond, List, [], ◌∷◌, ◌++◌, codes, bytes_eq, not, is_some, Option, Some, None, option_map, drop, take, length, length-append, length-drop, arith}
use Rattle.std.proofs.Math.Seq.{take-append_seam}
use Rattle.std.proofs.lemmas.Bool.{true≢false}
use Rattle.std.proofs.lemmas.List.{take-append-drop}
use Rattle.ufmt.specs.Document.{Document, leaf, joined, list_of, set_of, map_of, struct_of, non_exhaustive_of, tuple_of, pretty_part, no_documents, first_document, no_pairs, first_pair, Fields, no_fields, first_field}
use Rattle.ufmt.specs.Layout.{plain_text, tuple_kind}
use Rattle.ufmt.specs.Reading.{read_name, strip}
use Rattle.ufmt.specs.Token.{IsBuilt, normal}
use Rattle.ufmt_core.specs.declared.layout.Count.TheVariants.{One}
use Rattle.ufmt_core.specs.declared.layout.Kind.{Kind}
use Rattle.ufmt_core.specs.declared.layout.Kind.TheVariants.{Brackets, Braces, Struct}
use Rattle.ufmt_core.specs.declared.layout.Mode.TheVariants.{Plain}
use Rattle.ufmt_grammar.specs.declared.class.Class.{Class}
use Rattle.ufmt_grammar.proofs.ClassLeaves.{read_name_complete, read_name_sound, stops_at_space}
use Rattle.ufmt_grammar.proofs.Parsing.{same_parts, strip_found}
use Rattle.ufmt_scan.specs.Fronts.{IsFront, begun_after, begun_by, is_leaf, read_front}
use Rattle.ufmt_scan.specs.Scan.{TextEvent, block_events, events_of, events_of_entries, events_of_fields, events_of_pairs, tail_events}
use Rattle.ufmt_scan.specs.declared.scan.event.Event.TheVariants.{Leaf, Empty, OnlyDots, Open, FieldName, Colon, Next, Close, Dots}
use Rattle.ufmt_scan.specs.declared.text.FrontText.{FrontText}
use Rattle.ufmt_values.specs.Fields.{leaf_text}
use Rattle.ufmt_values.specs.Private.FieldsLeft.{AreGood, Comes, DotsCome, FieldComes, IsGood, LeafAndRest, after_field, leaf_among, leaf_in}
use Rattle.ufmt_values.proofs.StructTexts.{IsStruct, Shape, dots_end, name_is_read, none_or_some, value_is_read}

-- ---- leaves

-- a block that began stays begun
begun : (es : List TextEvent) → begun_after true es ≡ true
begun [] = refl
begun (e ∷ es) = ap (λ b. begun_after b es) (stays e) ∙ begun es
  where
    stays : (e : TextEvent) → begun_by true e ≡ true
    stays (Leaf text) = refl
    stays (Empty kind) = refl
    stays (OnlyDots name) = refl
    stays (Open kind name) = refl
    stays (FieldName name) = refl
    stays Colon = refl
    stays Next = refl
    stays (Close kind count) = refl
    stays Dots = refl

-- a block with entries does
opened : (kind : Kind) (name : List ℕ) (alone : TextEvent) (dots : Bool) (es : List TextEvent) (more : List (List TextEvent))
    → not (begun_after false (block_events kind name alone dots (es ∷ more))) ≡ true → ⊥
opened kind name alone dots es more is = true≢false (sym is ∙ ap not (begun (es ++ tail_events kind One dots more)))

-- no leaf is another document
leaf_apart : {d e : Document} → is_some (leaf_text d) ≡ true → is_some (leaf_text e) ≡ false → d ≡ e → ⊥
leaf_apart some none same = true≢false (sym some ∙ ap (λ d. is_some (leaf_text d)) same ∙ none)

-- a document in normal form without a block is a leaf, whose text is its own
leaf_found : (class : Class) (d : Document) → IsBuilt class d → normal d ≡ d → is_leaf d ≡ true → leaf_text d ≡ Some (plain_text d)
leaf_found class (leaf text) built normal_is is = refl
leaf_found class (joined ds) built normal_is is = absurd built
leaf_found class (list_of no_documents) built normal_is is = absurd (true≢false (sym is))
leaf_found class (list_of (first_document d ds)) built normal_is is = absurd (opened Brackets [] (Empty Brackets) false (events_of d) (events_of_entries ds) is)
leaf_found class (set_of no_documents) built normal_is is = absurd (true≢false (sym is))
leaf_found class (set_of (first_document d ds)) built normal_is is = absurd (opened Braces [] (Empty Braces) false (events_of d) (events_of_entries ds) is)
leaf_found class (map_of no_pairs) built normal_is is = absurd (true≢false (sym is))
leaf_found class (map_of (first_pair key value ps)) built normal_is is = absurd (opened Braces [] (Empty Braces) false (events_of key ++ Colon ∷ events_of value) (events_of_pairs ps) is)
leaf_found class (struct_of name no_fields) built normal_is is = absurd (leaf_apart refl refl normal_is)
leaf_found class (struct_of name (first_field field value fs)) built normal_is is = absurd (opened Struct name (Leaf name) false (FieldName field ∷ events_of value) (events_of_fields fs) is)
leaf_found class (non_exhaustive_of name no_fields) built normal_is is = absurd (true≢false (sym is))
leaf_found class (non_exhaustive_of name (first_field field value fs)) built normal_is is = absurd (opened Struct name (OnlyDots name) true (FieldName field ∷ events_of value) (events_of_fields fs) is)
leaf_found class (tuple_of name no_documents) built normal_is is = absurd (leaf_apart refl refl normal_is)
leaf_found class (tuple_of name (first_document d ds)) built normal_is is = absurd (opened (tuple_kind name) name (Leaf name) false (events_of d) (events_of_entries ds) is)
leaf_found class (pretty_part d) built normal_is is = absurd built

no_leaf : (d : Document) → is_leaf d ≡ false → leaf_text d ≡ None
no_leaf (leaf text) is = absurd (true≢false is)
no_leaf (joined ds) is = refl
no_leaf (list_of ds) is = refl
no_leaf (set_of ds) is = refl
no_leaf (map_of ps) is = refl
no_leaf (struct_of name fs) is = refl
no_leaf (non_exhaustive_of name fs) is = refl
no_leaf (tuple_of name ds) is = refl
no_leaf (pretty_part d) is = refl

leaf_is : (class : Class) (d : Document) → IsGood class d → (b : Bool) → is_leaf d ≡ b → leaf_text d ≡ cond b (Some (plain_text d)) None
leaf_is class d good true is = leaf_found class d good.0 good.2 is
leaf_is class d good false is = no_leaf d is

-- ---- one field

-- a text is cut where what follows it is left
cut_is : (front after value : List ℕ) (size : ℕ) → value ≡ front ++ after → size ≤ length value → drop size value ≡ after → take size value ≡ front
cut_is front after value size is within left =
    let whole : length value ≡ length front + length after = ap length is ∙ length-append front after in
    let rest : length value - size ≡ length after = sym (length-drop size value) ∙ ap length left in
    let same : size ≡ length front = omega (arith, whole, rest, within) in
    ap (λ n. take n value) same ∙ ap (take (length front)) is ∙ take-append_seam front after

-- a value's text, and what follows it
abbrev pub split_at : FrontText → List ℕ → LeafAndRest
split_at front value = (take front.len value, drop front.len value)

-- what was read of a field: its value is there, and what follows it
pub record FieldRead (class : Class) (name field value : List ℕ) (front : FrontText) (answer : Option LeafAndRest) : Type 0 where
  pub others : Fields
  pub dots : Bool
  pub rest : List ℕ
  pub good : AreGood class others
  pub left : drop front.len value ≡ after_field others dots rest
  pub answers : answer ≡ cond (bytes_eq field name) (cond front.is_leaf (Some (split_at front value)) None) (leaf_among name others dots rest)

-- what follows a text that is there
with_rest : (b : Bool) (text : List ℕ) {after left : List ℕ} → after ≡ left → option_map {U = LeafAndRest} (λ t. (t, after)) (cond b (Some text) None) ≡ cond b (Some (text, left)) None
with_rest true text is = ap (λ (u : List ℕ). Some (text, u)) is
with_rest false text is = refl

-- texts of options that are equal
some_same : (a b : List ℕ) → Some a ≡ Some b → a ≡ b
some_same a b h = cc

module _ (class : Class) (name text : List ℕ) (answer : Option LeafAndRest) where
  -- a field's name is there, or only dots are left
  pub no_name : Comes class name text answer → None ≡ read_name class text → None ≡ answer
  no_name (inl h) none = absurd (none_or_some none (ap (read_name class) h.is ∙ name_is_read class h.field h.value (after_field h.others h.dots h.rest) h.good.0 h.good.1))
  no_name (inr h) none = sym h.answers

  named_by : (field after : List ℕ) (h : FieldComes class name text answer) → Some (field, after) ≡ read_name class text
      → (field ≡ h.field) × (after ≡ codes ": " ++ (plain_text h.value ++ after_field h.others h.dots h.rest))
  named_by field after h is =
      same_parts (field, after) (h.field, codes ": " ++ (plain_text h.value ++ after_field h.others h.dots h.rest))
      (is ∙ ap (read_name class) h.is ∙ name_is_read class h.field h.value (after_field h.others h.dots h.rest) h.good.0 h.good.1)

  no_value_of_dots : (field after value : List ℕ) → DotsCome text answer → Some (field, after) ≡ read_name class text → Some value ≡ strip (codes ": ") after → ⊥
  no_value_of_dots field after value h is strips = none_or_some (sym (dots_end class h.rest field after (is ∙ ap (read_name class) h.is))) (sym strips)

  pub no_colon : Comes class name text answer → (field after : List ℕ) → Some (field, after) ≡ read_name class text → None ≡ strip (codes ": ") after → None ≡ answer
  no_colon (inl h) field after is none = absurd (none_or_some none (ap (strip (codes ": ")) (named_by field after h is).1))
  no_colon (inr h) field after is none = sym h.answers

  value_there : (field after value : List ℕ) (h : FieldComes class name text answer) → Some (field, after) ≡ read_name class text → Some value ≡ strip (codes ": ") after
      → value ≡ plain_text h.value ++ after_field h.others h.dots h.rest
  value_there field after value h is strips = some_same value (plain_text h.value ++ after_field h.others h.dots h.rest) (strips ∙ ap (strip (codes ": ")) (named_by field after h is).1)

  pub no_value_read : Comes class name text answer → (field after value : List ℕ) → Some (field, after) ≡ read_name class text → Some value ≡ strip (codes ": ") after
      → read_front class Plain value ≡ None → None ≡ answer
  no_value_read (inl h) field after value is strips none =
      absurd (none_or_some (sym none) (ap (read_front class Plain) (value_there field after value h is strips) ∙ value_is_read class h.value h.others h.dots h.rest h.good.1))
  no_value_read (inr h) field after value is strips none = sym h.answers

  pub field_read : Comes class name text answer → (field after value : List ℕ) → Some (field, after) ≡ read_name class text → Some value ≡ strip (codes ": ") after
      → (front : FrontText) → IsFront class Plain value front → FieldRead class name field value front answer
  field_read (inl h) field after value is strips front found =
      let there = value_there field after value h is strips in
      let read = value_is_read class h.value h.others h.dots h.rest h.good.1 in
      let parts = same_parts (found.document, drop front.len value) (h.value, after_field h.others h.dots h.rest) (sym found.is_read ∙ ap (read_front class Plain) there ∙ read) in
      let taken = cut_is (plain_text h.value) (after_field h.others h.dots h.rest) value front.len there found.within parts.1 in
      let followed : Option (List ℕ) → Option LeafAndRest = λ o. option_map (λ t. (t, after_field h.others h.dots h.rest)) o in
      let further = leaf_among name h.others h.dots h.rest in
      let shown : leaf_text h.value ≡ cond front.is_leaf (Some (take front.len value)) None =
      leaf_is class h.value h.good.1 front.is_leaf (sym (found.is_leaf ∙ ap is_leaf parts.0)) ∙ ap (λ t. cond front.is_leaf (Some t) None) (sym taken) in
      record {
        others = h.others;
        dots = h.dots;
        rest = h.rest;
        good = h.good.2;
        left = parts.1;
        answers = h.answers ∙ ap (λ n. cond (bytes_eq n name) (followed (leaf_text h.value)) further) (sym (named_by field after h is).0)
            ∙ ap (λ o. cond (bytes_eq field name) o further) (ap followed shown ∙ with_rest front.is_leaf (take front.len value) (sym parts.1));
      }
  field_read (inr h) field after value is strips front found = absurd (no_value_of_dots field after value h is strips)

-- ---- the next field

module _ (class : Class) (name : List ℕ) where
  none_follows : (others : Fields) (dots : Bool) (rest : List ℕ) → None ≡ strip (codes ", ") (after_field others dots rest) → None ≡ leaf_among name others dots rest
  none_follows no_fields dots rest none = refl
  none_follows (first_field field value fs) dots rest none = absurd (none_or_some none refl)

  next_comes : (others : Fields) (dots : Bool) (rest : List ℕ) → AreGood class others → (next : List ℕ) → Some next ≡ strip (codes ", ") (after_field others dots rest)
      → Comes class name next (leaf_among name others dots rest)
  next_comes no_fields false rest good next is = absurd (none_or_some refl (sym is))
  next_comes no_fields true rest good next is = inr (record { rest = rest; is = some_same next (codes ".. }" ++ rest) is; answers = refl })
  next_comes (first_field field value fs) dots rest good next is =
      let same = some_same next (field ++ (codes ": " ++ (plain_text value ++ after_field fs dots rest))) is in
      inl (record { field = field; value = value; others = fs; dots = dots; rest = rest; good = good; is = same; answers = refl })

  module _ (field value : List ℕ) (front : FrontText) (answer : Option LeafAndRest) (h : FieldRead class name field value front answer) where
    -- this is the field
    pub answer_is : bytes_eq field name ≡ true → (b : Bool) → front.is_leaf ≡ b → cond b (Some (split_at front value)) None ≡ answer
    answer_is same b is =
        sym (h.answers ∙ ap (λ x. cond x (cond front.is_leaf (Some (split_at front value)) None) (leaf_among name h.others h.dots h.rest)) same ∙ ap (λ x. cond x (Some (split_at front value)) None) is)

    -- it is another
    other_answer : bytes_eq field name ≡ false → answer ≡ leaf_among name h.others h.dots h.rest
    other_answer other = h.answers ∙ ap (λ x. cond x (cond front.is_leaf (Some (split_at front value)) None) (leaf_among name h.others h.dots h.rest)) other

    pub no_further : bytes_eq field name ≡ false → None ≡ strip (codes ", ") (drop front.len value) → None ≡ answer
    no_further other none = none_follows h.others h.dots h.rest (none ∙ ap (strip (codes ", ")) h.left) ∙ sym (other_answer other)

    pub further : bytes_eq field name ≡ false → (next : List ℕ) → Some next ≡ strip (codes ", ") (drop front.len value) → Comes class name next answer
    further other next is = subst (Comes class name next) (sym (other_answer other)) (next_comes h.others h.dots h.rest h.good next (is ∙ ap (strip (codes ", ")) h.left))

-- ---- from the value's name on

module _ (class : Class) (name t : List ℕ) (d : Document) (rest : List ℕ) where
  name_read : (h : IsStruct class d rest t) → read_name class t ≡ Some (h.name, codes " { " ++ h.fields)
  name_read h = ap (read_name class) h.is ∙ read_name_complete class h.name (codes " { " ++ h.fields) h.is_name (stops_at_space class (codes "{ " ++ h.fields))

  pub struct_unnamed : Shape class d rest t → None ≡ read_name class t → None ≡ leaf_in name d rest
  struct_unnamed (inl h) none = absurd (none_or_some none (name_read h))
  struct_unnamed (inr h) none = sym (h.none name)

  module _ (its_name after : List ℕ) (is : Some (its_name, after) ≡ read_name class t) where
    after_is : (h : IsStruct class d rest t) → after ≡ codes " { " ++ h.fields
    after_is h = (same_parts (its_name, after) (h.name, codes " { " ++ h.fields) (is ∙ name_read h)).1

    pub no_brace : Shape class d rest t → None ≡ strip (codes " {") after → None ≡ leaf_in name d rest
    no_brace (inl h) none = absurd (none_or_some none (ap (strip (codes " {")) (after_is h)))
    no_brace (inr h) none = sym (h.none name)

    module _ (inside : List ℕ) (strips : Some inside ≡ strip (codes " {") after) where
      inside_is : (h : IsStruct class d rest t) → inside ≡ codes " " ++ h.fields
      inside_is h = some_same inside (codes " " ++ h.fields) (strips ∙ ap (strip (codes " {")) (after_is h))

      pub no_space : Shape class d rest t → None ≡ strip (codes " ") inside → None ≡ leaf_in name d rest
      no_space (inl h) none = absurd (none_or_some none (ap (strip (codes " ")) (inside_is h)))
      no_space (inr h) none = sym (h.none name)

      pub fields_come : Shape class d rest t → (fields : List ℕ) → Some fields ≡ strip (codes " ") inside → Comes class name fields (leaf_in name d rest)
      fields_come (inl h) fields first =
          let same = some_same fields h.fields (first ∙ ap (strip (codes " ")) (inside_is h)) in
          subst (λ text. Comes class name text (leaf_in name d rest)) (sym same) (h.comes name)
      fields_come (inr h) fields first =
          let whole : after ≡ codes " { " ++ fields = strip_found (codes " {") after inside (sym strips) ∙ ap (λ u. codes " {" ++ u) (strip_found (codes " ") inside fields (sym first)) in
          absurd (h.no_fields its_name after fields (sym is) whole)

-- ---- what was read is shorter

-- what follows a field and a comma is shorter than the field and what follows it
pub next_smaller : (class : Class) (rest field after value : List ℕ) (size : ℕ) → Some (field, after) ≡ read_name class rest → Some value ≡ strip (codes ": ") after
    → (next : List ℕ) → Some next ≡ strip (codes ", ") (drop size value) → length next < length rest
next_smaller class rest field after value size named strips next more =
    let whole : rest ≡ field ++ (codes ": " ++ (take size value ++ (codes ", " ++ next))) =
    (read_name_sound class rest field after (sym named)).1 ∙ ap (λ t. field ++ t) (strip_found (codes ": ") after value (sym strips))
    ∙ ap (λ t. field ++ (codes ": " ++ t)) (sym (take-append-drop size value) ∙ ap (λ t. take size value ++ t) (strip_found (codes ", ") (drop size value) next (sym more))) in
    let lengths = ap length whole ∙ length-append field (codes ": " ++ (take size value ++ (codes ", " ++ next))) in
    let left = length-append (take size value) (codes ", " ++ next) in
    omega (arith, lengths, left)
