-- The plain text of a struct, from its name on, and how its fields are read one by one.
use Rattle.std.proofs.Common.{◌≡◌, ◌≢◌, ◌⊎◌, inl, inr, ◌∙◌, refl, ap, sym, subst, ℕ, ◌≤◌, Bool, true, false, cond, List, [], ◌∷◌, ◌++◌, append_assoc, append-nil, bytes_eq, codes, length, length-append, ◌+◌, Option, Some, None, option_map, get_or, is_some, ◌&&◌, arith}
use Rattle.std.proofs.lemmas.Bool.{true≢false}
use Rattle.std.proofs.lemmas.Option.{cond_some}
use Rattle.std.specs.Str.{is_utf8}
use Rattle.ufmt.specs.Document.{Document, leaf, joined, list_of, set_of, map_of, struct_of, non_exhaustive_of, tuple_of, pretty_part, no_documents, first_document, Fields, no_fields, first_field, nest, nest_fields}
use Rattle.ufmt.specs.Layout.{block_tail, count_after, dots_ending, ending, field_texts, frame, framed_all, lead, next, plain_text, setting}
use Rattle.ufmt.specs.Reading.{read_name, strip}
use Rattle.ufmt.specs.Token.{FieldsAreBuilt, IsBuilt, IsName, MayFollow, normal, normal_fields}
use Rattle.ufmt_core.specs.declared.layout.Count.{Count}
use Rattle.ufmt_core.specs.declared.layout.Count.TheVariants.{Zero, One, Several}
use Rattle.ufmt_core.specs.declared.layout.Kind.{Kind}
use Rattle.ufmt_core.specs.declared.layout.Kind.TheVariants.{Struct}
use Rattle.ufmt_core.specs.declared.layout.Mode.TheVariants.{Plain}
use Rattle.ufmt_grammar.specs.declared.class.Class.{Class}
use Rattle.ufmt_grammar.specs.declared.class.Class.TheVariants.{Token, Debug}
use Rattle.ufmt_grammar.proofs.ClassLeaves.{Begins, Begins-append, brace_follows, colon_follows, ender_follows, follower_ends_front, name_some, read_name_complete, read_name_sound, stops_at_parenthesis}
use Rattle.ufmt_grammar.proofs.Parsing.{same_parts}
use Rattle.ufmt_grammar.proofs.ReadingComplete.{read_complete}
use Rattle.ufmt_grammar.proofs.TextsBegin.{document_begins}
use Rattle.ufmt_scan.specs.Fronts.{has_entries, read_front}
use Rattle.ufmt_values.specs.Fields.{bytes_before, leaf_start, leaf_text}
use Rattle.ufmt_values.specs.Private.FieldsLeft.{AreGood, Comes, IsGood, LeafAndRest, after_field, leaf_among, leaf_in}

-- an option has a value, or none
pub none_or_some : {A : Type 0} {o : Option A} {x : A} → None ≡ o → o ≡ Some x → ⊥
none_or_some none some = true≢false (sym (ap is_some (none ∙ some)))

-- ---- what is left after a field

-- a value may end there
follows : (class : Class) (fs : Fields) (dots : Bool) (rest : List ℕ) → MayFollow class (after_field fs dots rest)
follows class no_fields false rest = brace_follows class rest
follows class no_fields true rest = ender_follows class 44 (codes " .. }" ++ rest) refl
follows class (first_field name value fs) dots rest = ender_follows class 44 (codes " " ++ (name ++ (codes ": " ++ (plain_text value ++ after_field fs dots rest)))) refl

-- a value is read before it
pub value_is_read : (class : Class) (d : Document) (fs : Fields) (dots : Bool) (rest : List ℕ) → IsGood class d
    → read_front class Plain (plain_text d ++ after_field fs dots rest) ≡ Some (d, after_field fs dots rest)
value_is_read class d fs dots rest good =
    read_complete class 255 (setting Plain 0) d (after_field fs dots rest) good.0 good.1 tt (follows class fs dots rest)
    ∙ ap (λ e. Some (e, after_field fs dots rest)) good.2

-- a field's name is read before its colon
pub name_is_read : (class : Class) (name : List ℕ) (d : Document) (after : List ℕ) → IsName class name → IsGood class d
    → read_name class (name ++ (codes ": " ++ (plain_text d ++ after))) ≡ Some (name, codes ": " ++ (plain_text d ++ after))
name_is_read class name d after is good =
    read_name_complete class name (codes ": " ++ (plain_text d ++ after)) is
    (follower_ends_front class (codes ": " ++ (plain_text d ++ after)) (colon_follows class (plain_text d ++ after) (Begins-append (document_begins class (setting Plain 0) d good.0) after)))

-- a name is read of dots in a debug text, and no colon follows it
pub dots_end : (class : Class) (rest name after : List ℕ) → Some (name, after) ≡ read_name class (codes ".. }" ++ rest) → strip (codes ": ") after ≡ None
dots_end Token rest name after is = absurd (none_or_some refl (sym is))
dots_end Debug rest name after is =
    let dots : List ℕ × List ℕ = (46 ∷ 46 ∷ [], 32 ∷ 125 ∷ rest) in
    ap (strip (codes ": ")) (ap (λ (x : List ℕ × List ℕ). x.1) (sym (cond_some (is_utf8 (46 ∷ 46 ∷ []) && true) dots (name, after) (sym is)).1))

-- ---- fields in normal form

-- the parts of fields
abbrev fields_in : Document → Fields
fields_in (struct_of name fs) = fs
fields_in (non_exhaustive_of name fs) = fs
fields_in _ = no_fields

abbrev first_value : Fields → Document
first_value no_fields = leaf []
first_value (first_field name value fs) = value

abbrev later_fields : Fields → Fields
later_fields no_fields = no_fields
later_fields (first_field name value fs) = fs

pub fields_good : (class : Class) (fs : Fields) → FieldsAreBuilt class fs → nest_fields fs ≤ 255 → normal_fields fs ≡ fs → AreGood class fs
fields_good class no_fields built deep normal = tt
fields_good class (first_field name value fs) built deep is =
    let value_is : normal value ≡ value = ap first_value is in
    let rest_is : normal_fields fs ≡ fs = ap later_fields is in
    (built.0, (built.1, omega arith, value_is), fields_good class fs built.2 (omega arith) rest_is)

-- ---- the text of a struct

-- the text before an entry that isn't the first
pub lead_is : (kind : Kind) (count : Count) → lead (frame Plain kind) (setting Plain 0) (next count) ≡ codes ", "
lead_is kind Zero = refl
lead_is kind One = refl
lead_is kind Several = refl

abbrev ending_of : Count → List ℕ
ending_of count = ending (frame Plain Struct) (setting Plain 0) count

ending_is : (count : Count) → ending_of (next count) ≡ codes " }"
ending_is Zero = refl
ending_is One = refl
ending_is Several = refl

dots_are : (count : Count) → dots_ending (setting Plain 0) (next count) ≡ codes ", .. }"
dots_are Zero = refl
dots_are One = refl
dots_are Several = refl

-- a field's text, and what follows it
field_is : (name : List ℕ) (d : Document) (tail rest : List ℕ) → ((name ++ (codes ": " ++ plain_text d)) ++ tail) ++ rest ≡ name ++ (codes ": " ++ (plain_text d ++ (tail ++ rest)))
field_is name d tail rest =
    append_assoc (name ++ (codes ": " ++ plain_text d)) tail rest ∙ append_assoc name (codes ": " ++ plain_text d) (tail ++ rest)

tail_is : (fs : Fields) (count : Count) (rest : List ℕ) → block_tail (frame Plain Struct) (setting Plain 0) (next count) (field_texts (setting Plain 0) fs) ++ rest ≡ after_field fs false rest
tail_is no_fields count rest = ap (λ t. t ++ rest) (ending_is count)
tail_is (first_field name d fs) count rest =
    let tail = block_tail (frame Plain Struct) (setting Plain 0) (next (next count)) (field_texts (setting Plain 0) fs) in
    ap (λ t. (t ++ ((name ++ (codes ": " ++ plain_text d)) ++ tail)) ++ rest) (lead_is Struct count)
    ∙ ap (λ t. codes ", " ++ t) (field_is name d tail rest ∙ ap (λ t. name ++ (codes ": " ++ (plain_text d ++ t))) (tail_is fs (next count) rest))

-- a field, further ones and the dots
regroup : (text more dots rest : List ℕ) → (((text ++ []) ++ more) ++ dots) ++ rest ≡ (text ++ (more ++ dots)) ++ rest
regroup text more dots rest = ap (λ t. ((t ++ more) ++ dots) ++ rest) (append-nil text) ∙ ap (λ t. t ++ rest) (append_assoc text more dots)

dotted_is : (fs : Fields) (count : Count) (rest : List ℕ)
    → (framed_all (frame Plain Struct) (setting Plain 0) (next count) (field_texts (setting Plain 0) fs) ++ dots_ending (setting Plain 0) (count_after (next count) (field_texts (setting Plain 0) fs))) ++ rest
    ≡ after_field fs true rest
dotted_is no_fields count rest = ap (λ t. t ++ rest) (dots_are count)
dotted_is (first_field name d fs) count rest =
    let text = name ++ (codes ": " ++ plain_text d) in
    let more = framed_all (frame Plain Struct) (setting Plain 0) (next (next count)) (field_texts (setting Plain 0) fs) in
    let dots = dots_ending (setting Plain 0) (count_after (next (next count)) (field_texts (setting Plain 0) fs)) in
    ap (λ t. (((t ++ (text ++ [])) ++ more) ++ dots) ++ rest) (lead_is Struct count)
    ∙ ap (λ t. codes ", " ++ t) (regroup text more dots rest ∙ field_is name d (more ++ dots) rest ∙ ap (λ t. name ++ (codes ": " ++ (plain_text d ++ t))) (dotted_is fs (next count) rest))

-- the text of a struct with fields, and what follows it
pub struct_text : (name field : List ℕ) (value : Document) (fs : Fields) (rest : List ℕ)
    → plain_text (struct_of name (first_field field value fs)) ++ rest ≡ name ++ (codes " { " ++ (field ++ (codes ": " ++ (plain_text value ++ after_field fs false rest))))
struct_text name field value fs rest =
    let tail = block_tail (frame Plain Struct) (setting Plain 0) One (field_texts (setting Plain 0) fs) in
    append_assoc name _ rest ∙ ap (λ t. name ++ (codes " { " ++ t)) (field_is field value tail rest ∙ ap (λ t. field ++ (codes ": " ++ (plain_text value ++ t))) (tail_is fs Zero rest))

-- the same of one that ends in dots
pub dotted_text : (name field : List ℕ) (value : Document) (fs : Fields) (rest : List ℕ)
    → plain_text (non_exhaustive_of name (first_field field value fs)) ++ rest ≡ name ++ (codes " { " ++ (field ++ (codes ": " ++ (plain_text value ++ after_field fs true rest))))
dotted_text name field value fs rest =
    let text = field ++ (codes ": " ++ plain_text value) in
    let more = framed_all (frame Plain Struct) (setting Plain 0) One (field_texts (setting Plain 0) fs) in
    let dots = dots_ending (setting Plain 0) (count_after One (field_texts (setting Plain 0) fs)) in
    append_assoc name _ rest ∙ ap (λ t. name ++ (codes " { " ++ t))
    (regroup text more dots rest ∙ field_is field value (more ++ dots) rest ∙ ap (λ t. field ++ (codes ": " ++ (plain_text value ++ t))) (dotted_is fs Zero rest))

-- ---- where a leaf is in the text

-- a text and what follows it, after so many bytes
pub record StartsAfter (t : List ℕ) (size : ℕ) (text after : List ℕ) : Type 0 where
  pub front : List ℕ
  pub size_is : length front ≡ size
  pub is : t ≡ front ++ (text ++ after)

-- a leaf's text is its own
leaf_text_is : (d : Document) (text : List ℕ) → leaf_text d ≡ Some text → plain_text d ≡ text
leaf_text_is (leaf text) other is = cc
leaf_text_is (joined ds) text is = absurd (none_or_some refl is)
leaf_text_is (list_of ds) text is = absurd (none_or_some refl is)
leaf_text_is (set_of ds) text is = absurd (none_or_some refl is)
leaf_text_is (map_of ps) text is = absurd (none_or_some refl is)
leaf_text_is (struct_of name fs) text is = absurd (none_or_some refl is)
leaf_text_is (non_exhaustive_of name fs) text is = absurd (none_or_some refl is)
leaf_text_is (tuple_of name ds) text is = absurd (none_or_some refl is)
leaf_text_is (pretty_part d) text is = absurd (none_or_some refl is)

-- the text of fields, the first of which isn't left out
abbrev fields_text : List ℕ → Document → Fields → Bool → List ℕ → List ℕ
fields_text field value fs dots rest = field ++ (codes ": " ++ (plain_text value ++ after_field fs dots rest))

-- by whether a field has the name
by_name : (same : Bool) (t : List ℕ) (size further : ℕ) (text after : List ℕ) (here later : Option LeafAndRest) → cond same here later ≡ Some (text, after)
    → (here ≡ Some (text, after) → StartsAfter t (size + 0) text after) → (later ≡ Some (text, after) → StartsAfter t (size + further) text after)
    → StartsAfter t (size + cond same 0 further) text after
by_name true t size further text after here later there first others = first there
by_name false t size further text after here later there first others = others there

module _ (name field : List ℕ) (value : Document) (dots : Bool) (rest text after : List ℕ) where
  -- the first field's leaf comes after its name
  starts_here : (fs : Fields) (o : Option (List ℕ)) → leaf_text value ≡ o → option_map {U = LeafAndRest} (λ t. (t, after_field fs dots rest)) o ≡ Some (text, after)
      → StartsAfter (fields_text field value fs dots rest) (length field + 2 + 0) text after
  starts_here fs None is there = absurd (none_or_some refl there)
  starts_here fs (Some t) is there =
      let parts = same_parts (t, after_field fs dots rest) (text, after) there in
      record {
        front = field ++ codes ": ";
        size_is = omega (arith, length-append field (codes ": "));
        is = ap (λ t. field ++ (codes ": " ++ (t ++ after_field fs dots rest))) (leaf_text_is value t is ∙ parts.0)
            ∙ ap (λ u. field ++ (codes ": " ++ (text ++ u))) parts.1 ∙ sym (append_assoc field (codes ": ") (text ++ after));
      }

  -- another's comes after the first field and a comma
  starts_later : (other : List ℕ) (d : Document) (ds : Fields) (size : ℕ) → StartsAfter (fields_text other d ds dots rest) size text after
      → StartsAfter (fields_text field value (first_field other d ds) dots rest) (length field + 2 + (length (plain_text value) + 2 + size)) text after
  starts_later other d ds size found =
      let inside = codes ": " ++ (plain_text value ++ codes ", ") in
      let front = field ++ inside in
      record {
        front = front ++ found.front;
        size_is = omega (arith, length-append front found.front, length-append field inside, length-append (plain_text value) (codes ", "), found.size_is);
        is = ap (λ t. field ++ (codes ": " ++ (plain_text value ++ (codes ", " ++ t)))) found.is
            ∙ sym (append_assoc front found.front (text ++ after) ∙ append_assoc field inside (found.front ++ (text ++ after))
            ∙ ap (λ t. field ++ (codes ": " ++ t)) (append_assoc (plain_text value) (codes ", ") (found.front ++ (text ++ after))));
      }

-- a leaf comes after what is before it in the fields' text
pub leaf_starts : (name field : List ℕ) (value : Document) (fs : Fields) (dots : Bool) (rest text after : List ℕ)
    → leaf_among name (first_field field value fs) dots rest ≡ Some (text, after) → StartsAfter (fields_text field value fs dots rest) (bytes_before name (first_field field value fs)) text after
leaf_starts name field value no_fields dots rest text after there =
    by_name (bytes_eq field name) _ _ _ text after _ _ there (starts_here name field value dots rest text after no_fields (leaf_text value) refl) (λ none. absurd (none_or_some refl none))
leaf_starts name field value (first_field other d ds) dots rest text after there =
    by_name (bytes_eq field name) _ _ _ text after _ _ there (starts_here name field value dots rest text after (first_field other d ds) (leaf_text value) refl)
    (λ later. starts_later name field value dots rest text after other d ds _ (leaf_starts name other d ds dots rest text after later))

-- what is found of a struct with fields: its name, and its fields after a space, a brace and a space
pub record IsStruct (class : Class) (d : Document) (rest t : List ℕ) : Type 0 where
  pub name : List ℕ
  pub fields : List ℕ
  pub is_name : IsName class name
  pub is : t ≡ name ++ (codes " { " ++ fields)
  pub comes : (wanted : List ℕ) → Comes class wanted fields (leaf_in wanted d rest)
  pub starts : (wanted text after : List ℕ) → leaf_in wanted d rest ≡ Some (text, after) → StartsAfter t (leaf_start wanted d) text after

-- what is found of another value: no name, space and brace are before it
pub record IsNoStruct (class : Class) (d : Document) (rest t : List ℕ) : Type 0 where
  pub none : (wanted : List ℕ) → leaf_in wanted d rest ≡ None
  pub no_fields : (name after fields : List ℕ) → read_name class t ≡ Some (name, after) → after ≢ codes " { " ++ fields

-- no name begins with such a byte
no_bracket : (class : Class) (c : ℕ) (t : List ℕ) (name after : List ℕ) → ((w : List ℕ) → IsName class (c ∷ w) → ⊥) → read_name class (c ∷ t) ≡ Some (name, after) → ⊥
no_bracket class c t [] after never h = name_some class (read_name_sound class (c ∷ t) [] after h).0
no_bracket class c t (b ∷ w) after never h =
    let found = read_name_sound class (c ∷ t) (b ∷ w) after h in
    let same : c ≡ b = ap (λ l. get_or l 0 0) found.1 in
    never w (subst (λ x. IsName class (x ∷ w)) (sym same) found.0)

no_list : (class : Class) (w : List ℕ) → IsName class (91 ∷ w) → ⊥
no_list Token w h = absurd (cc)
no_list Debug w h = let named = h.bytes in absurd (cc)

no_braces : (class : Class) (w : List ℕ) → IsName class (123 ∷ w) → ⊥
no_braces Token w h = absurd (cc)
no_braces Debug w h = let named = h.bytes in absurd (cc)

no_parenthesis : (class : Class) (w : List ℕ) → IsName class (40 ∷ w) → ⊥
no_parenthesis Token w h = absurd (cc)
no_parenthesis Debug w h = let named = h.bytes in absurd (cc)

abbrev pub Shape : Class → Document → List ℕ → List ℕ → Type 0
Shape class d rest t = IsStruct class d rest t ⊎ IsNoStruct class d rest t

-- it begins with a bracket
bracketed : (class : Class) (d : Document) (rest : List ℕ) (c : ℕ) (t : List ℕ) → ((w : List ℕ) → IsName class (c ∷ w) → ⊥) → ((wanted : List ℕ) → leaf_in wanted d rest ≡ None) → Shape class d rest (c ∷ t)
bracketed class d rest c t never none = inr (record { none = none; no_fields = λ name after fields h is. no_bracket class c t name after never h })

-- it begins with a name and a parenthesis
named : (class : Class) (d : Document) (rest name t : List ℕ) → IsName class name → Begins t → ((wanted : List ℕ) → leaf_in wanted d rest ≡ None) → Shape class d rest (name ++ (40 ∷ t))
named class d rest name t is begins none = inr (record {
  none = none;
  no_fields = λ other after fields h starts.
      let read = read_name_complete class name (40 ∷ t) is (stops_at_parenthesis class t begins) in
      let same = (same_parts (name, 40 ∷ t) (other, after) (sym read ∙ h)).1 in
      absurd (omega (arith, ap (λ (text : List ℕ). get_or text 0 0) (same ∙ starts)));
})

module _ (class : Class) (rest : List ℕ) where
  struct_found : (name field : List ℕ) (value : Document) (fs : Fields) (dots : Bool) (d : Document)
      → ((wanted : List ℕ) → leaf_in wanted d rest ≡ leaf_among wanted (first_field field value fs) dots rest)
      → ((wanted : List ℕ) → leaf_start wanted d ≡ length name + 3 + bytes_before wanted (first_field field value fs))
      → IsName class name → AreGood class (first_field field value fs) → Shape class d rest (name ++ (codes " { " ++ fields_text field value fs dots rest))
  struct_found name field value fs dots d same place is good = inl (record {
    name = name;
    fields = field ++ (codes ": " ++ (plain_text value ++ after_field fs dots rest));
    is_name = is;
    is = refl;
    comes = λ wanted. inl (record { field = field; value = value; others = fs; dots = dots; rest = rest; good = good; is = refl; answers = same wanted });
    starts = λ wanted text after there.
        let found = leaf_starts wanted field value fs dots rest text after (sym (same wanted) ∙ there) in
        record {
          front = name ++ (codes " { " ++ found.front);
          size_is = length-append name (codes " { " ++ found.front) ∙ omega (arith, found.size_is, place wanted);
          is = ap (λ t. name ++ (codes " { " ++ t)) found.is ∙ sym (append_assoc name (codes " { " ++ found.front) (text ++ after));
        };
  })

  -- by what the value is
  pub shape_of : (d : Document) → IsBuilt class d → nest d ≤ 255 → normal d ≡ d → has_entries d ≡ true → Shape class d rest (plain_text d ++ rest)
  shape_of (leaf text) built deep is entries = absurd (true≢false (sym entries))
  shape_of (joined ds) built deep is entries = absurd built
  shape_of (list_of ds) built deep is entries = bracketed class (list_of ds) rest 91 _ (no_list class) (λ wanted. refl)
  shape_of (set_of ds) built deep is entries = bracketed class (set_of ds) rest 123 _ (no_braces class) (λ wanted. refl)
  shape_of (map_of ps) built deep is entries = bracketed class (map_of ps) rest 123 _ (no_braces class) (λ wanted. refl)
  shape_of (tuple_of name no_documents) built deep is entries = absurd (true≢false (sym entries))
  shape_of (tuple_of [] (first_document d ds)) built deep is entries = bracketed class (tuple_of [] (first_document d ds)) rest 40 _ (no_parenthesis class) (λ wanted. refl)
  shape_of (tuple_of (c ∷ name) (first_document d ds)) built deep is entries =
      subst (Shape class (tuple_of (c ∷ name) (first_document d ds)) rest) (sym (append_assoc (c ∷ name) _ rest))
      (named class (tuple_of (c ∷ name) (first_document d ds)) rest (c ∷ name) _ built.0 (Begins-append (Begins-append (document_begins class (setting Plain 0) d built.1) _) rest) (λ wanted. refl))
  shape_of (struct_of name no_fields) built deep is entries = absurd (true≢false (sym entries))
  shape_of (struct_of name (first_field field value fs)) built deep is entries =
      let value_is : normal value ≡ value = ap (λ d. first_value (fields_in d)) is in
      let rest_is : normal_fields fs ≡ fs = ap (λ d. later_fields (fields_in d)) is in
      let good = fields_good class (first_field field value fs) built.1 (omega arith) (λ i. first_field field (value_is i) (rest_is i)) in
      subst (Shape class (struct_of name (first_field field value fs)) rest) (sym (struct_text name field value fs rest))
      (struct_found name field value fs false (struct_of name (first_field field value fs)) (λ wanted. refl) (λ wanted. refl) built.0 good)
  shape_of (non_exhaustive_of name no_fields) built deep is entries = absurd (true≢false (sym entries))
  shape_of (non_exhaustive_of name (first_field field value fs)) built deep is entries =
      let value_is : normal value ≡ value = ap (λ d. first_value (fields_in d)) is in
      let rest_is : normal_fields fs ≡ fs = ap (λ d. later_fields (fields_in d)) is in
      let good = fields_good class (first_field field value fs) built.2 (omega arith) (λ i. first_field field (value_is i) (rest_is i)) in
      subst (Shape class (non_exhaustive_of name (first_field field value fs)) rest) (sym (dotted_text name field value fs rest))
      (struct_found name field value fs true (non_exhaustive_of name (first_field field value fs)) (λ wanted. refl) (λ wanted. refl) built.1 good)
  shape_of (pretty_part d) built deep is entries = absurd built
