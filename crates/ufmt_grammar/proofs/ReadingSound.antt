-- Reading is sound: it gives a document of the class in normal form, and the document's text and the rest make up the text that was read.
use Rattle.std.proofs.Common.{◌≡◌, ◌≢◌, inl, inr, refl, ap, sym, ◌∙◌, subst, subst₂, ℕ, zero, suc, ◌<◌, ◌≤◌, List, [], ◌∷◌, ◌++◌, map, Bool, true, false, Option, Some, None, codes, append_assoc, arith}
use Rattle.std.proofs.lemmas.Bool.{cases_Bool}
use Rattle.ufmt_core.specs.Document.{Document, leaf, list_of, set_of, map_of, struct_of, non_exhaustive_of, tuple_of, no_documents, no_pairs, no_fields, documents, fields_of, nest, nest_fields}
use Rattle.ufmt_core.specs.Layout.{frame, tuple_kind, inside, lead, block_tail, layout, texts, field_texts}
use Rattle.ufmt_core.specs.declared.layout.Setting.{Setting}
use Rattle.ufmt_core.specs.declared.layout.Kind.TheVariants.{Brackets, Braces, Struct, Tuple, Unnamed}
use Rattle.ufmt_core.specs.declared.layout.Count.TheVariants.{Zero}
use Rattle.ufmt_grammar.specs.Token.{Class, Token, Debug, MayEndInDots, OrEmpty, IsName, IsLeaf, IsBuilt, FieldsAreBuilt, normal, normal_fields}
use Rattle.ufmt_grammar.specs.Reading.{Parse, strip, no_dots, strip_dots, strip_only_dots, last_dots, list_with, set_with, map_with, tuple_with, struct_with, front_of, after_front, is_whole, is_name, read_name, read_symbol, read_value, read_pair, read_list, read_map_or_set, read_braces, read_tuple, read_struct, read_unnamed, read_without_name, read_named, read_by_front, read_with, read}
use Rattle.ufmt_grammar.proofs.Parsing.{same_parts, strip_found, led_from, chosen_from}
use Rattle.ufmt_grammar.proofs.ClassLeaves.{IsFrontOf, name_leaf, front_is, fronts_whole, read_name_sound, symbol_is_leaf}
use Rattle.ufmt_core.proofs.Printing.{texts-documents, pair_texts-pairs_of, field_texts-fields_of}
use Rattle.ufmt_grammar.proofs.NormalRows.{IsNormalBelow, documents_tokens, documents_normal, documents_nest, pairs_tokens, pairs_normal, pairs_nest, fields_tokens, fields_normal, fields_nest}
use Rattle.ufmt_grammar.proofs.BlocksSound.{Finds, FoundEntries, FoundPlain, StripsOnly, MayEnd, plain_whole, strips_no_dots, IsGoodPair, keyed_text, read_pair_finds, read_entries_sound, read_after_first_sound, with_first, read_value_sound}
use Rattle.ufmt_grammar.proofs.DottedStructs.{rest_text, rest_text-false, dotted_layout}

-- what is stripped as dots are the dots, in a class that has them
strips_last_dots : (class : Class) (s : Setting) → StripsOnly (strip_dots class s) (last_dots s) (MayEndInDots class)
strips_last_dots Token s = record { allowed = λ t u h. absurd (cc); whole = λ t u h. absurd (cc) }
strips_last_dots Debug s = record { allowed = λ t u h. tt; whole = λ t u h. strip_found (last_dots s) t u h }

strips_only : (class : Class) (t u : List ℕ) → strip_only_dots class t ≡ Some u → MayEndInDots class × (t ≡ codes " { .. }" ++ u)
strips_only Token t u h = absurd (cc)
strips_only Debug t u h = (tt, strip_found (codes " { .. }") t u h)

module _ (class : Class) where
  -- a document of the class in normal form, nested at most n deep, whose text at this mode and depth is the front of `t`
  pub record Found (s : Setting) (n : ℕ) (t : List ℕ) (d : Document) (u : List ℕ) : Type 0 where
    pub tokens : IsBuilt class d
    pub nests : nest d ≤ n
    pub is_normal : normal d ≡ d
    pub whole : t ≡ layout s d ++ u

  read_name_finds : Finds (read_name class) (IsName class) (λ w. w)
  read_name_finds = record { good = λ t w u h. (read_name_sound class t w u h).0; whole = λ t w u h. (read_name_sound class t w u h).1 }

  -- a result of reading: a document and the rest
  abbrev given : Document → List ℕ → Option (Document × List ℕ)
  given d u = Some (d, u)

  -- what was found for a result was found for an equal result
  found_same : {s : Setting} {n : ℕ} {t : List ℕ} (e d : Document) (v u : List ℕ) → Found s n t e v → given e v ≡ given d u → Found s n t d u
  found_same {s} {n} {t} e d v u found same =
      let parts = same_parts {A = Document} {B = List ℕ} (e, v) (d, u) same in
      subst₂ (λ a b. Found s n t a b) parts.0 parts.1 found

  -- a list is found if its entries are found
  list_found : (s : Setting) (n : ℕ) (t v : List ℕ) (d : Document) (u : List ℕ)
      → t ≡ codes "[" ++ (lead (frame s.mode Brackets) (inside s) Zero ++ v)
      → FoundPlain (IsNormalBelow class n) (layout (inside s)) (frame s.mode Brackets) s list_with v d u → Found s n t d u
  list_found s n t v d u front h =
      let some : 0 < n = (let first = h.good.0.nests in omega arith) in
      let nests = documents_nest class n (h.first ∷ h.others) h.good some in
      subst (λ e. Found s n t e u) h.made (record {
        tokens = documents_tokens class n (h.first ∷ h.others) h.good;
        nests = omega arith;
        is_normal = ap list_of (documents_normal class n (h.first ∷ h.others) h.good);
        whole = front ∙ ap (λ w. codes "[" ++ w) (plain_whole h
            ∙ ap (λ ts. block_tail (frame s.mode Brackets) s Zero ts ++ u) (sym (texts-documents (inside s) (h.first ∷ h.others))));
      })

  -- a set is found if its entries are found
  set_found : (s : Setting) (n : ℕ) (t v : List ℕ) (d : Document) (u : List ℕ)
      → t ≡ codes "{" ++ (lead (frame s.mode Braces) (inside s) Zero ++ v)
      → FoundPlain (IsNormalBelow class n) (layout (inside s)) (frame s.mode Braces) s set_with v d u → Found s n t d u
  set_found s n t v d u front h =
      let some : 0 < n = (let first = h.good.0.nests in omega arith) in
      let nests = documents_nest class n (h.first ∷ h.others) h.good some in
      subst (λ e. Found s n t e u) h.made (record {
        tokens = documents_tokens class n (h.first ∷ h.others) h.good;
        nests = omega arith;
        is_normal = ap set_of (documents_normal class n (h.first ∷ h.others) h.good);
        whole = front ∙ ap (λ w. codes "{" ++ w) (plain_whole h
            ∙ ap (λ ts. block_tail (frame s.mode Braces) s Zero ts ++ u) (sym (texts-documents (inside s) (h.first ∷ h.others))));
      })

  -- a map is found if its pairs are found
  map_found : (s : Setting) (n : ℕ) (t v : List ℕ) (d : Document) (u : List ℕ)
      → t ≡ codes "{" ++ (lead (frame s.mode Braces) (inside s) Zero ++ v)
      → FoundPlain (IsGoodPair (IsNormalBelow class n) (IsNormalBelow class n)) (keyed_text (layout (inside s)) (layout (inside s)))
      (frame s.mode Braces) s map_with v d u → Found s n t d u
  map_found s n t v d u front h =
      let some : 0 < n = (let first = h.good.0.0.nests in omega arith) in
      let nests = pairs_nest class n (h.first ∷ h.others) h.good some in
      subst (λ e. Found s n t e u) h.made (record {
        tokens = pairs_tokens class n (h.first ∷ h.others) h.good;
        nests = omega arith;
        is_normal = ap map_of (pairs_normal class n (h.first ∷ h.others) h.good);
        whole = front ∙ ap (λ w. codes "{" ++ w) (plain_whole h
            ∙ ap (λ ts. block_tail (frame s.mode Braces) s Zero ts ++ u) (sym (pair_texts-pairs_of (inside s) (h.first ∷ h.others))));
      })

  -- the text of a struct with fields, which may end in dots
  struct_text : (s : Setting) (name : List ℕ) (first : List ℕ × Document) (others : List (List ℕ × Document)) (b : Bool)
      → name ++ rest_text (frame s.mode Struct) s (last_dots s) Zero (field_texts (inside s) (fields_of (first ∷ others))) b ≡ layout s (struct_with name (first ∷ others, b))
  struct_text s name first others false = ap (λ t. name ++ t) (rest_text-false (frame s.mode Struct) s (last_dots s) Zero (field_texts (inside s) (fields_of (first ∷ others))))
  struct_text s name first others true = sym (dotted_layout s name first.0 first.1 (fields_of others))

  struct_built : (name : List ℕ) (fs : List (List ℕ × Document)) (b : Bool) → MayEnd (MayEndInDots class) b → IsName class name → FieldsAreBuilt class (fields_of fs)
      → IsBuilt class (struct_with name (fs, b))
  struct_built name fs false may word h = (word, h)
  struct_built name fs true may word h = (may, word, h)

  struct_nest : (name : List ℕ) (first : List ℕ × Document) (others : List (List ℕ × Document)) (b : Bool) → nest (struct_with name (first ∷ others, b)) ≡ suc (nest_fields (fields_of (first ∷ others)))
  struct_nest name first others false = refl
  struct_nest name first others true = refl

  struct_normal : (name : List ℕ) (first : List ℕ × Document) (others : List (List ℕ × Document)) (b : Bool) → normal_fields (fields_of (first ∷ others)) ≡ fields_of (first ∷ others)
      → normal (struct_with name (first ∷ others, b)) ≡ struct_with name (first ∷ others, b)
  struct_normal name first others false h = ap (struct_of name) h
  struct_normal name first others true h = ap (non_exhaustive_of name) h

  -- a struct is found if its fields are found
  struct_found : (s : Setting) (n : ℕ) (name t v : List ℕ) (d : Document) (u : List ℕ) → IsName class name
      → t ≡ name ++ (lead (frame s.mode Struct) (inside s) Zero ++ v)
      → FoundEntries (IsGoodPair (IsName class) (IsNormalBelow class n)) (keyed_text (λ w. w) (layout (inside s))) (last_dots s) (MayEndInDots class) (frame s.mode Struct) s
      (struct_with name) v d u → Found s n t d u
  struct_found s n name t v d u word front h =
      let some : 0 < n = (let first = h.good.0.1.nests in omega arith) in
      let nests = fields_nest class n (h.first ∷ h.others) h.good some in
      let deep = struct_nest name h.first h.others h.in_dots in
      let rest : List (List ℕ) → List ℕ = λ ts. rest_text (frame s.mode Struct) s (last_dots s) Zero ts h.in_dots in
      subst (λ e. Found s n t e u) h.made (record {
        tokens = struct_built name (h.first ∷ h.others) h.in_dots h.may word (fields_tokens class n (h.first ∷ h.others) h.good);
        nests = omega (arith, nests, deep);
        is_normal = struct_normal name h.first h.others h.in_dots (fields_normal class n (h.first ∷ h.others) h.good);
        whole = front ∙ ap (λ w. name ++ w) (h.whole
            ∙ ap (λ ts. rest ts ++ u) (sym (field_texts-fields_of (inside s) (h.first ∷ h.others))))
            ∙ sym (append_assoc name (rest (field_texts (inside s) (fields_of (h.first ∷ h.others)))) u)
            ∙ ap (λ w. w ++ u) (struct_text s name h.first h.others h.in_dots);
      })

  -- the text of a tuple with fields, with or without a name
  tuple_text : (s : Setting) (name : List ℕ) (d : Document) (ds : List Document) (u : List ℕ)
      → name ++ (block_tail (frame s.mode (tuple_kind name)) s Zero (map (layout (inside s)) (d ∷ ds)) ++ u) ≡ layout s (tuple_of name (documents (d ∷ ds))) ++ u
  tuple_text s [] d ds u = ap (λ ts. block_tail (frame s.mode Unnamed) s Zero ts ++ u) (sym (texts-documents (inside s) (d ∷ ds)))
  tuple_text s (c ∷ name) d ds u =
      ap (λ ts. (c ∷ name) ++ (block_tail (frame s.mode Tuple) s Zero ts ++ u)) (sym (texts-documents (inside s) (d ∷ ds)))
      ∙ sym (append_assoc (c ∷ name) (block_tail (frame s.mode Tuple) s Zero (texts (inside s) (documents (d ∷ ds)))) u)

  -- a tuple is found if its fields are found
  tuple_found : (s : Setting) (n : ℕ) (name t v : List ℕ) (d : Document) (u : List ℕ) → OrEmpty (IsName class) name
      → t ≡ name ++ (lead (frame s.mode (tuple_kind name)) (inside s) Zero ++ v)
      → FoundPlain (IsNormalBelow class n) (layout (inside s)) (frame s.mode (tuple_kind name)) s (tuple_with name) v d u → Found s n t d u
  tuple_found s n name t v d u word front h =
      let some : 0 < n = (let first = h.good.0.nests in omega arith) in
      let nests = documents_nest class n (h.first ∷ h.others) h.good some in
      let all = documents_tokens class n (h.first ∷ h.others) h.good in
      subst (λ e. Found s n t e u) h.made (record {
        tokens = (word, all.0, all.1);
        nests = omega arith;
        is_normal = ap (tuple_of name) (documents_normal class n (h.first ∷ h.others) h.good);
        whole = front ∙ ap (λ w. name ++ w) (plain_whole h) ∙ tuple_text s name h.first h.others u;
      })

  -- what is read as a list is one
  read_list_sound : (s : Setting) (p : Parse Document) (n : ℕ) → Finds p (IsNormalBelow class n) (layout (inside s))
      → (t v : List ℕ) (d : Document) (u : List ℕ) → t ≡ codes "[" ++ v → read_list s p v ≡ Some (d, u) → Found s n t d u
  read_list_sound s p n finds t v d u front h = elim (chosen_from (strip ((frame s.mode Brackets).closing Zero) v) _ _ (Some (d, u)) h) [
    | inl k ↦ found_same (list_of no_documents) d k.0 u
        (record {
          tokens = tt;
          nests = omega arith;
          is_normal = refl;
          whole = front ∙ ap (λ w. codes "[" ++ w) (strip_found ((frame s.mode Brackets).closing Zero) v k.0 k.1);
        }) k.2
    | inr k ↦
        let after = led_from _ (strip (lead (frame s.mode Brackets) (inside s) Zero) v) (d, u) k.1 in
        list_found s n t after.0 d u (front ∙ ap (λ w. codes "[" ++ w) (strip_found (lead (frame s.mode Brackets) (inside s) Zero) v after.0 after.1))
        (read_entries_sound p (IsNormalBelow class n) (layout (inside s)) no_dots [] ⊥ (frame s.mode Brackets) s list_with finds strips_no_dots after.0 d u after.2)
  ]

  -- what is read in braces after a first document is a map or a set
  read_map_or_set_sound : (s : Setting) (p : Parse Document) (n : ℕ) → Finds p (IsNormalBelow class n) (layout (inside s))
      → (t v w : List ℕ) (first d : Document) (u : List ℕ) → t ≡ codes "{" ++ (lead (frame s.mode Braces) (inside s) Zero ++ v)
      → IsNormalBelow class n first → v ≡ layout (inside s) first ++ w → read_map_or_set s p first w ≡ Some (d, u) → Found s n t d u
  read_map_or_set_sound s p n finds t v w first d u front good whole h = elim (chosen_from (strip (codes ": ") w) _ _ (Some (d, u)) h) [
    | inl k ↦
        let pair_read = led_from _ (read_value p first w) (d, u) k.2 in
        let value = read_value_sound p (IsNormalBelow class n) (layout (inside s)) finds first w pair_read.0.0 pair_read.0.1 pair_read.1 in
        let pair_good : IsGoodPair (IsNormalBelow class n) (IsNormalBelow class n) pair_read.0.0 = subst (IsGoodPair (IsNormalBelow class n) (IsNormalBelow class n)) value.1 (good, value.2) in
        let pair_whole : v ≡ keyed_text (layout (inside s)) (layout (inside s)) pair_read.0.0 ++ pair_read.0.1 = subst (λ y. v ≡ keyed_text (layout (inside s)) (layout (inside s)) y ++ pair_read.0.1) value.1 (whole ∙ ap (λ z. layout (inside s) first ++ z) value.3 ∙ sym (append_assoc (layout (inside s) first) (codes ": " ++ layout (inside s) value.0) pair_read.0.1)) in
        map_found s n t v d u front (with_first pair_read.0.0 v pair_read.0.1 pair_good pair_whole
        (read_after_first_sound (read_pair p p) (IsGoodPair (IsNormalBelow class n) (IsNormalBelow class n))
        (keyed_text (layout (inside s)) (layout (inside s))) no_dots [] ⊥ (frame s.mode Braces) s map_with
        (read_pair_finds p p (IsNormalBelow class n) (IsNormalBelow class n) (layout (inside s))
        (layout (inside s)) finds finds) strips_no_dots pair_read.0.0 pair_read.0.1 d u pair_read.2))
    | inr k ↦ set_found s n t v d u front (with_first first v w good whole
        (read_after_first_sound p (IsNormalBelow class n) (layout (inside s)) no_dots [] ⊥ (frame s.mode Braces) s set_with finds strips_no_dots first w d u k.1))
  ]

  -- what is read as a map or a set is one
  read_braces_sound : (s : Setting) (p : Parse Document) (n : ℕ) → Finds p (IsNormalBelow class n) (layout (inside s))
      → (t v : List ℕ) (d : Document) (u : List ℕ) → t ≡ codes "{" ++ v → read_braces s p v ≡ Some (d, u) → Found s n t d u
  read_braces_sound s p n finds t v d u front h = elim (chosen_from (strip ((frame s.mode Braces).closing Zero) v) _ _ (Some (d, u)) h) [
    | inl k ↦ found_same (map_of no_pairs) d k.0 u
        (record {
          tokens = tt;
          nests = omega arith;
          is_normal = refl;
          whole = front ∙ ap (λ w. codes "{" ++ w) (strip_found ((frame s.mode Braces).closing Zero) v k.0 k.1);
        }) k.2
    | inr k ↦
        let after = led_from _ (strip (lead (frame s.mode Braces) (inside s) Zero) v) (d, u) k.1 in
        let first = led_from _ (p after.0) (d, u) after.2 in
        read_map_or_set_sound s p n finds t after.0 first.0.1 first.0.0 d u
        (front ∙ ap (λ w. codes "{" ++ w) (strip_found (lead (frame s.mode Braces) (inside s) Zero) v after.0 after.1))
        (finds.good after.0 first.0.0 first.0.1 first.1) (finds.whole after.0 first.0.0 first.0.1 first.1) first.2
  ]

  -- what is read as a tuple is one
  read_tuple_sound : (s : Setting) (p : Parse Document) (n : ℕ) → Finds p (IsNormalBelow class n) (layout (inside s))
      → (name t v w : List ℕ) (d : Document) (u : List ℕ) → OrEmpty (IsName class) name → t ≡ name ++ v
      → strip (lead (frame s.mode (tuple_kind name)) (inside s) Zero) v ≡ Some w → read_tuple s p name w ≡ Some (d, u) → Found s n t d u
  read_tuple_sound s p n finds name t v w d u word front after h =
      tuple_found s n name t w d u word (front ∙ ap (λ x. name ++ x) (strip_found (lead (frame s.mode (tuple_kind name)) (inside s) Zero) v w after))
      (read_entries_sound p (IsNormalBelow class n) (layout (inside s)) no_dots [] ⊥ (frame s.mode (tuple_kind name)) s (tuple_with name) finds strips_no_dots w d u h)

  -- what is read as a struct is one
  read_struct_sound : (s : Setting) (p : Parse Document) (n : ℕ) → Finds p (IsNormalBelow class n) (layout (inside s))
      → (name t v w : List ℕ) (d : Document) (u : List ℕ) → IsName class name → t ≡ name ++ v
      → strip (lead (frame s.mode Struct) (inside s) Zero) v ≡ Some w → read_struct class s p name w ≡ Some (d, u) → Found s n t d u
  read_struct_sound s p n finds name t v w d u word front after h =
      struct_found s n name t w d u word (front ∙ ap (λ x. name ++ x) (strip_found (lead (frame s.mode Struct) (inside s) Zero) v w after))
      (read_entries_sound (read_pair (read_name class) p) (IsGoodPair (IsName class) (IsNormalBelow class n)) (keyed_text (λ x. x) (layout (inside s)))
      (strip_dots class s) (last_dots s) (MayEndInDots class) (frame s.mode Struct) s (struct_with name)
      (read_pair_finds (read_name class) p (IsName class) (IsNormalBelow class n) (λ x. x) (layout (inside s)) read_name_finds finds) (strips_last_dots class s) w d u h)

  -- what is read as a struct that has only dots is one
  only_dots_found : (s : Setting) (n : ℕ) (name t v w : List ℕ) → IsName class name → t ≡ name ++ v → strip_only_dots class v ≡ Some w
      → Found s n t (non_exhaustive_of name no_fields) w
  only_dots_found s n name t v w word front h =
      let dots = strips_only class v w h in
      record {
        tokens = (dots.0, word, tt);
        nests = omega arith;
        is_normal = refl;
        whole = front ∙ ap (λ x. name ++ x) dots.1 ∙ sym (append_assoc name (codes " { .. }") w);
      }

  leaf_found : {s : Setting} {n : ℕ} {t : List ℕ} (text u : List ℕ) → IsLeaf class text → t ≡ text ++ u → Found s n t (leaf text) u
  leaf_found text u h whole = record { tokens = h; nests = omega arith; is_normal = refl; whole = whole }

  -- what is read after a word is a tuple, a struct or a leaf
  read_named_sound : (s : Setting) (p : Parse Document) (n : ℕ) → Finds p (IsNormalBelow class n) (layout (inside s))
      → (name t v : List ℕ) (d : Document) (u : List ℕ) → IsName class name → OrEmpty (IsName class) name → t ≡ name ++ v → read_named class s p name v ≡ Some (d, u) → Found s n t d u
  read_named_sound s p n finds name t v d u word bytes front h = elim (chosen_from (strip (lead (frame s.mode (tuple_kind name)) (inside s) Zero) v) _ _ (Some (d, u)) h) [
    | inl k ↦ read_tuple_sound s p n finds name t v k.0 d u bytes front k.1 k.2
    | inr k ↦ elim (chosen_from (strip_only_dots class v) _ _ (Some (d, u)) k.1) [
      | inl k ↦ found_same (non_exhaustive_of name no_fields) d k.0 u (only_dots_found s n name t v k.0 word front k.1) k.2
      | inr k ↦ elim (chosen_from (strip (lead (frame s.mode Struct) (inside s) Zero) v) _ _ (Some (d, u)) k.1) [
        | inl k ↦ read_struct_sound s p n finds name t v k.0 d u word front k.1 k.2
        | inr k ↦ found_same (leaf name) d v u (leaf_found name v (name_leaf class name word) front) k.1
      ]
    ]
  ]

  -- what is read without a word at the front is a list, a set, a map, a leaf or a tuple without a name
  read_without_name_sound : (s : Setting) (p : Parse Document) (n : ℕ) → Finds p (IsNormalBelow class n) (layout (inside s))
      → (t : List ℕ) (d : Document) (u : List ℕ) → read_without_name class s p t ≡ Some (d, u) → Found s n t d u
  read_without_name_sound s p n finds t d u h = elim (chosen_from (strip (codes "[") t) (read_list s p) _ (Some (d, u)) h) [
    | inl k ↦ read_list_sound s p n finds t k.0 d u (strip_found (codes "[") t k.0 k.1) k.2
    | inr k ↦ elim (chosen_from (strip (codes "{") t) (read_braces s p) _ (Some (d, u)) k.1) [
      | inl k ↦ read_braces_sound s p n finds t k.0 d u (strip_found (codes "{") t k.0 k.1) k.2
      | inr k ↦ elim (chosen_from (read_symbol class t) (λ x. given (leaf x.0) x.1) (read_unnamed s p t) (Some (d, u)) k.1) [
        | inl k ↦
            let found = symbol_is_leaf class t k.0.0 k.0.1 k.1 in
            found_same (leaf k.0.0) d k.0.1 u (leaf_found k.0.0 k.0.1 found.0 found.1) k.2
        | inr k ↦
            let after = led_from _ (strip (lead (frame s.mode Unnamed) (inside s) Zero) t) (d, u) k.1 in
            read_tuple_sound s p n finds [] t t after.0 d u tt refl after.1 after.2
      ]
    ]
  ]

  -- what is read is found, whatever the longest leaf at the front is
  read_by_front_sound : (s : Setting) (p : Parse Document) (n : ℕ) → Finds p (IsNormalBelow class n) (layout (inside s))
      → (t front v : List ℕ) (d : Document) (u : List ℕ) → IsFrontOf class front → t ≡ front ++ v → read_by_front class s p t front v ≡ Some (d, u) → Found s n t d u
  read_by_front_sound s p n finds t [] v d u is whole h = read_without_name_sound s p n finds t d u h
  read_by_front_sound s p n finds t (c ∷ front) v d u is whole h = elim (cases_Bool (is_whole class (c ∷ front))) [
    | inl e ↦ elim (cases_Bool (is_name class (c ∷ front))) [
      | inl f ↦ let word = is.name some e f in read_named_sound s p n finds (c ∷ front) t v d u word word whole (rw (e, f) at h)
      | inr f ↦ found_same (leaf (c ∷ front)) d v u (leaf_found (c ∷ front) v (is.leaf some e) whole) (rw (e, f) at h)
    ]
    | inr e ↦ let none = rw e at h in absurd (cc)
  ]
    where
      some : c ∷ front ≢ []
      some none = absurd (cc)

  -- reading a document is sound if reading its entries is sound
  read_with_sound : (s : Setting) (p : Parse Document) (n : ℕ) → Finds p (IsNormalBelow class n) (layout (inside s))
      → (t : List ℕ) (d : Document) (u : List ℕ) → read_with class s p t ≡ Some (d, u) → Found s n t d u
  read_with_sound s p n finds t d u h = read_by_front_sound s p n finds t (front_of class t) (after_front class t) d u (front_is class t) (fronts_whole class t) h

  pub read_sound : (n : ℕ) (s : Setting) (t : List ℕ) (d : Document) (u : List ℕ) → read class s n t ≡ Some (d, u) → Found s n t d u
  unfolding read
  read_sound zero s t d u h = read_with_sound s (λ v. None) zero (record { good = λ v x w k. absurd (cc); whole = λ v x w k. absurd (cc) }) t d u h
  read_sound (suc n) s t d u h = read_with_sound s (read class (inside s) n) (suc n) (record {
    good = λ v x w k. let found = read_sound n (inside s) v x w k in record { tokens = found.tokens; nests = omega (arith, found.nests); is_normal = found.is_normal };
    whole = λ v x w k. (read_sound n (inside s) v x w k).whole;
  }) t d u h
