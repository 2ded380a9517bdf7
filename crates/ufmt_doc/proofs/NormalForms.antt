-- The normal forms of lists of documents, and when two `Tree`s have the same normal form.
use Rattle.std.proofs.Common.{◌≡◌, ◌||◌, not, inl, inr, set, refl, sym, ap, ◌∙◌, ◌==◌, ◌+◌, ℕ, List, [], ◌∷◌, length, map, Bool, Bor, true, false, None, cond, String, Vec, Global, arith, suc, ◌<◌, ◌≤◌, get_or}
use Rattle.std.specs.Vec.{with_items}
use Rattle.std.proofs.lemmas.Bool.Decides.{nat_tests}
use Rattle.std.proofs.lemmas.Bool.{cases_eq}
use Rattle.std.proofs.lemmas.Grind.{get_or-set_at}
use Rattle.std.proofs.lemmas.List.{get_or_default, get_or-set_other, length-set, with_items_is}
use Rattle.std.specs.Prelude.{IsTrue, ◌↔◌, string_bytes, vec_len}
use Rattle.std.specs.Bool.{then_some}
use Rattle.std.specs.List.{AllByRecursion, AllZip, zip}
use Rattle.ufmt.specs.Document.{Document, leaf, list_of, set_of, map_of, struct_of, non_exhaustive_of, tuple_of, documents, pairs_of, Fields, no_fields, fields_of, first_document, first_pair, first_field}
use Rattle.ufmt.specs.Token.{normal, normal_all, normal_pairs, normal_fields}
use Rattle.ufmt_doc.specs.declared.doc.Tree.TheVariants.{SetOf, MapOf, StructOf, TupleOf}
use Rattle.ufmt_doc.specs.Doc.{tree_document, Tree}
use Rattle.ufmt_doc.specs.DocViews.{pair_view, field_view}
use Rattle.ufmt_doc.specs.Parts.{leaf_part}
use Rattle.ufmt_doc.specs.StructNames.{named_struct}
use Rattle.ufmt_scan.specs.Rest.{now_of}
use Rattle.ufmt_doc.proofs.Trees.{tree_document-SetOf, tree_document-MapOf, tree_document-StructOf, tree_document-TupleOf}

-- for lists of one length, a relation holds for all pairs of items exactly if it holds place by place
pub zipped : {X : Type 0} (R : X → X → Type 0) (xs ys : List X) → length xs ≡ length ys → AllByRecursion (λ p. R p.0 p.1) (zip xs ys) ↔ AllZip R xs ys
zipped R [] [] long = (λ h. tt, λ h. tt)
zipped R [] (y ∷ ys) long = absurd (omega arith)
zipped R (x ∷ xs) [] long = absurd (omega arith)
zipped R (x ∷ xs) (y ∷ ys) long = let rest = zipped R xs ys (omega arith) in (λ h. (h.0, rest.0 h.1), λ h. (h.0, rest.1 h.1))

-- a list with a first item is not empty
pub is_some : {A : Type 0} (x : A) (xs : List A) → (length (x ∷ xs) == 0) ≡ false
is_some x xs = grind (arith, nat_tests)

-- what the name of a struct shows, from its normal form
name_of : Document → List ℕ × Bool
name_of (leaf text) = (text, false)
name_of (struct_of text fs) = (text, false)
name_of (non_exhaustive_of text fs) = (text, true)
name_of d = ([], false)

name_seen : (text : List ℕ) (dots : Bool) (fs : Fields) → name_of (normal (named_struct (text, dots) fs)) ≡ (text, dots)
unfolding name_of
name_seen text true fs = refl
name_seen text false no_fields = refl
name_seen text false (first_field name value fs) = refl

-- structs with the same normal form have the same name
pub same_name : (a b : List ℕ × Bool) (fs gs : Fields) → normal (named_struct a fs) ≡ normal (named_struct b gs) → a ≡ b
same_name a b fs gs same = sym (name_seen a.0 a.1 fs) ∙ ap name_of same ∙ name_seen b.0 b.1 gs

module _ {N : Type 0} (shown : N → List ℕ × Bool) where
  abbrev SameTree : Tree N → Tree N → Type 0
  SameTree d e = normal (tree_document shown d) ≡ normal (tree_document shown e)

  -- two lists of entries, pairs or fields have the same normal form exactly if the items at each place do
  docs_same : (ds es : List (Tree N)) → AllZip SameTree ds es ↔ (normal_all (documents (map (tree_document shown) ds)) ≡ normal_all (documents (map (tree_document shown) es)))
  docs_same [] [] = (λ h. refl, λ h. tt)
  docs_same [] (e ∷ es) = (λ h. absurd h, λ h. absurd (cc))
  docs_same (d ∷ ds) [] = (λ h. absurd h, λ h. absurd (cc))
  docs_same (d ∷ ds) (e ∷ es) = let rest = docs_same ds es in (λ h. let more = rest.0 h.1 in cc, λ h. (cc, rest.1 (cc)))

  pairs_same : (ps qs : List (Tree N × Tree N)) → AllZip (λ p q. SameTree p.0 q.0 × SameTree p.1 q.1) ps qs
      ↔ (normal_pairs (pairs_of (map (pair_view shown) ps)) ≡ normal_pairs (pairs_of (map (pair_view shown) qs)))
  pairs_same [] [] = (λ h. refl, λ h. tt)
  pairs_same [] (q ∷ qs) = (λ h. absurd h, λ h. absurd (cc))
  pairs_same (p ∷ ps) [] = (λ h. absurd h, λ h. absurd (cc))
  pairs_same (p ∷ ps) (q ∷ qs) = let rest = pairs_same ps qs in (λ h. let more = rest.0 h.1 in cc, λ h. ((cc, cc), rest.1 (cc)))

  fields_same : (fs gs : List (String Global × Tree N)) → AllZip (λ f g. (string_bytes f.0 ≡ string_bytes g.0) × SameTree f.1 g.1) fs gs
      ↔ (normal_fields (fields_of (map (field_view shown) fs)) ≡ normal_fields (fields_of (map (field_view shown) gs)))
  fields_same [] [] = (λ h. refl, λ h. tt)
  fields_same [] (g ∷ gs) = (λ h. absurd h, λ h. absurd (cc))
  fields_same (f ∷ fs) [] = (λ h. absurd h, λ h. absurd (cc))
  fields_same (f ∷ fs) (g ∷ gs) = let rest = fields_same fs gs in (λ h. let more = rest.0 h.1 in cc, λ h. ((cc, cc), rest.1 (cc)))

  -- the same for blocks with the same kind and name
  pub lists_same : (ds es : List (Tree N))
      → AllZip SameTree ds es ↔ (normal (list_of (documents (map (tree_document shown) ds))) ≡ normal (list_of (documents (map (tree_document shown) es))))
  lists_same ds es = let all = docs_same ds es in (λ h. ap list_of (all.0 h), λ h. all.1 (cc))

  pub sets_same : (ds es : List (Tree N))
      → AllZip SameTree ds es ↔ (normal (set_of (documents (map (tree_document shown) ds))) ≡ normal (set_of (documents (map (tree_document shown) es))))
  sets_same [] [] = (λ h. refl, λ h. tt)
  sets_same [] (e ∷ es) = (λ h. absurd h, λ h. absurd (cc))
  sets_same (d ∷ ds) [] = (λ h. absurd h, λ h. absurd (cc))
  sets_same (d ∷ ds) (e ∷ es) = let all = docs_same (d ∷ ds) (e ∷ es) in (λ h. let same = all.0 h in cc, λ h. all.1 (cc))

  pub maps_same : (ps qs : List (Tree N × Tree N)) → AllZip (λ p q. SameTree p.0 q.0 × SameTree p.1 q.1) ps qs
      ↔ (normal (map_of (pairs_of (map (pair_view shown) ps))) ≡ normal (map_of (pairs_of (map (pair_view shown) qs))))
  maps_same ps qs = let all = pairs_same ps qs in (λ h. ap map_of (all.0 h), λ h. all.1 (cc))

  exhaustive_same : (name : List ℕ) (fs gs : List (String Global × Tree N))
      → AllZip (λ f g. (string_bytes f.0 ≡ string_bytes g.0) × SameTree f.1 g.1) fs gs
      ↔ (normal (struct_of name (fields_of (map (field_view shown) fs))) ≡ normal (struct_of name (fields_of (map (field_view shown) gs))))
  exhaustive_same name [] [] = (λ h. refl, λ h. tt)
  exhaustive_same name [] (g ∷ gs) = (λ h. absurd h, λ h. absurd (cc))
  exhaustive_same name (f ∷ fs) [] = (λ h. absurd h, λ h. absurd (cc))
  exhaustive_same name (f ∷ fs) (g ∷ gs) = let all = fields_same (f ∷ fs) (g ∷ gs) in (λ h. let same = all.0 h in cc, λ h. all.1 (cc))

  dotted_same : (name : List ℕ) (fs gs : List (String Global × Tree N))
      → AllZip (λ f g. (string_bytes f.0 ≡ string_bytes g.0) × SameTree f.1 g.1) fs gs
      ↔ (normal (non_exhaustive_of name (fields_of (map (field_view shown) fs))) ≡ normal (non_exhaustive_of name (fields_of (map (field_view shown) gs))))
  dotted_same name fs gs = let all = fields_same fs gs in (λ h. ap (non_exhaustive_of name) (all.0 h), λ h. all.1 (cc))

  named_same : (text : List ℕ) (dots : Bool) (fs gs : List (String Global × Tree N))
      → AllZip (λ f g. (string_bytes f.0 ≡ string_bytes g.0) × SameTree f.1 g.1) fs gs
      ↔ (normal (named_struct (text, dots) (fields_of (map (field_view shown) fs))) ≡ normal (named_struct (text, dots) (fields_of (map (field_view shown) gs))))
  named_same text true fs gs = dotted_same text fs gs
  named_same text false fs gs = exhaustive_same text fs gs

  pub structs_same : (name : List ℕ × Bool) (fs gs : List (String Global × Tree N))
      → AllZip (λ f g. (string_bytes f.0 ≡ string_bytes g.0) × SameTree f.1 g.1) fs gs
      ↔ (normal (named_struct name (fields_of (map (field_view shown) fs))) ≡ normal (named_struct name (fields_of (map (field_view shown) gs))))
  structs_same name fs gs = named_same name.0 name.1 fs gs

  pub tuples_same : (name : List ℕ) (ds es : List (Tree N))
      → AllZip SameTree ds es ↔ (normal (tuple_of name (documents (map (tree_document shown) ds))) ≡ normal (tuple_of name (documents (map (tree_document shown) es))))
  tuples_same name [] [] = (λ h. refl, λ h. tt)
  tuples_same name [] (e ∷ es) = (λ h. absurd h, λ h. absurd (cc))
  tuples_same name (d ∷ ds) [] = (λ h. absurd h, λ h. absurd (cc))
  tuples_same name (d ∷ ds) (e ∷ es) = let all = docs_same (d ∷ ds) (e ∷ es) in (λ h. let same = all.0 h in cc, λ h. all.1 (cc))

  -- in normal form, an empty set is an empty map, and no other set is a map
  braces : (ds : List (Tree N)) (ps : List (Tree N × Tree N)) (outcome : Bool) → outcome ≡ (length ds + length ps == 0)
      → IsTrue outcome ↔ (normal (set_of (documents (map (tree_document shown) ds))) ≡ normal (map_of (pairs_of (map (pair_view shown) ps))))
  braces [] [] outcome is = (λ yes. refl, λ same. is)
  braces [] (p ∷ ps) outcome is = let some : outcome ≡ false = grind (arith, nat_tests) in (λ yes. absurd (cc), λ same. absurd (cc))
  braces (d ∷ ds) ps outcome is = let some : outcome ≡ false = grind (arith, nat_tests) in (λ yes. absurd (cc), λ same. absurd (cc))

  pub braces_same : (s m : Tree N) (v : Vec (Tree N) Global) (w : Vec (Tree N × Tree N) Global) (outcome : Bool) → s ≡ SetOf v → m ≡ MapOf w
      → outcome ≡ (vec_len v + vec_len w == 0) → IsTrue outcome ↔ SameTree s m
  braces_same s m v w outcome set_is map_is is =
      rw (set_is, tree_document-SetOf shown v, map_is, tree_document-MapOf shown w) (braces v.items w.items outcome (is ∙ rw (v.ok.0, w.ok.0) refl))

  -- a struct that doesn't end in dots or a tuple is a leaf in normal form exactly if it has no fields
  struct_or_leaf : (name : List ℕ) (fs : List (String Global × Tree N)) → let all = fields_of (map (field_view shown) fs) in
      normal (struct_of name all) ≡ cond (length fs == 0) (leaf name) (struct_of name (normal_fields all))
  struct_or_leaf name [] = refl
  struct_or_leaf name (f ∷ fs) = rw (is_some f fs) refl

  tuple_or_leaf : (name : List ℕ) (ds : List (Tree N)) → let all = documents (map (tree_document shown) ds) in
      normal (tuple_of name all) ≡ cond (length ds == 0) (leaf name) (tuple_of name (normal_all all))
  tuple_or_leaf name [] = refl
  tuple_or_leaf name (d ∷ ds) = rw (is_some d ds) refl

  named_or_leaf : (text : List ℕ) (dots : Bool) (fs : List (String Global × Tree N)) → let all = fields_of (map (field_view shown) fs) in
      normal (named_struct (text, dots) all) ≡ cond dots (non_exhaustive_of text (normal_fields all)) (cond (length fs == 0) (leaf text) (struct_of text (normal_fields all)))
  named_or_leaf text true fs = refl
  named_or_leaf text false fs = struct_or_leaf text fs

  pub struct_form : (dots empty : Bool) (d : Tree N) (name : N) (fields : Vec (String Global × Tree N) Global) → d ≡ StructOf name fields
      → dots ≡ (shown name).1 → empty ≡ (vec_len fields == 0)
      → normal (tree_document shown d) ≡ cond dots (non_exhaustive_of (shown name).0 (normal_fields (fields_of (map (field_view shown) fields.items))))
      (cond empty (leaf (shown name).0) (struct_of (shown name).0 (normal_fields (fields_of (map (field_view shown) fields.items)))))
  struct_form dots empty d name fields is ends test =
      rw (is, tree_document-StructOf shown name fields, named_or_leaf (shown name).0 (shown name).1 fields.items, ← fields.ok.0, ← ends, ← test) refl

  named_block : (text : List ℕ) (dots : Bool) (fs : List (String Global × Tree N)) → (dots || not (length fs == 0)) ≡ true → let all = fields_of (map (field_view shown) fs) in
      normal (named_struct (text, dots) all) ≡ named_struct (text, dots) (normal_fields all)
  named_block text true fs block = refl
  named_block text false [] block = absurd (cc)
  named_block text false (f ∷ fs) block = refl

  -- the normal form of a struct that ends in dots or has fields
  pub struct_block : (d : Tree N) (name : N) (fields : Vec (String Global × Tree N) Global) → d ≡ StructOf name fields → ((shown name).1 || not (vec_len fields == 0)) ≡ true
      → normal (tree_document shown d) ≡ named_struct (shown name) (normal_fields (fields_of (map (field_view shown) fields.items)))
  struct_block d name fields is block = rw (is, tree_document-StructOf shown name fields) (named_block (shown name).0 (shown name).1 fields.items (rw fields.ok.0 at block))

  named_leaf : (text : List ℕ) (dots : Bool) (fs : List (String Global × Tree N)) → (dots || not (length fs == 0)) ≡ false
      → normal (named_struct (text, dots) (fields_of (map (field_view shown) fs))) ≡ leaf text
  named_leaf text true fs none = absurd (cc)
  named_leaf text false [] none = refl
  named_leaf text false (f ∷ fs) none = absurd (cc (is_some f fs))

  -- of any other struct
  pub struct_leaf : (d : Tree N) (name : N) (fields : Vec (String Global × Tree N) Global) → d ≡ StructOf name fields → ((shown name).1 || not (vec_len fields == 0)) ≡ false
      → normal (tree_document shown d) ≡ leaf (shown name).0
  struct_leaf d name fields is none = rw (is, tree_document-StructOf shown name fields) (named_leaf (shown name).0 (shown name).1 fields.items (rw fields.ok.0 at none))

  set_of_some : (ds : List (Tree N)) → false ≡ (length ds == 0) → let all = documents (map (tree_document shown) ds) in normal (set_of all) ≡ set_of (normal_all all)
  set_of_some [] some = absurd (cc)
  set_of_some (d ∷ ds) some = refl

  -- the same for a set and a map
  pub set_filled : (d : Tree N) (entries : Vec (Tree N) Global) → d ≡ SetOf entries → false ≡ (vec_len entries == 0)
      → normal (tree_document shown d) ≡ set_of (normal_all (documents (map (tree_document shown) entries.items)))
  set_filled d entries is some = rw (is, tree_document-SetOf shown entries) (set_of_some entries.items (rw entries.ok.0 at some))

  pub map_form : (d : Tree N) (pairs : Vec (Tree N × Tree N) Global) → d ≡ MapOf pairs
      → normal (tree_document shown d) ≡ map_of (normal_pairs (pairs_of (map (pair_view shown) pairs.items)))
  map_form d pairs is = rw (is, tree_document-MapOf shown pairs) refl

  no_entries : (ds : List (Tree N)) → true ≡ (length ds == 0) → normal (set_of (documents (map (tree_document shown) ds))) ≡ map_of (pairs_of [])
  no_entries [] none = refl
  no_entries (d ∷ ds) none = absurd (cc (is_some d ds))

  pub set_empty : (d : Tree N) (entries : Vec (Tree N) Global) → d ≡ SetOf entries → true ≡ (vec_len entries == 0) → normal (tree_document shown d) ≡ map_of (pairs_of [])
  set_empty d entries is none = rw (is, tree_document-SetOf shown entries) (no_entries entries.items (rw entries.ok.0 at none))

  pub tuple_form : (empty : Bool) (d : Tree N) (name : String Global) (fields : Vec (Tree N) Global) → d ≡ TupleOf name fields → empty ≡ (vec_len fields == 0)
      → normal (tree_document shown d) ≡ cond empty (leaf (string_bytes name)) (tuple_of (string_bytes name) (normal_all (documents (map (tree_document shown) fields.items))))
  tuple_form empty d name fields is test = rw (is, tree_document-TupleOf shown name fields, tuple_or_leaf (string_bytes name) fields.items, ← fields.ok.0, ← test) refl

pub leaf_of : (empty : Bool) (name : Bor (List ℕ)) (block : Document) → leaf_part block ≡ None → now_of (then_some empty name) ≡ leaf_part (cond empty (leaf name.now) block)
leaf_of true name block none = refl
leaf_of false name block none = sym none

-- the first i items, viewed by `now`, are what `then` makes of the old items
abbrev pub HasBecome : {X V : Type 0} → (X → V) → (X → V) → ℕ → List X → List X → Type 0
HasBecome {X} now then i xs ys = (k : ℕ) → k < i → (d : X) → now (get_or xs k d) ≡ then (get_or ys k d)

-- the items from i on are as they were
abbrev pub AreLeft : {X : Type 0} → ℕ → List X → List X → Type 0
AreLeft {X} i xs ys = (length xs ≡ length ys) × ((k : ℕ) (d : X) → i ≤ k → get_or xs k d ≡ get_or ys k d)

-- a visit of item i
module _ {X V : Type 0} (now then : X → V) (i : ℕ) (xs ys : List X) (item new : X) (left : AreLeft i xs ys) (within : i < length ys) (is : item ≡ get_or xs i item) where
  pub visit_leaves : AreLeft (i + 1) (set xs i new) ys
  visit_leaves = (length-set xs i new ∙ left.0, λ k d after. get_or-set_other xs i k new d (λ same. omega (arith, same)) ∙ left.1 k d (omega arith))

  item_was : (d : X) → item ≡ get_or ys i d
  item_was d = is ∙ get_or_default xs i item d (omega (arith, left.0)) ∙ left.1 i d (omega arith)

  pub visited : HasBecome now then i xs ys → now new ≡ then item → HasBecome now then (i + 1) (set xs i new) ys
  visited done became = λ k below d. elim (cases_eq k i) [
    | inr other ↦ ap now (get_or-set_other xs i k new d other) ∙ done k (omega (arith, other)) d
    | inl same ↦ ap now (get_or-set_at xs i k new d same (omega (arith, left.0))) ∙ became ∙ ap then (item_was d ∙ ap (λ n. get_or ys n d) (sym same))
  ]

-- the same for all items, if there are at most i
pub HasBecome-all : {X V : Type 0} (now then : X → V) (i : ℕ) (xs ys : List X) → length xs ≡ length ys → length ys ≤ i
    → HasBecome now then i xs ys → map now xs ≡ map then ys
HasBecome-all now then i [] [] same all h = refl
HasBecome-all now then i [] (y ∷ ys) same all h = absurd (omega arith)
HasBecome-all now then i (x ∷ xs) [] same all h = absurd (omega arith)
HasBecome-all now then i (x ∷ xs) (y ∷ ys) same all h =
    let first : now x ≡ then y = h 0 (omega arith) x in
    let others : map now xs ≡ map then ys = HasBecome-all now then (length ys) xs ys (omega arith) (omega arith) (λ k below. h (suc k) (omega arith)) in
    cc

-- what a borrowed vector's items became, the vector's items became
pub became : {X D : Type 0} (of : List X → D) (then : D → D) (old : Vec X Global) (new seen : List X) → length new ≡ length seen → seen ≡ old.items
    → of new ≡ then (of seen) → of (with_items old new).items ≡ then (of old.items)
became of then old new seen long is made = ap of (with_items_is old new (long ∙ ap length is ∙ sym old.ok.0)) ∙ made ∙ ap (λ xs. then (of xs)) is

-- the normal form of a list of documents, pairs or fields is that of each item
pub normal_all-map : {X : Type 0} (f : X → Document) (xs : List X) → documents (map (λ x. normal (f x)) xs) ≡ normal_all (documents (map f xs))
normal_all-map f [] = refl
normal_all-map f (x ∷ xs) = ap (first_document (normal (f x))) (normal_all-map f xs)

pub normal_pairs-map : {X : Type 0} (f : X → Document × Document) (xs : List X)
    → pairs_of (map (λ x. (normal (f x).0, normal (f x).1)) xs) ≡ normal_pairs (pairs_of (map f xs))
normal_pairs-map f [] = refl
normal_pairs-map f (x ∷ xs) = ap (first_pair (normal (f x).0) (normal (f x).1)) (normal_pairs-map f xs)

pub normal_fields-map : {X : Type 0} (f : X → List ℕ × Document) (xs : List X)
    → fields_of (map (λ x. ((f x).0, normal (f x).1)) xs) ≡ normal_fields (fields_of (map f xs))
normal_fields-map f [] = refl
normal_fields-map f (x ∷ xs) = ap (first_field (f x).0 (normal (f x).1)) (normal_fields-map f xs)
