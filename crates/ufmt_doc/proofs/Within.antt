-- A block is a document of a class if its entries are.
use Rattle.std.proofs.Common.{◌≡◌, refl, Bool, ◌==◌, ℕ, ◌-◌, ◌<◌, true, false, List, [], ◌∷◌, length, map, arith, eqb-true, String, Global, ◌∙◌, cond, Vec, vec_len}
use Rattle.std.specs.Prelude.{◌↔◌, IsTrue, string_bytes}
use Rattle.std.specs.Bool.{MatchBool}
use Rattle.std.specs.List.{AllByRecursion, AllWithin, HoldsAt}
use Rattle.std.proofs.lemmas.Iterator.Search.{true_from_All}
use Rattle.std.proofs.lemmas.List.Elements.{All-from_all_within, All-from_recursion, recursion_from_All}
use Rattle.ufmt.specs.Document.{list_of, map_of, struct_of, non_exhaustive_of, tuple_of, documents, pairs_of, fields_of, Fields, no_fields, first_field}
use Rattle.ufmt_grammar.specs.declared.class.Class.{Class}
use Rattle.ufmt.specs.Token.{IsName, MayEndInDots}
use Rattle.ufmt_grammar.proofs.ClassLeaves.{name_some}
use Rattle.ufmt_doc.specs.declared.doc.Tree.TheVariants.{TupleOf}
use Rattle.ufmt_doc.specs.Doc.{tree_document, Tree}
use Rattle.ufmt_doc.specs.DocViews.{pair_view, field_view}
use Rattle.ufmt_doc.specs.Private.{IsBuiltWithin, IsStructName}
use Rattle.ufmt_doc.specs.StructNames.{named_struct}
use Rattle.ufmt_doc.proofs.Trees.{tree_document-TupleOf}
use Rattle.ufmt_doc.proofs.NormalForms.{is_some}

pub as_well : {A B C : Type 0} → A ↔ B → B ↔ C → A ↔ C
as_well h k = (λ a. k.0 (h.0 a), λ c. h.1 (k.1 c))

-- `all` tests whether each item passes
pub all_decides : {X : Type 0} (Passes : X → Type 0) (outcome : Bool) (xs : List X)
    → MatchBool outcome (AllWithin Passes xs 0 (length xs)) ((k : ℕ) × (k < length xs) × HoldsAt (λ x. Passes x → ⊥) xs k)
    → IsTrue outcome ↔ AllByRecursion Passes xs
all_decides Passes true xs h = (λ yes. recursion_from_All Passes xs (All-from_all_within Passes xs h), λ all. refl)
all_decides Passes false xs h = (λ yes. absurd (cc), λ all. true_from_All Passes (λ x. Passes x → ⊥) false xs (λ x p q. q p) h (All-from_recursion Passes xs all))

module _ {N : Type 0} (shown : N → List ℕ × Bool) (class : Class) (n : ℕ) where
  -- a list or a set, by its entries
  pub docs_within : (ds : List (Tree N))
      → AllByRecursion (λ d. (0 < n) × IsBuiltWithin class (n - 1) (tree_document shown d)) ds ↔ IsBuiltWithin class n (list_of (documents (map (tree_document shown) ds)))
  docs_within [] = (λ h. (tt, omega arith), λ h. tt)
  docs_within (d ∷ []) = (
    λ ((some, (built, deep)), none). ((built, tt), omega arith),
    λ ((built, none), deep). ((omega arith, (built, omega arith)), tt),
  )
  docs_within (d ∷ e ∷ ds) =
      let rest = docs_within (e ∷ ds) in (
        λ ((some, (built, deep)), others). let (all_built, most) = rest.0 others in ((built, all_built), omega arith),
        λ ((built, others), deep). ((omega arith, (built, omega arith)), rest.1 (others, omega arith)),
      )

  -- a map, by its pairs
  pub pairs_within : (ps : List (Tree N × Tree N))
      → AllByRecursion (λ p. (0 < n) × (IsBuiltWithin class (n - 1) (tree_document shown p.0) × IsBuiltWithin class (n - 1) (tree_document shown p.1))) ps
      ↔ IsBuiltWithin class n (map_of (pairs_of (map (pair_view shown) ps)))
  pairs_within [] = (λ h. (tt, omega arith), λ h. tt)
  pairs_within (p ∷ []) = (
    λ ((some, ((key, key_deep), (value, value_deep))), none). ((key, value, tt), omega arith),
    λ ((key, value, none), deep). ((omega arith, ((key, omega arith), (value, omega arith))), tt),
  )
  pairs_within (p ∷ q ∷ ps) =
      let rest = pairs_within (q ∷ ps) in (
        λ ((some, ((key, key_deep), (value, value_deep))), others). let (all_built, most) = rest.0 others in ((key, value, all_built), omega arith),
        λ ((key, value, others), deep). ((omega arith, ((key, omega arith), (value, omega arith))), rest.1 (others, omega arith)),
      )

  -- a struct with this name, by its fields
  exhaustive_within : (name : List ℕ) → IsName class name → (fs : List (String Global × Tree N))
      → AllByRecursion (λ f. (0 < n) × (IsName class (string_bytes f.0) × IsBuiltWithin class (n - 1) (tree_document shown f.1))) fs
      ↔ IsBuiltWithin class n (struct_of name (fields_of (map (field_view shown) fs)))
  exhaustive_within name named [] = (λ h. ((named, tt), omega arith), λ h. tt)
  exhaustive_within name named (f ∷ []) = (
    λ ((some, (label, (value, value_deep))), none). ((named, (label, value, tt)), omega arith),
    λ ((same, (label, value, none)), deep). ((omega arith, (label, (value, omega arith))), tt),
  )
  exhaustive_within name named (f ∷ g ∷ fs) =
      let rest = exhaustive_within name named (g ∷ fs) in (
        λ ((some, (label, (value, value_deep))), others).
            let ((same, all_built), most) = rest.0 others in ((named, (label, value, all_built)), omega arith),
        λ ((same, (label, value, others)), deep). ((omega arith, (label, (value, omega arith))), rest.1 ((named, others), omega arith)),
      )

  -- a struct that ends in dots, as the struct of its fields
  dotted_within : (name : List ℕ) (fs : Fields) → MayEndInDots class → IsBuiltWithin class n (struct_of name fs) ↔ IsBuiltWithin class n (non_exhaustive_of name fs)
  dotted_within name no_fields may = (λ h. ((may, h.0.0, h.0.1), h.1), λ h. ((h.0.1, h.0.2), h.1))
  dotted_within name (first_field field_name value fs) may = (λ h. ((may, h.0.0, h.0.1), h.1), λ h. ((h.0.1, h.0.2), h.1))

  named_within : (text : List ℕ) (dots : Bool) → IsStructName class (text, dots) → (fs : List (String Global × Tree N))
      → AllByRecursion (λ f. (0 < n) × (IsName class (string_bytes f.0) × IsBuiltWithin class (n - 1) (tree_document shown f.1))) fs
      ↔ IsBuiltWithin class n (named_struct (text, dots) (fields_of (map (field_view shown) fs)))
  named_within text false named fs = exhaustive_within text named.0 fs
  named_within text true named fs = as_well (exhaustive_within text named.0 fs) (dotted_within text _ (named.1 refl))

  pub fields_within : (name : List ℕ × Bool) → IsStructName class name → (fs : List (String Global × Tree N))
      → AllByRecursion (λ f. (0 < n) × (IsName class (string_bytes f.0) × IsBuiltWithin class (n - 1) (tree_document shown f.1))) fs
      ↔ IsBuiltWithin class n (named_struct name (fields_of (map (field_view shown) fs)))
  fields_within name named fs = named_within name.0 name.1 named fs

  -- a tuple, by its fields: it has a name, or it has none and has fields
  pub tuple_within : (name : List ℕ) → IsName class name → (ds : List (Tree N))
      → IsBuiltWithin class n (list_of (documents (map (tree_document shown) ds))) ↔ IsBuiltWithin class n (tuple_of name (documents (map (tree_document shown) ds)))
  tuple_within [] named ds = absurd (name_some class named)
  tuple_within (c ∷ name) named [] = (λ h. (named, h.1), λ h. (tt, h.1))
  tuple_within (c ∷ name) named (d ∷ ds) = (λ h. ((named, h.0.0, h.0.1), h.1), λ h. ((h.0.1, h.0.2), h.1))

  unnamed : (name : List ℕ) (ds : List (Tree N)) (empty : Bool) → (length name == 0) ≡ true → empty ≡ (length ds == 0)
      → cond empty ⊥ (IsBuiltWithin class n (list_of (documents (map (tree_document shown) ds)))) ↔ IsBuiltWithin class n (tuple_of name (documents (map (tree_document shown) ds)))
  unnamed (c ∷ name) ds empty none is = let e = eqb-true (length (c ∷ name)) 0 none in absurd (omega arith)
  unnamed [] [] empty none is = rw is (λ h. absurd h, λ h. absurd (name_some class h.0))
  unnamed [] (d ∷ ds) empty none is = rw (is ∙ is_some d ds) (λ h. ((tt, h.0.0, h.0.1), h.1), λ h. ((h.0.1, h.0.2), h.1))

  pub unnamed_within : (name : String Global) (fields : Vec (Tree N) Global) (empty : Bool) → (vec_len name.bytes == 0) ≡ true → empty ≡ (vec_len fields == 0)
      → cond empty ⊥ (IsBuiltWithin class n (list_of (documents (map (tree_document shown) fields.items)))) ↔ IsBuiltWithin class n (tree_document shown (TupleOf name fields))
  unnamed_within name fields empty none is =
      rw (tree_document-TupleOf shown name fields) (unnamed (string_bytes name) fields.items empty (rw name.bytes.ok.0 at none) (rw fields.ok.0 at is))
