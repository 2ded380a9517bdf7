-- Which whole texts are leaves and names.
use Rattle.std.proofs.Common.{List, None, Some, [], ap, append-nil, arith, false, true, refl, subst, sym, ℕ, ◌==◌, ◌∙◌, ◌∷◌, ◌≡◌, ◌++◌, Bool, length}
use Rattle.std.proofs.lemmas.Bool.Decides.{nat_tests}
use Rattle.std.specs.Prelude.{◌↔◌, IsTrue}
use Rattle.ufmt_grammar.specs.Leaves.{IsDebugLeaf, beginning}
use Rattle.ufmt_grammar.specs.Reading.{Parse, after_front, front_of, is_whole, read_name, read_symbol}
use Rattle.ufmt_grammar.specs.declared.class.Class.{Class}
use Rattle.ufmt_grammar.specs.declared.class.Class.TheVariants.{Token, Debug}
use Rattle.ufmt_grammar.specs.Token.{IsName, IsSymbol}
use Rattle.ufmt_grammar.proofs.Parsing.{same_parts}
use Rattle.ufmt_grammar.proofs.ClassLeaves.{follower_ends_front, front_is, fronts_whole, nothing_follows, read_name_complete, read_name_sound, read_symbol_complete, read_symbol_sound}
use Rattle.ufmt_grammar.proofs.DebugLeaves.{after_leaf-append, last_is_outside, leaf_from-append, some_begun}
use Rattle.ufmt_scan.specs.Private.Fronts.{IsSplit}
use Rattle.ufmt_scan.specs.declared.front.Front.{Front}

-- a text is a leaf exactly if nothing is left after the leaf that is read at its front
module _ {Is : List ℕ → Type 0} (read : Parse (List ℕ)) (sound : (t x u : List ℕ) → read t ≡ Some (x, u) → Is x × (t ≡ x ++ u))
    (complete : (t : List ℕ) → Is t → read t ≡ Some (t, [])) where
  leaves_nothing : (t x u : List ℕ) (outcome : Bool) → read t ≡ Some (x, u) → outcome ≡ (length u == 0) → IsTrue outcome ↔ Is t
  leaves_nothing t x [] outcome reads tested =
      let found = sound t x [] reads in
      (λ h. subst Is (sym (found.1 ∙ append-nil x)) found.0, λ h. tested)
  leaves_nothing t x (c ∷ u) outcome reads tested =
      let some : (length (c ∷ u) == 0) ≡ false = grind (arith, nat_tests) in
      (λ h. absurd (cc), λ h. let none = (same_parts (x, c ∷ u) (t, []) (sym reads ∙ complete t h)).1 in absurd (cc))

whole_name : (class : Class) (t : List ℕ) → IsName class t → read_name class t ≡ Some (t, [])
whole_name class t h =
    ap (read_name class) (sym (append-nil t)) ∙ read_name_complete class t [] h (follower_ends_front class [] (nothing_follows class))

pub whole_symbol : (t : List ℕ) → IsSymbol t → read_symbol Token t ≡ Some (t, [])
whole_symbol t h = ap (read_symbol Token) (sym (append-nil t)) ∙ read_symbol_complete t [] h

-- a text is a name exactly if nothing follows the name at its front
pub name_tested : (class : Class) (t x u : List ℕ) (outcome : Bool) → Some (x, u) ≡ read_name class t → outcome ≡ (length u == 0)
    → IsTrue outcome ↔ IsName class t
name_tested class t x u outcome reads tested =
    leaves_nothing (read_name class) (read_name_sound class) (whole_name class) t x u outcome (sym reads) tested

pub no_name_tested : (class : Class) (t : List ℕ) → None ≡ read_name class t → IsTrue false ↔ IsName class t
no_name_tested class t none = (λ h. absurd (cc), λ h. let whole = whole_name class t h in absurd (cc))

-- the same for a leaf that is no word
pub symbol_tested : (t x u : List ℕ) (outcome : Bool) → Some (x, u) ≡ read_symbol Token t → outcome ≡ (length u == 0) → IsTrue outcome ↔ IsSymbol t
symbol_tested t x u outcome reads tested =
    leaves_nothing (read_symbol Token) read_symbol_sound whole_symbol t x u outcome (sym reads) tested

pub no_symbol_tested : (t : List ℕ) → None ≡ read_symbol Token t → IsTrue false ↔ IsSymbol t
no_symbol_tested t none = (λ h. absurd (cc), λ h. let whole = whole_symbol t h in absurd (cc))

-- ---- leaves of debug documents

-- a leaf is the longest one at its own front
record IsAllFront (t : List ℕ) : Type 0 where
  front : front_of Debug t ≡ t
  after : after_front Debug t ≡ []
  whole : is_whole Debug (front_of Debug t) ≡ true

all_front : (t : List ℕ) → IsDebugLeaf t → IsAllFront t
all_front t h =
    let front : front_of Debug t ≡ t = ap (front_of Debug) (sym (append-nil t)) ∙ leaf_from-append beginning t [] (some_begun beginning t h.some) h.pieces tt (λ ends. refl) in
    record {
      front = front;
      after = ap (after_front Debug) (sym (append-nil t)) ∙ after_leaf-append beginning t [] (some_begun beginning t h.some) h.pieces tt (λ ends. refl);
      whole = ap (is_whole Debug) front ∙ rw (last_is_outside beginning t h.pieces, h.utf8) refl;
    }

-- a text is a leaf exactly if nothing follows the leaf at its front, and there is one
module _ (t : List ℕ) where
  by_rest : (x u : List ℕ) → x ≡ front_of Debug t → u ≡ after_front Debug t → is_whole Debug (front_of Debug t) ≡ true → (length x == 0) ≡ false
      → (outcome : Bool) → outcome ≡ (length u == 0) → IsTrue outcome ↔ IsDebugLeaf t
  by_rest [] u front after whole some outcome tested = absurd (cc)
  by_rest (c ∷ x) [] front after whole some outcome tested =
      let same : front_of Debug t ≡ t = sym (fronts_whole Debug t ∙ ap (λ u. front_of Debug t ++ u) (sym after) ∙ append-nil (front_of Debug t)) in
      (λ h. subst IsDebugLeaf same ((front_is Debug t).leaf (λ none. absurd (cc)) whole), λ h. tested)
  by_rest (c ∷ x) (d ∷ u) front after whole some outcome tested =
      let more : (length (d ∷ u) == 0) ≡ false = grind (arith, nat_tests) in
      (λ h. absurd (cc), λ h. let none = (all_front t h).after in absurd (cc))

  pub debug_leaf_tested : (front : Front) → IsSplit Debug t front → (length front.text.now == 0) ≡ false
      → (outcome : Bool) → outcome ≡ (length front.rest.now == 0) → IsTrue outcome ↔ IsDebugLeaf t
  debug_leaf_tested front h = by_rest front.text.now front.rest.now h.text h.rest h.whole

  pub empty_front_tested : (front : Front) → IsSplit Debug t front → (length front.text.now == 0) ≡ true → IsTrue false ↔ IsDebugLeaf t
  empty_front_tested front h none = (λ h. absurd (cc), λ leaf. absurd (nothing front.text.now (h.text ∙ (all_front t leaf).front) none leaf))
    where
      nothing : (x : List ℕ) → x ≡ t → (length x == 0) ≡ true → IsDebugLeaf t → ⊥
      nothing [] is none leaf = leaf.some (sym is)
      nothing (c ∷ x) is none leaf = let more : (length (c ∷ x) == 0) ≡ false = grind (arith, nat_tests) in absurd (cc)

  pub broken_front_tested : is_whole Debug (front_of Debug t) ≡ false → IsTrue false ↔ IsDebugLeaf t
  broken_front_tested broken = (λ h. absurd (cc), λ h. let whole = (all_front t h).whole in absurd (cc))
