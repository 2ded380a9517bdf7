-- Keys that don't ascend are no set's and no map's.
use Rattle.std.proofs.Common.{◌≡◌, refl, sym, ap, ap₂, subst, List, [], ◌∷◌, ℕ, map, Ok, Err}
use Rattle.std.proofs.lemmas.List.{map-id}
use Rattle.std.specs.Prelude.{All}
use Rattle.std.specs.Cmp.{IsTotalOrder}
use Rattle.std.specs.List.Sorted.{IsStrictlySortedBy}
use Rattle.std.specs.Map.{keys_of}
use Rattle.std.specs.declared.cmp.Ordering.{Ordering}
use Rattle.std.specs.declared.cmp.Ordering.TheVariants.{Equal}
use Rattle.ufmt_core.specs.Document.{Document, Pairs, documents, map_of, pairs_of, set_of}
use Rattle.ufmt_core.specs.Layout.{layout}
use Rattle.ufmt_core.specs.declared.layout.Mode.{Mode}
use Rattle.ufmt.specs.Token.{normal, normal_all, normal_pairs}
use Rattle.ufmt_parser.specs.declared.parser.Fault.{Fault}
use Rattle.ufmt_parser.specs.declared.parser.Fault.TheVariants.{NotText}
use Rattle.ufmt_parser.specs.Blocks.{IsEntry, entry_documents}
use Rattle.ufmt_parser.specs.Taking.{Fits, Takes, setting_in}
use Rattle.ufmt_parser.proofs.AscendingKeys.{ascend_too}
use Rattle.ufmt_parser.proofs.ListedPairs.{MapFits}
use Rattle.ufmt_parser.proofs.ListedValues.{SetFits}
use Rattle.ufmt_parse.proofs.OneWay.{none_refused, unwanted_refused, wanted_taken}

module _ {T : Type 0} (document : T → Document) where
  all_parts : (vs ws : List T) → normal_all (documents (map document vs)) ≡ normal_all (documents (map document ws))
      → map (λ v. normal (document v)) vs ≡ map (λ w. normal (document w)) ws
  all_parts [] [] same = refl
  all_parts [] (w ∷ ws) same = cc
  all_parts (v ∷ vs) [] same = cc
  all_parts (v ∷ vs) (w ∷ ws) same =
      let rest : normal_all (documents (map document vs)) ≡ normal_all (documents (map document ws)) = cc in
      let parts = all_parts vs ws rest in
      cc

  -- sets with one normal form have keys with the same normal forms
  set_parts : (vs ws : List T) → normal (set_of (documents (map document vs))) ≡ normal (set_of (documents (map document ws)))
      → map (λ v. normal (document v)) vs ≡ map (λ w. normal (document w)) ws
  set_parts [] [] same = refl
  set_parts [] (w ∷ ws) same = cc
  set_parts (v ∷ vs) [] same = cc
  set_parts (v ∷ vs) (w ∷ ws) same =
      let rest : normal_all (documents (map document vs)) ≡ normal_all (documents (map document ws)) = cc in
      let parts = all_parts vs ws rest in
      cc

module _ {T : Type 0} {cmp : T → T → Ordering} (total : IsTotalOrder cmp) (is : T → Type 0) (document : T → Document)
    (law : (x y : T) → is x → is y → normal (document x) ≡ normal (document y) → cmp x y ≡ Equal) (blocks : ℕ) (mode : Mode) where
  -- keys that ascend, of a set in so many blocks
  abbrev pub SortedFit : List T → Type 0
  SortedFit vs = (All is vs × IsStrictlySortedBy cmp vs) × Fits blocks (set_of (documents (map document vs)))

  sorted_too : (vs ws : List T) → All is vs → SortedFit ws → normal (set_of (documents (map document vs))) ≡ normal (set_of (documents (map document ws)))
      → IsStrictlySortedBy cmp vs
  sorted_too vs ws all fits same = subst (IsStrictlySortedBy cmp) (map-id vs) (ascend_too total (λ k. k) is (λ v. normal (document v)) law vs ws
      (set_parts document vs ws same) all fits.0.0 (subst (IsStrictlySortedBy cmp) (sym (map-id ws)) fits.0.1))

  -- keys in another order are no set's
  pub set_refused : {vs : List T} {old new : List ℕ} → (IsStrictlySortedBy cmp vs → ⊥)
      → Takes (SetFits is document blocks) (λ vs. layout (setting_in mode blocks) (set_of (documents (map document vs)))) old (Ok vs) new
      → Takes SortedFit (λ vs. layout (setting_in mode blocks) (set_of (documents (map document vs)))) old (Err NotText) new
  set_refused {vs} unsorted takes = unwanted_refused blocks mode (λ vs. set_of (documents (map document vs))) (λ ws fits. (fits.0.0, fits.1))
      (λ ws fits all same. unsorted (sorted_too vs ws all fits same)) takes

module _ {K V : Type 0} (of_key : K → Document) (of_value : V → Document) where
  -- the normal forms of an entry's key and value
  abbrev pub entry_parts : K × V → Document × Document
  entry_parts e = (normal (of_key e.0), normal (of_value e.1))

  -- maps with one normal form have entries with the same normal forms
  map_parts : (es fs : List (K × V)) → normal_pairs (pairs_of (map (entry_documents of_key of_value) es)) ≡ normal_pairs (pairs_of (map (entry_documents of_key of_value) fs))
      → map entry_parts es ≡ map entry_parts fs
  map_parts [] [] same = refl
  map_parts [] (f ∷ fs) same = cc
  map_parts (e ∷ es) [] same = cc
  map_parts (e ∷ es) (f ∷ fs) same =
      let rest : normal_pairs (pairs_of (map (entry_documents of_key of_value) es)) ≡ normal_pairs (pairs_of (map (entry_documents of_key of_value) fs)) = cc in
      let key : normal (of_key e.0) ≡ normal (of_key f.0) = cc in
      let value : normal (of_value e.1) ≡ normal (of_value f.1) = cc in
      ap₂ (λ p ps. p ∷ ps) (ap₂ (λ k v. (k, v)) key value) (map_parts es fs rest)

  pairs_in : (d e : Pairs) → map_of d ≡ map_of e → d ≡ e
  pairs_in d e same = cc

  module _ {cmp : K → K → Ordering} (total : IsTotalOrder cmp) (is_key : K → Type 0) (is_value : V → Type 0)
      (law : (x y : K) → is_key x → is_key y → normal (of_key x) ≡ normal (of_key y) → cmp x y ≡ Equal) (blocks : ℕ) (mode : Mode) where
    -- entries whose keys ascend, of a map in so many blocks
    abbrev pub SortedMapFits : List (K × V) → Type 0
    SortedMapFits es = (All (IsEntry is_key is_value) es × IsStrictlySortedBy cmp (keys_of es)) × Fits blocks (map_of (pairs_of (map (entry_documents of_key of_value) es)))

    keys_sorted_too : (es fs : List (K × V)) → All (IsEntry is_key is_value) es → SortedMapFits fs
        → normal (map_of (pairs_of (map (entry_documents of_key of_value) es))) ≡ normal (map_of (pairs_of (map (entry_documents of_key of_value) fs)))
        → IsStrictlySortedBy cmp (keys_of es)
    keys_sorted_too es fs all fits same = ascend_too total (λ e. e.0) (IsEntry is_key is_value) entry_parts
        (λ x y is_x is_y parts. law x.0 y.0 is_x.0 is_y.0 (ap (λ p. p.0) parts)) es fs (map_parts es fs (pairs_in _ _ same)) all fits.0.0 fits.0.1

    -- entries in another order are no map's
    pub map_refused : {es : List (K × V)} {old new : List ℕ} → (IsStrictlySortedBy cmp (keys_of es) → ⊥)
        → Takes (MapFits is_key is_value of_key of_value blocks) (λ es. layout (setting_in mode blocks) (map_of (pairs_of (map (entry_documents of_key of_value) es)))) old (Ok es) new
        → Takes SortedMapFits (λ es. layout (setting_in mode blocks) (map_of (pairs_of (map (entry_documents of_key of_value) es)))) old (Err NotText) new
    map_refused {es} unsorted takes = unwanted_refused blocks mode (λ es. map_of (pairs_of (map (entry_documents of_key of_value) es))) (λ fs fits. (fits.0.0, fits.1))
        (λ fs fits all same. unsorted (keys_sorted_too es fs all fits same)) takes

    -- entries whose keys ascend are a map's
    pub map_taken_too : {es fs : List (K × V)} {old new : List ℕ} → fs ≡ es → IsStrictlySortedBy cmp (keys_of fs)
        → Takes (MapFits is_key is_value of_key of_value blocks) (λ es. layout (setting_in mode blocks) (map_of (pairs_of (map (entry_documents of_key of_value) es)))) old (Ok es) new
        → Takes SortedMapFits (λ es. layout (setting_in mode blocks) (map_of (pairs_of (map (entry_documents of_key of_value) es)))) old (Ok fs) new
    map_taken_too {es} {fs} {old} {new} same sorted takes =
        let taken = subst (λ gs. Takes (MapFits is_key is_value of_key of_value blocks) (λ es. layout (setting_in mode blocks) (map_of (pairs_of (map (entry_documents of_key of_value) es)))) old (Ok gs) new) (sym same) takes in
        wanted_taken (λ gs fits. (fits.0.0, fits.1)) ((taken.cases.1.0, sorted), taken.cases.1.1) taken

    -- where there are no entries, there is no map
    pub no_map : {old new : List ℕ} {fault : Fault}
        → Takes (MapFits is_key is_value of_key of_value blocks) (λ es. layout (setting_in mode blocks) (map_of (pairs_of (map (entry_documents of_key of_value) es)))) old (Err fault) new
        → Takes SortedMapFits (λ es. layout (setting_in mode blocks) (map_of (pairs_of (map (entry_documents of_key of_value) es)))) old (Err fault) new
    no_map takes = none_refused (λ gs fits. (fits.0.0, fits.1)) takes
