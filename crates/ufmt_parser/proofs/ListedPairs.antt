-- Keys and values in a map, by the entries of its block.
use Rattle.std.proofs.Common.{◌≡◌, refl, sym, ap, ◌∙◌, List, [], ◌∷◌, ℕ, suc, ◌+◌, ◌-◌, ◌<◌, ◌≤◌, max, ◌++◌, map, codes, arith, Result}
use Rattle.std.proofs.lemmas.List.Elements.{All-cons, All-head, All-nil, All-tail, All-weaker}
use Rattle.std.specs.Prelude.{All}
use Rattle.ufmt_core.specs.Document.{Document, map_of, nest, nest_pairs, pairs_of}
use Rattle.ufmt_core.specs.Layout.{block_tail, frame, inside, layout, pair_texts}
use Rattle.ufmt_core.specs.declared.layout.Count.TheVariants.{Zero}
use Rattle.ufmt_core.specs.declared.layout.Kind.TheVariants.{Braces}
use Rattle.ufmt_core.specs.declared.layout.Mode.{Mode}
use Rattle.ufmt_core.specs.declared.layout.Setting.{Setting}
use Rattle.ufmt_grammar.specs.declared.class.Class.TheVariants.{Debug}
use Rattle.ufmt_grammar.specs.Token.{PairsAreBuilt}
use Rattle.ufmt_parser.specs.declared.parser.Fault.{Fault}
use Rattle.ufmt_parser.specs.Blocks.{EntriesFit, IsEntry, entry_documents}
use Rattle.ufmt_parser.specs.Taking.{Fits, Takes, setting_in}
use Rattle.ufmt_parser.proofs.Settings.{inside-setting_in}
use Rattle.ufmt_parser.proofs.Views.{taken_as}

module _ {K V : Type 0} (is_key : K → Type 0) (is_value : V → Type 0) (of_key : K → Document) (of_value : V → Document) where
  -- an entry that may be inside so many blocks
  abbrev pub PairFits : ℕ → K × V → Type 0
  PairFits blocks e = (is_key e.0 × Fits blocks (of_key e.0)) × (is_value e.1 × Fits blocks (of_value e.1))

  -- an entry's text
  abbrev pub pair_text : Setting → K × V → List ℕ
  pair_text s e = layout s (of_key e.0) ++ (codes ": " ++ layout s (of_value e.1))

  abbrev pub pair_documents : List (K × V) → List (Document × Document)
  pair_documents es = map (entry_documents of_key of_value) es

  all_built : (blocks : ℕ) (es : List (K × V)) → All (PairFits blocks) es → PairsAreBuilt Debug (pairs_of (pair_documents es))
  all_built blocks [] fit = tt
  all_built blocks (e ∷ es) fit =
      let ((is, (key, key_deep)), (is_too, (value, value_deep))) = All-head (PairFits blocks) e es fit in
      (key, value, all_built blocks es (All-tail (PairFits blocks) e es fit))

  all_nest : (blocks : ℕ) → blocks ≤ 255 → (es : List (K × V)) → All (PairFits blocks) es → nest_pairs (pairs_of (pair_documents es)) + blocks ≤ 255
  all_nest blocks most [] fit = omega (arith, most)
  all_nest blocks most (e ∷ es) fit =
      let ((is, (key_built, key)), (is_too, (value_built, value))) = All-head (PairFits blocks) e es fit in
      let later : nest_pairs (pairs_of (pair_documents es)) + blocks ≤ 255 = all_nest blocks most es (All-tail (PairFits blocks) e es fit) in
      omega (arith, key, value, later)

  all_fit : (blocks : ℕ) (es : List (K × V)) → All (IsEntry is_key is_value) es → PairsAreBuilt Debug (pairs_of (pair_documents es))
      → nest_pairs (pairs_of (pair_documents es)) + blocks ≤ 255 → All (PairFits blocks) es
  all_fit blocks [] entries built deep = All-nil (PairFits blocks)
  all_fit blocks (e ∷ es) entries built deep =
      let key : nest (of_key e.0) + blocks ≤ 255 = omega (arith, deep) in
      let value : nest (of_value e.1) + blocks ≤ 255 = omega (arith, deep) in
      let later : nest_pairs (pairs_of (pair_documents es)) + blocks ≤ 255 = omega (arith, deep) in
      let is = All-head (IsEntry is_key is_value) e es entries in
      All-cons (PairFits blocks) e es ((is.0, (built.0, key)), (is.1, (built.1, value)))
      (all_fit blocks es (All-tail (IsEntry is_key is_value) e es entries) built.2 later)

  -- the depth of a map with these entries
  abbrev depth_of : List (K × V) → ℕ
  depth_of [] = 0
  depth_of (e ∷ es) = suc (max (nest (of_key e.0)) (max (nest (of_value e.1)) (nest_pairs (pairs_of (pair_documents es)))))

  -- a map of these entries in any order, in so many blocks
  abbrev pub MapFits : ℕ → List (K × V) → Type 0
  MapFits blocks es = All (IsEntry is_key is_value) es × Fits blocks (map_of (pairs_of (pair_documents es)))

  texts_are : (i : Setting) (es : List (K × V)) → map (pair_text i) es ≡ pair_texts i (pairs_of (pair_documents es))
  texts_are i [] = refl
  texts_are i (e ∷ es) = ap (λ ts. pair_text i e ∷ ts) (texts_are i es)

  module _ (blocks : ℕ) where
    map_fits : (es : List (K × V)) → EntriesFit PairFits blocks es → MapFits blocks es
    map_fits [] fit = (All-nil (IsEntry is_key is_value), (tt, omega (arith, fit)))
    map_fits (e ∷ es) fit =
        let less : suc blocks ≤ 255 = omega (arith, fit.0) in
        let deep : nest_pairs (pairs_of (pair_documents (e ∷ es))) + suc blocks ≤ 255 = all_nest (suc blocks) less (e ∷ es) fit.1 in (
          All-weaker (PairFits (suc blocks)) (IsEntry is_key is_value) (λ e fits. (fits.0.0, fits.1.0)) (e ∷ es) fit.1,
          (all_built (suc blocks) (e ∷ es) fit.1, omega (arith, deep)),
        )

    entries_fit : (es : List (K × V)) → MapFits blocks es → EntriesFit PairFits blocks es
    entries_fit [] fits = omega (arith, fits.1.1)
    entries_fit (e ∷ es) fits =
        let whole : depth_of (e ∷ es) + blocks ≤ 255 = fits.1.1 in
        let less : blocks < 255 = omega (arith, whole) in
        let later : nest_pairs (pairs_of (pair_documents (e ∷ es))) + suc blocks ≤ 255 = omega (arith, whole) in
        (less, all_fit (suc blocks) (e ∷ es) fits.0 fits.1.0 later)

    module _ (mode : Mode) where
      -- the entries' texts are those of the map's document
      map_text_is : (es : List (K × V)) → EntriesFit PairFits blocks es
          → (frame mode Braces).opening ++ block_tail (frame mode Braces) (setting_in mode blocks) Zero (map (pair_text (setting_in mode (suc blocks))) es)
          ≡ layout (setting_in mode blocks) (map_of (pairs_of (pair_documents es)))
      map_text_is [] fit = refl
      map_text_is (e ∷ es) fit =
          let some : 0 < suc blocks = omega arith in
          let most : suc blocks ≤ 255 = omega (arith, fit.0) in
          let less : suc blocks - 1 ≡ blocks = omega arith in
          let inner : inside (setting_in mode blocks) ≡ setting_in mode (suc blocks) = ap (λ n. inside (setting_in mode n)) (sym less) ∙ inside-setting_in mode (suc blocks) some most in
          ap (λ ts. (frame mode Braces).opening ++ block_tail (frame mode Braces) (setting_in mode blocks) Zero ts)
          (texts_are (setting_in mode (suc blocks)) (e ∷ es) ∙ ap (λ i. pair_texts i (pairs_of (pair_documents (e ∷ es)))) (sym inner))

      -- a map is taken as the entries of its block are
      pub map_taken : {old : List ℕ} {outcome : Result (List (K × V)) Fault} {new : List ℕ}
          → Takes (EntriesFit PairFits blocks)
          (λ es. (frame mode Braces).opening ++ block_tail (frame mode Braces) (setting_in mode blocks) Zero (map (pair_text (setting_in mode (suc blocks))) es)) old outcome new
          → Takes (MapFits blocks) (λ es. layout (setting_in mode blocks) (map_of (pairs_of (pair_documents es)))) old outcome new
      map_taken takes = taken_as map_fits entries_fit map_text_is takes
