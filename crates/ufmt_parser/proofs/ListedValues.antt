-- Values in a list, by the entries of its block.
use Rattle.std.proofs.Common.{◌≡◌, refl, sym, ap, ◌∙◌, List, [], ◌∷◌, ℕ, suc, ◌+◌, ◌-◌, ◌<◌, ◌≤◌, max, ◌++◌, map, arith, Result}
use Rattle.std.proofs.lemmas.List.Elements.{All-cons, All-head, All-nil, All-tail, All-weaker}
use Rattle.std.specs.Prelude.{All}
use Rattle.ufmt_core.specs.Document.{Document, documents, list_of, nest, nest_all, set_of}
use Rattle.ufmt_core.specs.Layout.{block_tail, frame, inside, layout, texts}
use Rattle.ufmt_core.specs.declared.layout.Count.TheVariants.{Zero}
use Rattle.ufmt_core.specs.declared.layout.Kind.{Kind}
use Rattle.ufmt_core.specs.declared.layout.Kind.TheVariants.{Braces, Brackets}
use Rattle.ufmt_core.specs.declared.layout.Mode.{Mode}
use Rattle.ufmt_core.specs.declared.layout.Setting.{Setting}
use Rattle.ufmt_grammar.specs.declared.class.Class.TheVariants.{Debug}
use Rattle.ufmt_grammar.specs.Token.{AreBuilt, IsBuilt}
use Rattle.ufmt_grammar.proofs.TextsBegin.{document_begins}
use Rattle.ufmt_parser.specs.declared.parser.Fault.{Fault}
use Rattle.ufmt_parser.specs.Blocks.{BeginsEntry, EntriesFit}
use Rattle.ufmt_parser.specs.Taking.{Fits, Takes, setting_in}
use Rattle.ufmt_parser.proofs.Settings.{inside-setting_in}
use Rattle.ufmt_parser.proofs.Views.{taken_as}

-- a document's text begins as an entry does
pub document_begins_entry : (s : Setting) (d : Document) → IsBuilt Debug d → BeginsEntry (layout s d)
document_begins_entry s d built =
    let begins = document_begins Debug s d built in
    record { first = begins.first; tail = begins.tail; is = begins.is; no_ender = begins.no_ender }

module _ {T : Type 0} (is : T → Type 0) (document : T → Document) where
  -- a value that may be inside so many blocks
  abbrev pub ValueFits : ℕ → T → Type 0
  ValueFits blocks v = is v × Fits blocks (document v)

  all_built : (blocks : ℕ) (vs : List T) → All (ValueFits blocks) vs → AreBuilt Debug (documents (map document vs))
  all_built blocks [] fit = tt
  all_built blocks (v ∷ vs) fit = ((All-head (ValueFits blocks) v vs fit).1.0, all_built blocks vs (All-tail (ValueFits blocks) v vs fit))

  all_nest : (blocks : ℕ) → blocks ≤ 255 → (vs : List T) → All (ValueFits blocks) vs → nest_all (documents (map document vs)) + blocks ≤ 255
  all_nest blocks most [] fit = omega (arith, most)
  all_nest blocks most (v ∷ vs) fit =
      let here : nest (document v) + blocks ≤ 255 = (All-head (ValueFits blocks) v vs fit).1.1 in
      let later : nest_all (documents (map document vs)) + blocks ≤ 255 = all_nest blocks most vs (All-tail (ValueFits blocks) v vs fit) in
      omega (arith, here, later)

  all_fit : (blocks : ℕ) (vs : List T) → All is vs → AreBuilt Debug (documents (map document vs)) → nest_all (documents (map document vs)) + blocks ≤ 255
      → All (ValueFits blocks) vs
  all_fit blocks [] values built deep = All-nil (ValueFits blocks)
  all_fit blocks (v ∷ vs) values built deep =
      let here : nest (document v) + blocks ≤ 255 = omega (arith, deep) in
      let later : nest_all (documents (map document vs)) + blocks ≤ 255 = omega (arith, deep) in
      All-cons (ValueFits blocks) v vs (All-head is v vs values, (built.0, here)) (all_fit blocks vs (All-tail is v vs values) built.1 later)

  -- the depth of a block with these values
  abbrev pub depth_of : List T → ℕ
  depth_of [] = 0
  depth_of (v ∷ vs) = suc (max (nest (document v)) (nest_all (documents (map document vs))))

  -- the values fit as the entries of a block if and only if the block fits
  block_fits_values : (blocks : ℕ) (vs : List T) → EntriesFit ValueFits blocks vs
      → All is vs × AreBuilt Debug (documents (map document vs)) × (depth_of vs + blocks ≤ 255)
  block_fits_values blocks [] fit = (All-nil is, tt, omega (arith, fit))
  block_fits_values blocks (v ∷ vs) fit =
      let less : suc blocks ≤ 255 = omega (arith, fit.0) in
      let deep : max (nest (document v)) (nest_all (documents (map document vs))) + suc blocks ≤ 255 = all_nest (suc blocks) less (v ∷ vs) fit.1 in
      (All-weaker (ValueFits (suc blocks)) is (λ v fits. fits.0) (v ∷ vs) fit.1, all_built (suc blocks) (v ∷ vs) fit.1, omega (arith, deep))

  values_fit_block : (blocks : ℕ) (vs : List T) → All is vs → AreBuilt Debug (documents (map document vs)) → depth_of vs + blocks ≤ 255
      → EntriesFit ValueFits blocks vs
  values_fit_block blocks [] values built deep = omega (arith, deep)
  values_fit_block blocks (v ∷ vs) values built deep =
      let less : blocks < 255 = omega (arith, deep) in
      let later : max (nest (document v)) (nest_all (documents (map document vs))) + suc blocks ≤ 255 = omega (arith, deep) in
      (less, all_fit (suc blocks) (v ∷ vs) values built later)

  texts_are : (i : Setting) (vs : List T) → map (λ v. layout i (document v)) vs ≡ texts i (documents (map document vs))
  texts_are i [] = refl
  texts_are i (v ∷ vs) = ap (λ ts. layout i (document v) ∷ ts) (texts_are i vs)

  -- the entries' texts are those of the block's document
  block_text_is : (mode : Mode) (kind : Kind) (blocks : ℕ) (vs : List T) → EntriesFit ValueFits blocks vs
      → (frame mode kind).opening ++ block_tail (frame mode kind) (setting_in mode blocks) Zero (map (λ v. layout (setting_in mode (suc blocks)) (document v)) vs)
      ≡ (frame mode kind).opening ++ block_tail (frame mode kind) (setting_in mode blocks) Zero (texts (inside (setting_in mode blocks)) (documents (map document vs)))
  block_text_is mode kind blocks [] fit = refl
  block_text_is mode kind blocks (v ∷ vs) fit =
      let some : 0 < suc blocks = omega arith in
      let most : suc blocks ≤ 255 = omega (arith, fit.0) in
      let less : suc blocks - 1 ≡ blocks = omega arith in
      let inner : inside (setting_in mode blocks) ≡ setting_in mode (suc blocks) = ap (λ n. inside (setting_in mode n)) (sym less) ∙ inside-setting_in mode (suc blocks) some most in
      ap (λ ts. (frame mode kind).opening ++ block_tail (frame mode kind) (setting_in mode blocks) Zero ts)
      (texts_are (setting_in mode (suc blocks)) (v ∷ vs) ∙ ap (λ i. texts i (documents (map document (v ∷ vs)))) (sym inner))

  list_depth : (vs : List T) → nest (list_of (documents (map document vs))) ≡ depth_of vs
  list_depth [] = refl
  list_depth (v ∷ vs) = refl

  -- a list of these values, in so many blocks
  abbrev pub ListFits : ℕ → List T → Type 0
  ListFits blocks vs = All is vs × Fits blocks (list_of (documents (map document vs)))

  module _ (blocks : ℕ) where
    list_fits : (vs : List T) → EntriesFit ValueFits blocks vs → ListFits blocks vs
    list_fits vs fit =
        let block = block_fits_values blocks vs fit in
        (block.0, (block.1, rw (list_depth vs) block.2))

    entries_fit : (vs : List T) → ListFits blocks vs → EntriesFit ValueFits blocks vs
    entries_fit vs fits = values_fit_block blocks vs fits.0 fits.1.0 (rw (list_depth vs) at fits.1.1)

    -- a list is taken as the entries of its block are
    pub list_taken : (mode : Mode) {old : List ℕ} {outcome : Result (List T) Fault} {new : List ℕ}
        → Takes (EntriesFit ValueFits blocks)
        (λ vs. (frame mode Brackets).opening ++ block_tail (frame mode Brackets) (setting_in mode blocks) Zero (map (λ v. layout (setting_in mode (suc blocks)) (document v)) vs)) old outcome new
        → Takes (ListFits blocks) (λ vs. layout (setting_in mode blocks) (list_of (documents (map document vs)))) old outcome new
    list_taken mode takes = taken_as list_fits entries_fit (block_text_is mode Brackets blocks) takes

  set_depth : (vs : List T) → nest (set_of (documents (map document vs))) ≡ depth_of vs
  set_depth [] = refl
  set_depth (v ∷ vs) = refl

  -- a set of these keys in any order, in so many blocks
  abbrev pub SetFits : ℕ → List T → Type 0
  SetFits blocks vs = All is vs × Fits blocks (set_of (documents (map document vs)))

  module _ (blocks : ℕ) where
    set_fits : (vs : List T) → EntriesFit ValueFits blocks vs → SetFits blocks vs
    set_fits vs fit =
        let block = block_fits_values blocks vs fit in
        (block.0, (block.1, rw (set_depth vs) block.2))

    keys_fit : (vs : List T) → SetFits blocks vs → EntriesFit ValueFits blocks vs
    keys_fit vs fits = values_fit_block blocks vs fits.0 fits.1.0 (rw (set_depth vs) at fits.1.1)

    -- a set is taken as the entries of its block are
    pub set_taken : (mode : Mode) {old : List ℕ} {outcome : Result (List T) Fault} {new : List ℕ}
        → Takes (EntriesFit ValueFits blocks)
        (λ vs. (frame mode Braces).opening ++ block_tail (frame mode Braces) (setting_in mode blocks) Zero (map (λ v. layout (setting_in mode (suc blocks)) (document v)) vs)) old outcome new
        → Takes (SetFits blocks) (λ vs. layout (setting_in mode blocks) (set_of (documents (map document vs)))) old outcome new
    set_taken mode takes = taken_as set_fits keys_fit (block_text_is mode Braces blocks) takes
