-- Where a text is one document's, it is no other's.
use Rattle.std.proofs.Common.{◌≡◌, ◌≢◌, refl, sym, ap, ◌∙◌, subst, List, [], ◌∷◌, ℕ, suc, ◌++◌, map, length, arith, Ok, Err}
use Rattle.std.specs.Prelude.{All}
use Rattle.ufmt_core.specs.Document.{Document, documents, list_of}
use Rattle.ufmt_core.specs.Layout.{layout}
use Rattle.ufmt_core.specs.declared.layout.Mode.{Mode}
use Rattle.ufmt_core.specs.declared.layout.Mode.TheVariants.{Plain, Pretty}
use Rattle.ufmt_grammar.specs.declared.class.Class.TheVariants.{Debug}
use Rattle.ufmt.specs.Leaves.{MayFollow}
use Rattle.ufmt.specs.Token.{normal, normal_all}
use Rattle.ufmt_grammar.proofs.OneWay.{plain_reads_one_way, pretty_reads_one_way}
use Rattle.ufmt_parser.specs.declared.parser.Fault.{Fault}
use Rattle.ufmt_parser.specs.declared.parser.Fault.TheVariants.{NotText, OutOfMemory}
use Rattle.ufmt_parser.specs.Taking.{Fits, Takes, setting_in}
use Rattle.ufmt_parser.proofs.ListedValues.{ListFits}

-- in so many blocks, one text is that of one normal form
pub one_way : (mode : Mode) (blocks : ℕ) (d e : Document) (u v : List ℕ) → Fits blocks d → Fits blocks e → MayFollow Debug u → MayFollow Debug v
    → layout (setting_in mode blocks) d ++ u ≡ layout (setting_in mode blocks) e ++ v → normal d ≡ normal e
one_way Plain blocks d e u v fits_d fits_e may_u may_v same = (plain_reads_one_way Debug d e u v (fits_d.0, omega (arith, fits_d.1)) (fits_e.0, omega (arith, fits_e.1)) may_u may_v same).0
one_way Pretty blocks d e u v fits_d fits_e may_u may_v same =
    (pretty_reads_one_way Debug blocks d e u v (fits_d.0, omega (arith, fits_d.1)) (fits_e.0, omega (arith, fits_e.1)) fits_d.1 fits_e.1 may_u may_v same).0

-- only some of the values are wanted, as the lists of one length
module _ {T : Type 0} {is wanted : T → Type 0} {text_of : T → List ℕ} (wider : (v : T) → wanted v → is v) where
  -- one of them is taken
  pub wanted_taken : {v : T} {old new : List ℕ} → wanted v → Takes is text_of old (Ok v) new → Takes wanted text_of old (Ok v) new
  wanted_taken right takes = record { cases = (takes.cases.0, right, λ w u is_wanted may same. takes.cases.2 w u (wider w is_wanted) may same) }

  none_refused_by : (old : List ℕ) (fault : Fault) (new : List ℕ) → Takes is text_of old (Err fault) new → Takes wanted text_of old (Err fault) new
  none_refused_by old NotText new takes = record { cases = λ w u is_wanted may same. takes.cases w u (wider w is_wanted) may same }
  none_refused_by old OutOfMemory new takes = record { cases = tt }

  -- where there is no value, there is none of them
  pub none_refused : {old : List ℕ} {fault : Fault} {new : List ℕ} → Takes is text_of old (Err fault) new → Takes wanted text_of old (Err fault) new
  none_refused {old} {fault} {new} takes = none_refused_by old fault new takes

-- the documents that values print tell them apart
module _ {T : Type 0} {is wanted : T → Type 0} (blocks : ℕ) (mode : Mode) (document : T → Document) (wider : (v : T) → wanted v → is v × Fits blocks (document v)) where
  -- a value that isn't wanted is refused, if no wanted one has its document
  pub unwanted_refused : {v : T} {old new : List ℕ} → ((w : T) → wanted w → is v → normal (document v) ≡ normal (document w) → ⊥)
      → Takes (λ w. is w × Fits blocks (document w)) (λ w. layout (setting_in mode blocks) (document w)) old (Ok v) new
      → Takes wanted (λ w. layout (setting_in mode blocks) (document w)) old (Err NotText) new
  unwanted_refused {v} {old} {new} differs takes = record {
    cases = λ w u is_wanted may same.
        let follows : MayFollow Debug new = subst (MayFollow Debug) (takes.cases.2 w u (wider w is_wanted) may same) may in
        differs w is_wanted takes.cases.1.0 (one_way mode blocks (document v) (document w) new u takes.cases.1.1 (wider w is_wanted).1 follows may (sym takes.cases.0 ∙ same));
  }

module _ {T : Type 0} (is : T → Type 0) (document : T → Document) where
  -- lists with one normal form are equally long
  same_length : (vs ws : List T) → normal (list_of (documents (map document vs))) ≡ normal (list_of (documents (map document ws))) → length vs ≡ length ws
  same_length [] [] same = refl
  same_length [] (w ∷ ws) same = cc
  same_length (v ∷ vs) [] same = cc
  same_length (v ∷ vs) (w ∷ ws) same =
      let rest : normal_all (documents (map document vs)) ≡ normal_all (documents (map document ws)) = cc in
      ap suc (same_length vs ws (ap list_of rest))

  module _ (n blocks : ℕ) (mode : Mode) where
    -- an array of n of these values, in so many blocks
    abbrev pub ArrayFits : List T → Type 0
    ArrayFits vs = (All is vs × (length vs ≡ n)) × Fits blocks (list_of (documents (map document vs)))

    -- a list of another length is no array's
    pub array_refused : {vs : List T} {old new : List ℕ} → Takes (ListFits is document blocks) (λ vs. layout (setting_in mode blocks) (list_of (documents (map document vs)))) old (Ok vs) new
        → length vs ≢ n → Takes ArrayFits (λ vs. layout (setting_in mode blocks) (list_of (documents (map document vs)))) old (Err NotText) new
    array_refused {vs} takes wrong = unwanted_refused blocks mode (λ vs. list_of (documents (map document vs))) (λ ws fits. (fits.0.0, fits.1))
        (λ ws fits all same. wrong (same_length vs ws same ∙ fits.0.1)) takes
