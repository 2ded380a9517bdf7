-- A row of fields is the inside of a struct or of a tuple.
use Rattle.std.proofs.Common.{◌≡◌, refl, ap, ◌∙◌, ℕ, suc, ◌+◌, ◌<◌, ◌≤◌, List, [], ◌∷◌, ◌++◌, length, codes, Result, arith}
use Rattle.std.specs.Prelude.{zip}
use Rattle.ufmt_core.specs.Document.{Document, documents, fields_of, nest_all, nest_fields, struct_of, tuple_of}
use Rattle.ufmt_core.specs.Layout.{block_tail, field_texts, frame, inside, layout, texts, tuple_kind}
use Rattle.ufmt_grammar.specs.Leaves.{IsName, OrEmpty}
use Rattle.ufmt_grammar.specs.Token.{AreBuilt, FieldsAreBuilt}
use Rattle.ufmt_grammar.specs.declared.class.Class.TheVariants.{Debug}
use Rattle.ufmt_core.specs.declared.layout.Count.TheVariants.{Zero}
use Rattle.ufmt_core.specs.declared.layout.Kind.{Kind}
use Rattle.ufmt_core.specs.declared.layout.Kind.TheVariants.{Struct}
use Rattle.ufmt_core.specs.declared.layout.Mode.{Mode}
use Rattle.ufmt_core.specs.declared.layout.Setting.{Setting}
use Rattle.ufmt_parser.specs.Fields.{AllFit, AreNames, each_text}
use Rattle.ufmt_parser.specs.Taking.{setting_in, Fits, Takes}
use Rattle.ufmt_parser.specs.declared.parser.Fault.{Fault}
use Rattle.ufmt_parser.proofs.Views.{taken_as}

-- ---- texts

named_texts : (s : Setting) (names : List (List ℕ)) (ds : List Document) → length names ≡ length ds
    → each_text s names ds ≡ field_texts s (fields_of (zip names ds))
named_texts s [] [] same = refl
named_texts s [] (d ∷ ds) same = absurd (omega (arith, same))
named_texts s (name ∷ names) [] same = absurd (omega (arith, same))
named_texts s (name ∷ names) (d ∷ ds) same = ap (λ ts. (name ++ (codes ": " ++ layout s d)) ∷ ts) (named_texts s names ds (omega (arith, same)))

unnamed_texts : (s : Setting) (ds : List Document) → each_text s [] ds ≡ texts s (documents ds)
unnamed_texts s [] = refl
unnamed_texts s (d ∷ ds) = ap (λ ts. layout s d ∷ ts) (unnamed_texts s ds)

-- ---- what fits in so many blocks

fields_fit : (blocks : ℕ) (names : List (List ℕ)) (ds : List Document) → blocks ≤ 255 → AreNames names → length names ≡ length ds → AllFit blocks ds
    → FieldsAreBuilt Debug (fields_of (zip names ds)) × (nest_fields (fields_of (zip names ds)) + blocks ≤ 255)
fields_fit blocks [] [] most named same fit = (tt, omega (arith, most))
fields_fit blocks [] (d ∷ ds) most named same fit = absurd (omega (arith, same))
fields_fit blocks (name ∷ names) [] most named same fit = absurd (omega (arith, same))
fields_fit blocks (name ∷ names) (d ∷ ds) most named same fit =
    let rest = fields_fit blocks names ds most named.1 (omega (arith, same)) fit.1 in
    ((named.0, fit.0.0, rest.0), omega (arith, fit.0.1, rest.1))

each_field_fits : (blocks : ℕ) (names : List (List ℕ)) (ds : List Document) → length names ≡ length ds → FieldsAreBuilt Debug (fields_of (zip names ds))
    → nest_fields (fields_of (zip names ds)) + blocks ≤ 255 → AllFit blocks ds
each_field_fits blocks [] [] same built nested = tt
each_field_fits blocks [] (d ∷ ds) same built nested = absurd (omega (arith, same))
each_field_fits blocks (name ∷ names) [] same built nested = absurd (omega (arith, same))
each_field_fits blocks (name ∷ names) (d ∷ ds) same built nested =
    ((built.1, omega (arith, nested)), each_field_fits blocks names ds (omega (arith, same)) built.2 (omega (arith, nested)))

entries_fit : (blocks : ℕ) (ds : List Document) → blocks ≤ 255 → AllFit blocks ds → AreBuilt Debug (documents ds) × (nest_all (documents ds) + blocks ≤ 255)
entries_fit blocks [] most fit = (tt, omega (arith, most))
entries_fit blocks (d ∷ ds) most fit =
    let rest = entries_fit blocks ds most fit.1 in ((fit.0.0, rest.0), omega (arith, fit.0.1, rest.1))

each_entry_fits : (blocks : ℕ) (ds : List Document) → AreBuilt Debug (documents ds) → nest_all (documents ds) + blocks ≤ 255 → AllFit blocks ds
each_entry_fits blocks [] built nested = tt
each_entry_fits blocks (d ∷ ds) built nested = ((built.0, omega (arith, nested)), each_entry_fits blocks ds built.1 (omega (arith, nested)))

-- ---- blocks with fields

module _ (blocks : ℕ) (name : List ℕ) where
  struct_fits : (names : List (List ℕ)) (ds : List Document) → 0 < length ds → AreNames (name ∷ names) → length names ≡ length ds → AllFit (suc blocks) ds → blocks < 255
      → Fits blocks (struct_of name (fields_of (zip names ds)))
  struct_fits names [] some named same fit few = absurd (omega (arith, some))
  struct_fits [] (d ∷ ds) some named same fit few = absurd (omega (arith, same))
  struct_fits (first ∷ names) (d ∷ ds) some named same fit few =
      let fields = fields_fit (suc blocks) (first ∷ names) (d ∷ ds) few named.1 same fit in
      ((named.0, fields.0), omega (arith, fields.1))

  struct_apart : (names : List (List ℕ)) (ds : List Document) → 0 < length ds → length names ≡ length ds → Fits blocks (struct_of name (fields_of (zip names ds)))
      → AllFit (suc blocks) ds × (blocks < 255)
  struct_apart names [] some same fits = absurd (omega (arith, some))
  struct_apart [] (d ∷ ds) some same fits = absurd (omega (arith, same))
  struct_apart (first ∷ names) (d ∷ ds) some same fits = (
    each_field_fits (suc blocks) (first ∷ names) (d ∷ ds) same fits.0.1 (omega (arith, fits.1)),
    omega (arith, fits.1),
  )

  tuple_fits : (ds : List Document) → 0 < length ds → OrEmpty (IsName Debug) name → AllFit (suc blocks) ds → blocks < 255 → Fits blocks (tuple_of name (documents ds))
  tuple_fits [] some is fit few = absurd (omega (arith, some))
  tuple_fits (d ∷ ds) some is fit few =
      let entries = entries_fit (suc blocks) (d ∷ ds) few fit in ((is, entries.0.0, entries.0.1), omega (arith, entries.1))

  tuple_apart : (ds : List Document) → 0 < length ds → Fits blocks (tuple_of name (documents ds)) → AllFit (suc blocks) ds × (blocks < 255)
  tuple_apart [] some fits = absurd (omega (arith, some))
  tuple_apart (d ∷ ds) some fits = (each_entry_fits (suc blocks) (d ∷ ds) (fits.0.1, fits.0.2) (omega (arith, fits.1)), omega (arith, fits.1))

-- ---- what is taken

module _ {R : Type 0} (are : R → Type 0) (row : R → List Document) (some : (v : R) → 0 < length (row v)) (mode : Mode) (blocks : ℕ) (name : List ℕ) where
  abbrev IsRow : R → Type 0
  IsRow v = (are v × AllFit (suc blocks) (row v)) × (blocks < 255)

  abbrev text_in : Kind → List (List ℕ) → List ℕ
  text_in kind fields = name ++ ((frame mode kind).opening ++ block_tail (frame mode kind) (setting_in mode blocks) Zero fields)

  abbrev RowTaken : Kind → List (List ℕ) → List ℕ → Result R Fault → List ℕ → Type 0
  RowTaken kind names old outcome new = Takes IsRow (λ v. text_in kind (each_text (inside (setting_in mode blocks)) names (row v))) old outcome new

  struct_text : (names : List (List ℕ)) (ds : List Document) → 0 < length ds → length names ≡ length ds
      → text_in Struct (each_text (inside (setting_in mode blocks)) names ds) ≡ layout (setting_in mode blocks) (struct_of name (fields_of (zip names ds)))
  struct_text names [] any same = absurd (omega (arith, any))
  struct_text [] (d ∷ ds) any same = absurd (omega (arith, same))
  struct_text (first ∷ names) (d ∷ ds) any same = ap (text_in Struct) (named_texts (inside (setting_in mode blocks)) (first ∷ names) (d ∷ ds) same)

  tuple_text : (ds : List Document) → 0 < length ds
      → text_in (tuple_kind name) (each_text (inside (setting_in mode blocks)) [] ds) ≡ layout (setting_in mode blocks) (tuple_of name (documents ds))
  tuple_text [] any = absurd (omega (arith, any))
  tuple_text (d ∷ ds) any = ap (text_in (tuple_kind name)) (unnamed_texts (inside (setting_in mode blocks)) (d ∷ ds))

  -- a struct with such a row of fields
  pub struct_row : {old : List ℕ} {outcome : Result R Fault} {new : List ℕ} (names : List (List ℕ)) → AreNames (name ∷ names)
      → ((v : R) → length names ≡ length (row v)) → RowTaken Struct names old outcome new
      → Takes (λ v. are v × Fits blocks (struct_of name (fields_of (zip names (row v)))))
      (λ v. layout (setting_in mode blocks) (struct_of name (fields_of (zip names (row v))))) old outcome new
  struct_row names named counted takes =
      taken_as (λ v is. (is.0.0, struct_fits blocks name names (row v) (some v) named (counted v) is.0.1 is.1))
      (λ v is. let apart = struct_apart blocks name names (row v) (some v) (counted v) is.1 in ((is.0, apart.0), apart.1))
      (λ v is. struct_text names (row v) (some v) (counted v))
      takes

  -- a tuple with such a row of fields
  pub tuple_row : {old : List ℕ} {outcome : Result R Fault} {new : List ℕ} {kind : Kind} → kind ≡ tuple_kind name → OrEmpty (IsName Debug) name → RowTaken kind [] old outcome new
      → Takes (λ v. are v × Fits blocks (tuple_of name (documents (row v))))
      (λ v. layout (setting_in mode blocks) (tuple_of name (documents (row v)))) old outcome new
  tuple_row is_kind is_name takes =
      taken_as (λ v is. (is.0.0, tuple_fits blocks name (row v) (some v) is_name is.0.1 is.1))
      (λ v is. let apart = tuple_apart blocks name (row v) (some v) is.1 in ((is.0, apart.0), apart.1))
      (λ v is. ap (λ k. text_in k (each_text (inside (setting_in mode blocks)) [] (row v))) is_kind ∙ tuple_text (row v) (some v))
      takes
