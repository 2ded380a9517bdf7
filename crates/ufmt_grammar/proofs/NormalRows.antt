-- A row of documents of a class in normal form is in normal form, and so is a row of pairs or fields with them.
use Rattle.std.proofs.Common.{◌≡◌, refl, ap₂, ℕ, ◌<◌, List, [], ◌∷◌, arith}
use Rattle.ufmt_core.specs.Document.{Document, first_document, documents, pairs_of, fields_of, nest, nest_all, nest_pairs, nest_fields}
use Rattle.ufmt_grammar.specs.Token.{Class, IsName, IsBuilt, AreBuilt, PairsAreBuilt, FieldsAreBuilt, normal, normal_all, normal_pairs, normal_fields}
use Rattle.ufmt_grammar.proofs.BlocksSound.{AreGood, IsGoodPair}

module _ (class : Class) where
  -- a document in normal form that is nested less than n deep
  pub record IsNormalBelow (n : ℕ) (d : Document) : Type 0 where
    pub tokens : IsBuilt class d
    pub nests : nest d < n
    pub is_normal : normal d ≡ d

  pub documents_tokens : (n : ℕ) (ds : List Document) → AreGood (IsNormalBelow n) ds → AreBuilt class (documents ds)
  documents_tokens n [] h = tt
  documents_tokens n (d ∷ ds) h = (h.0.tokens, documents_tokens n ds h.1)

  pub documents_normal : (n : ℕ) (ds : List Document) → AreGood (IsNormalBelow n) ds → normal_all (documents ds) ≡ documents ds
  documents_normal n [] h = refl
  documents_normal n (d ∷ ds) h = ap₂ first_document h.0.is_normal (documents_normal n ds h.1)

  pub documents_nest : (n : ℕ) (ds : List Document) → AreGood (IsNormalBelow n) ds → 0 < n → nest_all (documents ds) < n
  documents_nest n [] h some = some
  documents_nest n (d ∷ ds) h some = let more = documents_nest n ds h.1 some in let first = h.0.nests in omega arith

  -- each pair is two documents in normal form, nested less than n deep
  abbrev pub ArePairsGood : ℕ → List (Document × Document) → Type 0
  ArePairsGood n ps = AreGood (IsGoodPair (IsNormalBelow n) (IsNormalBelow n)) ps

  pub pairs_tokens : (n : ℕ) (ps : List (Document × Document)) → ArePairsGood n ps → PairsAreBuilt class (pairs_of ps)
  pairs_tokens n [] h = tt
  pairs_tokens n (p ∷ ps) h = (h.0.0.tokens, h.0.1.tokens, pairs_tokens n ps h.1)

  pub pairs_normal : (n : ℕ) (ps : List (Document × Document)) → ArePairsGood n ps → normal_pairs (pairs_of ps) ≡ pairs_of ps
  pairs_normal n [] h = refl
  pairs_normal n (p ∷ ps) h = rw (h.0.0.is_normal, h.0.1.is_normal, pairs_normal n ps h.1) refl

  pub pairs_nest : (n : ℕ) (ps : List (Document × Document)) → ArePairsGood n ps → 0 < n → nest_pairs (pairs_of ps) < n
  pairs_nest n [] h some = some
  pairs_nest n (p ∷ ps) h some = let more = pairs_nest n ps h.1 some in let key = h.0.0.nests in let value = h.0.1.nests in omega arith

  -- each field is a name and a document in normal form, nested less than n deep
  abbrev pub AreFieldsGood : ℕ → List (List ℕ × Document) → Type 0
  AreFieldsGood n fs = AreGood (IsGoodPair (IsName class) (IsNormalBelow n)) fs

  pub fields_tokens : (n : ℕ) (fs : List (List ℕ × Document)) → AreFieldsGood n fs → FieldsAreBuilt class (fields_of fs)
  fields_tokens n [] h = tt
  fields_tokens n (f ∷ fs) h = (h.0.0, h.0.1.tokens, fields_tokens n fs h.1)

  pub fields_normal : (n : ℕ) (fs : List (List ℕ × Document)) → AreFieldsGood n fs → normal_fields (fields_of fs) ≡ fields_of fs
  fields_normal n [] h = refl
  fields_normal n (f ∷ fs) h = rw (h.0.1.is_normal, fields_normal n fs h.1) refl

  pub fields_nest : (n : ℕ) (fs : List (List ℕ × Document)) → AreFieldsGood n fs → 0 < n → nest_fields (fields_of fs) < n
  fields_nest n [] h some = some
  fields_nest n (f ∷ fs) h some = let more = fields_nest n fs h.1 some in let value = h.0.1.nests in omega arith
