-- Rows of fields: their names, if they have names, and their documents.
use Rattle.std.specs.Prelude.{ℕ, List, [], ◌∷◌, ◌++◌, codes, map, ⊤}
use Rattle.std.specs.Borrow.{Bor}
use Rattle.ufmt_core.specs.Document.{Document}
use Rattle.ufmt_core.specs.Layout.{layout}
use Rattle.ufmt_grammar.specs.Leaves.{IsName}
use Rattle.ufmt_grammar.specs.declared.class.Class.TheVariants.{Debug}
use Rattle.ufmt_core.specs.declared.layout.Setting.{Setting}
use Rattle.ufmt_parser.specs.Taking.{Fits}

-- the texts that these references are to
abbrev pub all_now : List (Bor (List ℕ)) → List (List ℕ)
all_now names = map (λ name. name.now) names

-- each is a name of a debug document
abbrev pub AreNames : List (List ℕ) → Type 0
AreNames [] = ⊤
AreNames (name ∷ names) = IsName Debug name × AreNames names

-- the fields' texts, each after its name as far as there are names
abbrev pub each_text : Setting → List (List ℕ) → List Document → List (List ℕ)
each_text s names [] = []
each_text s [] (d ∷ ds) = layout s d ∷ each_text s [] ds
each_text s (name ∷ names) (d ∷ ds) = (name ++ (codes ": " ++ layout s d)) ∷ each_text s names ds

-- each is a debug document that may be inside so many blocks
abbrev pub AllFit : ℕ → List Document → Type 0
AllFit blocks [] = ⊤
AllFit blocks (d ∷ ds) = Fits blocks d × AllFit blocks ds
