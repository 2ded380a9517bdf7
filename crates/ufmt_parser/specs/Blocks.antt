-- Blocks in brackets or braces, of any number of entries.
use Rattle.std.specs.Prelude.{◌≡◌, ℕ, suc, ◌<◌, ◌≤◌, false, List, [], ◌∷◌, All, Result, Ok, Err, ⊤}
use Rattle.std.specs.declared.cmp.Ordering.{Ordering}
use Rattle.std.specs.declared.cmp.Ordering.TheVariants.{Less}
use Rattle.ufmt_core.specs.Document.{Document}
use Rattle.ufmt_core.specs.declared.layout.Kind.{Kind}
use Rattle.ufmt_core.specs.declared.layout.Kind.TheVariants.{Brackets, Braces, Struct, Tuple, Unnamed}
use Rattle.ufmt_core.specs.declared.layout.Setting.{Setting}
use Rattle.ufmt_grammar.specs.Leaves.{is_ender}

-- the outcome, with another view of the value
abbrev pub outcome_map : {A B F : Type 0} → (A → B) → Result A F → Result B F
outcome_map view (Ok a) = Ok (view a)
outcome_map view (Err fault) = Err fault

-- the kinds of blocks that are bracketed also without entries
abbrev pub IsBracketed : Kind → Type 0
IsBracketed Brackets = ⊤
IsBracketed Braces = ⊤
IsBracketed Struct = ⊥
IsBracketed Tuple = ⊥
IsBracketed Unnamed = ⊥

-- one entry or more, of which each is as `is` says
abbrev pub AreSome : {E : Type 0} → (E → Type 0) → List E → Type 0
AreSome is [] = ⊥
AreSome is (e ∷ es) = All is (e ∷ es)

-- the entries of a block that may be inside so many others
abbrev pub EntriesFit : {E : Type 0} → (ℕ → E → Type 0) → ℕ → List E → Type 0
EntriesFit fit blocks [] = blocks ≤ 255
EntriesFit fit blocks (e ∷ es) = (blocks < 255) × All (fit (suc blocks)) (e ∷ es)

-- an entry of a map whose key and value are values
abbrev pub IsEntry : {K V : Type 0} → (K → Type 0) → (V → Type 0) → K × V → Type 0
IsEntry is_key is_value entry = is_key entry.0 × is_value entry.1

-- the key comes before the first of others, if there is one
abbrev pub ComesBefore : {K : Type 0} → (K → K → Ordering) → K → List K → Type 0
ComesBefore cmp k [] = ⊤
ComesBefore cmp k (first ∷ others) = cmp k first ≡ Less

-- the documents of an entry's key and value
abbrev pub entry_documents : {K V : Type 0} → (K → Document) → (V → Document) → K × V → Document × Document
entry_documents of_key of_value entry = (of_key entry.0, of_value entry.1)

-- the text has a first byte, which is no comma and no closing bracket
pub record BeginsEntry (text : List ℕ) : Type 0 where
  pub first : ℕ
  pub tail : List ℕ
  pub is : text ≡ first ∷ tail
  pub no_ender : is_ender first ≡ false

-- each entry's text begins so
abbrev pub EntriesBegin : {E : Type 0} → (ℕ → E → Type 0) → (Setting → E → List ℕ) → Type 0
EntriesBegin {E} fit text = (blocks : ℕ) (s : Setting) (e : E) → fit blocks e → BeginsEntry (text s e)
