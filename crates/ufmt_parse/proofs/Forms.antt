-- A parsed value has the normal form of each debug document with the same text: for the clause `form` of `parse` and
-- `parse_pretty`.
use Rattle.std.proofs.Common.{◌≡◌, refl, sym, ◌∙◌, List, ℕ, Result, Ok, Err, IfOk}
use Rattle.std.specs.Prelude.{◌↔◌}
use Rattle.ufmt.specs.Document.{Document}
use Rattle.ufmt.specs.Layout.{layout, setting}
use Rattle.ufmt_core.specs.declared.layout.Mode.{Mode}
use Rattle.ufmt_core.specs.declared.layout.Setting.{Setting}
use Rattle.ufmt_core.specs.declared.layout.Mode.TheVariants.{Plain, Pretty}
use Rattle.ufmt.specs.Token.{IsDebugDocument, normal}
use Rattle.ufmt_parser.specs.Taking.{setting_in}

-- debug documents have equal texts in this setting if and only if their normal forms are equal
abbrev pub Determines : Setting → Type 0
Determines s = (d e : Document) → IsDebugDocument d → IsDebugDocument e → (layout s d ≡ layout s e) ↔ (normal d ≡ normal e)

pub form_of : {T E : Type 0} (document : T → Document) (s : Setting) → Determines s → (text : List ℕ) (outcome : Result T E)
    → IfOk outcome (λ v. layout s (document v) ≡ text) → IfOk outcome (λ v. IsDebugDocument (document v))
    → IfOk outcome (λ v. (d : Document) → IsDebugDocument d → layout s d ≡ text → normal (document v) ≡ normal d)
form_of document s determines text (Ok v) same is = λ d is_d same_d. (determines (document v) d is is_d).0 (same ∙ sym same_d)
form_of document s determines text (Err e) same is = tt

-- at the start of a whole text no block is open, so the depth is 0 in both modes
pub setting_in-none : (mode : Mode) → setting_in mode 0 ≡ setting mode 0
setting_in-none Plain = refl
setting_in-none Pretty = refl
