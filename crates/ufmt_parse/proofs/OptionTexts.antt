-- The text of `None`, and the texts of options.
use Rattle.std.proofs.Common.{◌≡◌, refl, sym, ap, ◌∙◌, subst, List, [], ◌∷◌, ℕ, ◌++◌, Option, None, Some, Result, Ok, Err, codes, arith, get_or}
use Rattle.std.specs.Prelude.{IfSome}
use Rattle.std.proofs.lemmas.List.{append_cancel_left}
use Rattle.ufmt.specs.Document.{Document, documents, tuple_of}
use Rattle.ufmt.specs.Layout.{layout}
use Rattle.ufmt.specs.ValueDocuments.{option_document}
use Rattle.ufmt.specs.Leaves.{MayFollow}
use Rattle.ufmt_grammar.specs.declared.class.Class.TheVariants.{Debug}
use Rattle.ufmt_core.specs.declared.layout.Mode.{Mode}
use Rattle.ufmt_core.specs.declared.layout.Setting.{Setting}
use Rattle.ufmt_parser.specs.declared.parser.Fault.{Fault}
use Rattle.ufmt_parser.specs.declared.parser.Fault.TheVariants.{NotText, OutOfMemory}
use Rattle.ufmt_parser.specs.declared.parser.Parser.{Parser}
use Rattle.ufmt_parser.specs.Next.{IsNotNext, NextLeaves}
use Rattle.ufmt_parser.specs.Taking.{DoesNotBegin, Fits, IsTaken, Takes, open_blocks, rest, setting_in}
use Rattle.ufmt_parser.proofs.Next.{never_next, what_is_left}

-- what comes after `None` is all that can be left after an option
pub after_none : {T : Type 0} (document : T → Document) (s : Setting) {old new : List ℕ} → old ≡ codes "None" ++ new → (w : Option T) (u : List ℕ)
    → old ≡ layout s (option_document document w) ++ u → u ≡ new
after_none document s {old} {new} at None u same = append_cancel_left (codes "None") u new (sym same ∙ at)
after_none document s at (Some v) u same = absurd (omega (arith, ap (λ (l : List ℕ). get_or l 0 0) (sym at ∙ same)))

module _ {T : Type 0} (mode : Mode) (is_value : T → Type 0) (document : T → Document) where
  abbrev IsOption : ℕ → Option T → Type 0
  IsOption blocks w = IfSome w is_value × Fits blocks (option_document document w)

  abbrev option_text : ℕ → Option T → List ℕ
  option_text blocks w = layout (setting_in mode blocks) (option_document document w)

  abbrev OptionTaken : ℕ → List ℕ → Result (Option T) Fault → List ℕ → Type 0
  OptionTaken blocks old outcome new = Takes (IsOption blocks) (option_text blocks) old outcome new

  -- where `None` isn't, and the parser of the tuple `Some` begins where it wasn't
  module _ {M : Type 0} (before old : Parser M) (rests : rest old ≡ rest before) (blocks : open_blocks old ≡ open_blocks before) (no_none : DoesNotBegin (codes "None") (rest before)) where
    moved : (outcome : Result (Option T) Fault) (new : List ℕ) → OptionTaken (open_blocks old) (rest old) outcome new → OptionTaken (open_blocks before) (rest before) outcome new
    moved outcome new takes = subst (λ b. OptionTaken b (rest before) outcome new) blocks (subst (λ t. OptionTaken (open_blocks old) t outcome new) rests takes)

    left_after : (new : Parser M) → ((x : T) → is_value x → NextLeaves mode old (tuple_of (codes "Some") (documents (document x ∷ []))) new)
        → (w : Option T) (u : List ℕ) → IsOption (open_blocks old) w → MayFollow Debug u → rest old ≡ option_text (open_blocks old) w ++ u → u ≡ rest new
    left_after new only None u is may same = absurd (no_none u (sym rests ∙ same))
    left_after new only (Some x) u is may same = what_is_left mode old _ new (only x is.0) u (is.1, may, same)

    pub some_taken : (v : T) (new : Parser M) → is_value v → IsTaken mode old (tuple_of (codes "Some") (documents (document v ∷ []))) new
        → ((x : T) → is_value x → NextLeaves mode old (tuple_of (codes "Some") (documents (document x ∷ []))) new)
        → OptionTaken (open_blocks before) (rest before) (Ok (Some v)) (rest new)
    some_taken v new is taken only = moved (Ok (Some v)) (rest new) (record { cases = (taken.0, (is, taken.1), left_after new only) })

    none_comes : ((x : T) → is_value x → IsNotNext mode old (tuple_of (codes "Some") (documents (document x ∷ []))))
        → (w : Option T) (u : List ℕ) → IsOption (open_blocks old) w → MayFollow Debug u → ¬ (rest old ≡ option_text (open_blocks old) w ++ u)
    none_comes never None u is may same = no_none u (sym rests ∙ same)
    none_comes never (Some x) u is may same = never_next mode old _ (never x is.0) u (is.1, may, same)

    pub option_refused : (fault : Fault) (new : List ℕ) → (fault ≡ NotText → (x : T) → is_value x → IsNotNext mode old (tuple_of (codes "Some") (documents (document x ∷ []))))
        → OptionTaken (open_blocks before) (rest before) (Err fault) new
    option_refused NotText new never = moved (Err NotText) new (record { cases = none_comes (never refl) })
    option_refused OutOfMemory new never = record { cases = tt }
