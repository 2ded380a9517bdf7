-- What holds of each value in a list, said by recursion, as a type that holds itself in one says it.
use Rattle.std.proofs.Common.{◌≡◌, ◌↔◌, refl, sym, ap, subst, List, [], ◌∷◌, ℕ, map, Result}
use Rattle.std.specs.List.{All, AllByRecursion}
use Rattle.std.proofs.lemmas.List.Elements.{All-from_recursion, recursion_from_All}
use Rattle.ufmt.specs.Document.{Document, documents, list_of}
use Rattle.ufmt.specs.Layout.{layout}
use Rattle.ufmt_core.specs.declared.layout.Mode.{Mode}
use Rattle.ufmt_parser.specs.declared.parser.Fault.{Fault}
use Rattle.ufmt_parser.specs.Blocks.{outcome_map}
use Rattle.ufmt_parser.specs.Taking.{Fits, Takes, setting_in}
use Rattle.ufmt_parser.proofs.Views.{taken_as, viewed}

pub each_of : {X : Type 0} (P : X → Type 0) (xs : List X) → All P xs → AllByRecursion P xs
each_of P xs all = recursion_from_All P xs all

-- for `rec-roll` of a type that holds itself in a `Vec`
pub all_map : {X Y : Type 0} (P : Y → Type 0) (v : X → Y) (xs : List X) → AllByRecursion (λ x. P (v x)) xs ≡ AllByRecursion P (map v xs)
all_map P v [] = refl
all_map P v (x ∷ xs) = ap (λ C. P (v x) × C) (all_map P v xs)

pub same_holds : {A B : Type 0} → A ≡ B → A ↔ B
same_holds same = (subst (λ C. C) same, subst (λ C. C) (sym same))

-- a list whose values are taken is taken, also where their fact is said by recursion
pub taken_by_recursion : {T V : Type 0} (is : T → Type 0) (document : T → Document) (items : V → List T) (mode : Mode) (blocks : ℕ)
    {old : List ℕ} {outcome : Result V Fault} {new : List ℕ}
    → Takes (λ vs. All is vs × Fits blocks (list_of (documents (map document vs)))) (λ vs. layout (setting_in mode blocks) (list_of (documents (map document vs))))
    old (outcome_map items outcome) new
    → Takes (λ v. AllByRecursion is (items v) × Fits blocks (list_of (documents (map document (items v)))))
    (λ v. layout (setting_in mode blocks) (list_of (documents (map document (items v))))) old outcome new
taken_by_recursion is document items mode blocks takes = taken_as
    (λ v holds. (recursion_from_All is (items v) holds.0, holds.1))
    (λ v holds. (All-from_recursion is (items v) holds.0, holds.1))
    (λ v holds. refl)
    (viewed items takes)
