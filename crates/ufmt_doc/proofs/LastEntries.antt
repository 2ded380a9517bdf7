-- The last entry of a block, which a colon makes a key.
use Rattle.std.proofs.Common.{◌≡◌, ◌∙◌, ap, sym, refl, ℕ, ◌+◌, List, [], ◌∷◌, ◌++◌, length, map, arith, Option, None, Some}
use Rattle.std.proofs.lemmas.List.{map-append}
use Rattle.std.specs.Prelude.{MatchOption, option_map, option_to_list}
use Rattle.ufmt_doc.specs.Private.OpenBlock.{last_of}

last_of-push : {A : Type 0} (xs : List A) (x : A) → last_of (xs ++ x ∷ []) ≡ Some x
last_of-push [] x = refl
last_of-push (y ∷ []) x = refl
last_of-push (y ∷ z ∷ xs) x = last_of-push (z ∷ xs) x

-- what is taken off the end is the last entry, or there was none
pub last_entry : {A B : Type 0} (view : A → B) (xs front : List A) (last : Option A) (before after : ℕ) → before ≡ length xs → xs ≡ front ++ option_to_list last
    → MatchOption last ((before ≡ 0) × (after ≡ 0)) (λ _. after + 1 ≡ before) → option_map view last ≡ last_of (map view xs)
last_entry view [] front None before after counted is cases = refl
last_entry view (x ∷ xs) front None before after counted is cases = let none = cases.0 in absurd (omega (arith, counted, none))
last_entry view xs front (Some x) before after counted is cases =
    sym (ap (λ l. last_of (map view l)) is ∙ ap last_of (map-append view front (x ∷ [])) ∙ last_of-push (map view front) (view x))
