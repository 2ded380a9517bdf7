-- Lists of keys with the same document are equal in their order.
use Rattle.std.proofs.Common.{◌≡◌, refl, ap, List, [], ◌∷◌, map}
use Rattle.std.specs.Prelude.{All}
use Rattle.std.specs.Cmp.Lexicographic.{slice_cmp}
use Rattle.std.specs.declared.cmp.Ordering.{Ordering}
use Rattle.std.specs.declared.cmp.Ordering.TheVariants.{Equal}
use Rattle.std.proofs.lemmas.List.Elements.{All-head, All-tail}
use Rattle.ufmt.specs.Document.{Document, documents, list_of}
use Rattle.ufmt.specs.Token.{normal, normal_all}

module _ {K : Type 0} (cmp : K → K → Ordering) (is : K → Type 0) (of : K → Document) (law : (x y : K) → is x → is y → normal (of x) ≡ normal (of y) → cmp x y ≡ Equal) where
  pub lists_equal : (xs ys : List K) → All is xs → All is ys → normal (list_of (documents (map of xs))) ≡ normal (list_of (documents (map of ys))) → slice_cmp cmp xs ys ≡ Equal
  lists_equal [] [] are_xs are_ys same = refl
  lists_equal [] (y ∷ ys) are_xs are_ys same = cc
  lists_equal (x ∷ xs) [] are_xs are_ys same = cc
  lists_equal (x ∷ xs) (y ∷ ys) are_xs are_ys same =
      let rest : normal_all (documents (map of xs)) ≡ normal_all (documents (map of ys)) = cc in
      rw (law x y (All-head is x xs are_xs) (All-head is y ys are_ys) cc) (lists_equal xs ys (All-tail is x xs are_xs) (All-tail is y ys are_ys) (ap list_of rest))
