-- The outputs for groups, and for a text of one group.
use Rattle.std.proofs.Common.{◌≡◌, ◌∙◌, refl, ap, sym, ℕ, List, [], ◌∷◌, ◌++◌, map, append-nil}
use Rattle.std.proofs.lemmas.List.{map-append}
use Rattle.std.proofs.lemmas.List.Folds.{concat-append}
use Rattle.std.specs.List.{concat}
use Rattle.ufmt_lines.specs.declared.run.conversion.Conversion.{Conversion}
use Rattle.ufmt_lines.specs.Output.{outputs_for, outputs_of}
use Rattle.ufmt_lines.specs.Groups.{AreFirstGroups, groups_of, if_any}
use Rattle.ufmt_lines.specs.Values.{convert_from, output_of}

module _ (conversion : Conversion) where
  nothing_stays : output_of conversion [] ≡ []
  unfolding convert_from
  nothing_stays = refl

  -- the outputs for groups and for others are put together
  pub outputs_more : (groups others : List (List ℕ)) → outputs_for conversion (groups ++ others) ≡ outputs_for conversion groups ++ outputs_for conversion others
  outputs_more groups others = ap (λ t. concat t) (map-append (output_of conversion) groups others) ∙ concat-append (map (output_of conversion) groups) (map (output_of conversion) others)

  -- the outputs for one group, or for none, are its output
  pub outputs_any : (group : List ℕ) → outputs_for conversion (if_any group) ≡ output_of conversion group
  outputs_any [] = sym nothing_stays
  outputs_any (byte ∷ group) = append-nil (output_of conversion (byte ∷ group))

  -- the outputs for a text are those for its first groups, and those for the rest
  pub outputs_cut : (groups : List (List ℕ)) (text rest : List ℕ) → AreFirstGroups conversion.to groups text rest → (more : List ℕ)
      → outputs_of conversion (text ++ more) ≡ outputs_for conversion groups ++ outputs_of conversion (rest ++ more)
  unfolding outputs_of
  outputs_cut groups text rest first more = ap (outputs_for conversion) (first more) ∙ outputs_more groups (groups_of conversion.to (rest ++ more))

  pub outputs_at : (groups : List (List ℕ)) (text rest : List ℕ) → AreFirstGroups conversion.to groups text rest → outputs_of conversion text ≡ outputs_for conversion groups ++ outputs_of conversion rest
  outputs_at groups text rest first =
      ap (outputs_of conversion) (sym (append-nil text)) ∙ outputs_cut groups text rest first [] ∙ ap (λ t. outputs_for conversion groups ++ outputs_of conversion t) (append-nil rest)

  -- the outputs for a text of one group are its output
  pub outputs_one : (group : List ℕ) → groups_of conversion.to group ≡ if_any group → outputs_of conversion group ≡ output_of conversion group
  unfolding outputs_of
  outputs_one group one = ap (outputs_for conversion) one ∙ outputs_any group
