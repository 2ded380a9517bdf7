-- First groups of a text, and their outputs, one after another.
use Rattle.std.proofs.Common.{◌≡◌, ◌∙◌, ◌⊎◌, inl, inr, refl, ap, sym, subst, ℕ, List, [], ◌++◌, append_assoc, append-nil, Option}
use Rattle.std.proofs.KnownBytes.{Appends-nil, Appends-trans}
use Rattle.std.specs.Io.KnownBytes.{Appends}
use Rattle.ufmt_lines.specs.declared.run.conversion.Conversion.{Conversion}
use Rattle.ufmt_core.specs.declared.layout.Mode.{Mode}
use Rattle.ufmt_io.specs.Whole.{AppendsPrefix}
use Rattle.ufmt_lines.specs.Output.{WritesFront, outputs_for, outputs_of}
use Rattle.ufmt_lines.specs.Groups.{AreFirstGroups, groups_of}
use Rattle.ufmt_lines.specs.Private.Group.{Gathers}
use Rattle.ufmt_lines.proofs.Cuts.{outputs_cut, outputs_more}

module _ (mode : Mode) where
  no_first : (text : List ℕ) → AreFirstGroups mode [] text text
  no_first text = λ more. refl

  pub first_before : (groups : List (List ℕ)) (text rest more : List ℕ) → AreFirstGroups mode groups text rest → AreFirstGroups mode groups (text ++ more) (rest ++ more)
  first_before groups text rest more first = λ others.
      ap (groups_of mode) (append_assoc text more others) ∙ first (more ++ others) ∙ ap (λ t. groups ++ groups_of mode t) (sym (append_assoc rest more others))

  first_then : (groups others : List (List ℕ)) (text mid rest : List ℕ) → AreFirstGroups mode groups text mid → AreFirstGroups mode others mid rest → AreFirstGroups mode (groups ++ others) text rest
  first_then groups others text mid rest first next = λ more.
      first more ∙ ap (λ g. groups ++ g) (next more) ∙ sym (append_assoc groups others (groups_of mode (rest ++ more)))

module _ (conversion : Conversion) where
  -- nothing is gathered yet
  pub nothing_gathered : (text outputs : List ℕ) → Gathers conversion text text outputs outputs
  nothing_gathered text outputs = record { groups = []; are_first = no_first conversion.to text; appended = sym (append-nil outputs) }

  -- more bytes follow the rest
  pub gathered_before : (text rest more old new : List ℕ) → Gathers conversion text rest old new → Gathers conversion (text ++ more) (rest ++ more) old new
  gathered_before text rest more old new h = record { groups = h.groups; are_first = first_before conversion.to h.groups text rest more h.are_first; appended = h.appended }

  -- first the outputs for some groups, then those for some of the rest
  pub gathered_then : (text mid rest first second third : List ℕ) → Gathers conversion text mid first second → Gathers conversion mid rest second third → Gathers conversion text rest first third
  gathered_then text mid rest first second third g h = record {
    groups = g.groups ++ h.groups;
    are_first = first_then conversion.to g.groups h.groups text mid rest g.are_first h.are_first;
    appended = h.appended ∙ ap (λ t. t ++ outputs_for conversion h.groups) g.appended ∙ append_assoc first (outputs_for conversion g.groups) (outputs_for conversion h.groups)
        ∙ ap (λ t. first ++ t) (sym (outputs_more conversion g.groups h.groups));
  }

  -- nothing is written yet
  pub nothing_written : (text : List ℕ) (known : Option (List ℕ)) → WritesFront conversion text text known known
  nothing_written text known = record { groups = []; are_first = no_first conversion.to text; written = Appends-nil known }

  -- more bytes follow the rest
  pub front_before : (text rest more : List ℕ) (old new : Option (List ℕ)) → WritesFront conversion text rest old new → WritesFront conversion (text ++ more) (rest ++ more) old new
  front_before text rest more old new h = record { groups = h.groups; are_first = first_before conversion.to h.groups text rest more h.are_first; written = h.written }

  -- first a front, then a front of the rest
  pub front_then : (text mid rest : List ℕ) (first second third : Option (List ℕ)) → WritesFront conversion text mid first second
      → WritesFront conversion mid rest second third → WritesFront conversion text rest first third
  front_then text mid rest first second third g h = record {
    groups = g.groups ++ h.groups;
    are_first = first_then conversion.to g.groups h.groups text mid rest g.are_first h.are_first;
    written = subst (Appends first third) (sym (outputs_more conversion g.groups h.groups)) (Appends-trans first second third _ _ g.written h.written);
  }

  -- what was gathered from nothing on is written
  pub gathered_written : (text rest outputs : List ℕ) (old new : Option (List ℕ)) → Gathers conversion text rest [] outputs → Appends old new outputs → WritesFront conversion text rest old new
  gathered_written text rest outputs old new h written = record { groups = h.groups; are_first = h.are_first; written = subst (Appends old new) h.appended written }

  -- a front, and then a prefix of the outputs for the rest, are a prefix of all outputs
  pub front_in_part : (text mid more : List ℕ) (first second third : Option (List ℕ)) → WritesFront conversion text mid first second
      → AppendsPrefix second third (outputs_of conversion (mid ++ more)) → AppendsPrefix first third (outputs_of conversion (text ++ more))
  front_in_part text mid more first second third g (part, left, joined, written) =
      let all = outputs_cut conversion g.groups text mid g.are_first more ∙ ap (λ t. outputs_for conversion g.groups ++ t) joined ∙ sym (append_assoc (outputs_for conversion g.groups) part left) in
      (outputs_for conversion g.groups ++ part, left, all, Appends-trans first second third _ _ g.written written)

  -- a prefix of what was gathered is one of all outputs
  pub gathered_in_part : (text rest outputs more : List ℕ) (old new : Option (List ℕ)) → Gathers conversion text rest [] outputs → AppendsPrefix old new outputs
      → AppendsPrefix old new (outputs_of conversion (text ++ more))
  gathered_in_part text rest outputs more old new h (part, left, joined, written) =
      let all = outputs_cut conversion h.groups text rest h.are_first more ∙ ap (λ t. t ++ outputs_of conversion (rest ++ more)) (sym h.appended ∙ joined) ∙ append_assoc part left (outputs_of conversion (rest ++ more)) in
      (part, left ++ outputs_of conversion (rest ++ more), all, written)

  -- what was gathered is written now, or is still to be written
  abbrev pub WritesAndGathers : List ℕ → List ℕ → List ℕ → Option (List ℕ) → Option (List ℕ) → Type 0
  WritesAndGathers text rest outputs old new = (middle : List ℕ) × WritesFront conversion text middle old new × Gathers conversion middle rest [] outputs

  -- if there was more, and then all of it may have been written
  pub written_if_full : (text middle rest outputs left : List ℕ) (first second third : Option (List ℕ)) → WritesFront conversion text middle first second
      → Gathers conversion middle rest [] outputs → (((left ≡ outputs) × (third ≡ second)) ⊎ ((left ≡ []) × Appends second third outputs)) → WritesAndGathers text rest left first third
  written_if_full text middle rest outputs left first second third before more (inl (same, none)) =
      (middle, subst (WritesFront conversion text middle first) (sym none) before, subst (Gathers conversion middle rest []) (sym same) more)
  written_if_full text middle rest outputs left first second third before more (inr (none, written)) =
      (rest, front_then text middle rest first second third before (gathered_written middle rest outputs second third more written), subst (Gathers conversion rest rest []) (sym none) (nothing_gathered rest []))

  -- the same, if the front is followed by more
  pub with_rest : (group front after rest left outputs more : List ℕ) → rest ≡ front ++ after → Gathers conversion (group ++ front) left outputs more → Gathers conversion (group ++ rest) (left ++ after) outputs more
  with_rest group front after rest left outputs more is ended =
      let cut : group ++ rest ≡ (group ++ front) ++ after = ap (λ t. group ++ t) is ∙ sym (append_assoc group front after) in
      subst (λ t. Gathers conversion t (left ++ after) outputs more) (sym cut) (gathered_before (group ++ front) left after outputs more ended)

  -- the outputs for the groups that ended in some lines were gathered
  pub lines_more : (middle group lines left_group left last first outputs more : List ℕ) → Gathers conversion middle (group ++ (lines ++ last)) first outputs
      → Gathers conversion (group ++ lines) (left_group ++ left) outputs more → Gathers conversion middle (left_group ++ (left ++ last)) first more
  lines_more middle group lines left_group left last first outputs more before ended =
      subst (λ t. Gathers conversion middle t first more) (append_assoc left_group left last)
      (gathered_then middle (group ++ (lines ++ last)) ((left_group ++ left) ++ last) first outputs more before (with_rest group lines last (lines ++ last) (left_group ++ left) outputs more refl ended))

  -- all that was gathered was written
  pub all_written : (text middle rest outputs : List ℕ) (first second third : Option (List ℕ)) → WritesFront conversion text middle first second
      → Gathers conversion middle rest [] outputs → Appends second third outputs → WritesFront conversion text rest first third
  all_written text middle rest outputs first second third before more written =
      front_then text middle rest first second third before (gathered_written middle rest outputs second third more written)

  -- a prefix of it was written
  pub written_in_part : (text middle rest outputs : List ℕ) (first second third : Option (List ℕ)) → WritesFront conversion text middle first second
      → Gathers conversion middle rest [] outputs → AppendsPrefix second third outputs → (more : List ℕ) → AppendsPrefix first third (outputs_of conversion (text ++ more))
  written_in_part text middle rest outputs first second third before gathers part more =
      front_in_part text middle more first second third before (gathered_in_part middle rest outputs more second third gathers part)
