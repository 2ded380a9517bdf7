-- Texts that stay as they are made plain: no pretty value is in them, and none is in what follows a byte of no name.
use Rattle.std.proofs.Common.{◌≡◌, inl, inr, ◌∙◌, refl, ap, sym, subst, ℕ, zero, suc, ◌+◌, ◌≤◌, Bool, true, false, List, [], ◌∷◌, ◌++◌, append_assoc, Option, Some, None, drop, take, length, length-append, arith}
use Rattle.std.proofs.lemmas.List.{append_cancel_left}
use Rattle.ufmt.specs.Bytes.{line_feed}
use Rattle.ufmt.specs.Document.{Document}
use Rattle.ufmt.specs.Layout.{indentation, layout, setting, trail}
use Rattle.ufmt.specs.Leaves.{is_opening}
use Rattle.ufmt_core.specs.declared.layout.Mode.TheVariants.{Plain, Pretty}
use Rattle.ufmt_grammar.proofs.ReadingSound.{read_sound}
use Rattle.ufmt_grammar.specs.declared.class.Class.TheVariants.{Debug}
use Rattle.ufmt_lines.proofs.ApartTexts.{converted_apart}
use Rattle.ufmt_lines.proofs.BlockTexts.{BlockTexts, block_texts}
use Rattle.ufmt_values.proofs.Blocks.{entries_block}
use Rattle.ufmt_lines.proofs.ConvertedSteps.{convert, no_bracket, no_value, value_step, value_whole}
use Rattle.ufmt_values.proofs.FirstBrackets.{Without, first_bracket, without_append}
use Rattle.ufmt_values.proofs.FoundValues.{value_entries, value_read}
use Rattle.ufmt_lines.proofs.ValueStarts.{Apart, from_bracket, start_after}
use Rattle.ufmt_lines.specs.OutputLaws.{plain_with}
use Rattle.ufmt_lines.specs.Values.{convert_from}
use Rattle.ufmt_values.specs.Values.{is_in_struct, value_from}
use Rattle.ufmt_lines.specs.declared.run.conversion.Conversion.{Conversion}
use Rattle.ufmt_scan.specs.Texts.{other_mode}

-- the texts of a block with entries, that was found in a text
pub block_of : (conversion : Conversion) (z : List ℕ) (k : ℕ) (r : List ℕ) (d : Document) (rest : List ℕ) → value_from conversion.to (from_bracket conversion.to z k r) ≡ Some (d, rest) → BlockTexts d
block_of conversion z k r d rest is =
    let found = read_sound Debug 255 (setting (other_mode conversion.to) 0) (from_bracket conversion.to z k r) d rest (value_read conversion.to (from_bracket conversion.to z k r) d rest is) in
    block_texts d found.tokens (entries_block d (value_entries conversion.to (from_bracket conversion.to z k r) d rest is))

module _ (limit : ℕ) where
  -- the text stays as it is made plain
  pub record Still (text : List ℕ) : Type 0 where
    pub fuel : ℕ
    pub long : length text ≤ fuel
    pub same : convert (plain_with limit) fuel text ≡ text

  -- after a bracket, a plain text doesn't continue as a pretty one does
  not_pretty : (d : Document) → BlockTexts d → (x y : List ℕ) → layout (setting Plain 0) d ++ x ≡ layout (setting Pretty 0) d ++ y → ⊥
  not_pretty d b x y same =
      let line = line_feed ∷ (indentation 1 ++ (b.text ++ (trail Pretty ++ b.left))) in
      let plain : layout (setting Plain 0) d ++ x ≡ b.head ++ b.bracket ∷ (b.plain_tail ++ x) = ap (λ t. t ++ x) b.plain ∙ append_assoc b.head (b.bracket ∷ b.plain_tail) x in
      let pretty : layout (setting Pretty 0) d ++ y ≡ b.head ++ b.bracket ∷ (line ++ y) = ap (λ t. t ++ y) b.pretty ∙ append_assoc b.head (b.bracket ∷ line) y in
      b.plain_line x _ (ap (drop 1) (append_cancel_left b.head _ _ (sym plain ∙ same ∙ pretty)))

  module _ (z : List ℕ) (k : ℕ) (r : List ℕ) (none : Without is_opening z) (opens : is_opening k ≡ true) where
    -- so no pretty value is at its first bracket, and what follows the bracket stays too
    pub still_at : Still (z ++ k ∷ r) → (value_from Plain (from_bracket Plain z k r) ≡ None) × Still r
    still_at h = go h.fuel h.long h.same
      where
        long : length (z ++ k ∷ r) ≡ length z + suc (length r)
        long = length-append z (k ∷ r)

        at : (n : ℕ) → length (z ++ k ∷ r) ≤ suc n → convert (plain_with limit) (suc n) (z ++ k ∷ r) ≡ z ++ k ∷ r → (o : Option (Document × List ℕ)) → value_from Plain (from_bracket Plain z k r) ≡ o
            → (value_from Plain (from_bracket Plain z k r) ≡ None) × Still r
        at n within same None is = let whole = long in (
          is,
          record {
            fuel = n;
            long = omega (arith, whole, within);
            same = ap (drop 1) (append_cancel_left z _ _ (sym (no_value (plain_with limit) n z k r none opens is) ∙ same));
          },
        )
        at n within same (Some x) is =
            absurd (not_pretty x.0 (block_of (plain_with limit) z k r x.0 x.1 is) _ _
            (append_cancel_left (take (start_after k z (is_in_struct Plain r)) z) _ _
            (sym (value_step (plain_with limit) n z k r none opens x.0 x.1 is) ∙ same ∙ value_whole (plain_with limit) n z k r none opens x.0 x.1 is)))

        go : (n : ℕ) → length (z ++ k ∷ r) ≤ n → convert (plain_with limit) n (z ++ k ∷ r) ≡ z ++ k ∷ r → (value_from Plain (from_bracket Plain z k r) ≡ None) × Still r
        go zero within same = let whole = long in absurd (omega (arith, whole, within))
        go (suc n) within same = at n within same (value_from Plain (from_bracket Plain z k r)) refl

  -- it stays for any number of brackets
  pub still_same : (m : ℕ) (text : List ℕ) → Still text → convert (plain_with limit) m text ≡ text
  unfolding convert_from
  still_same zero text h = refl
  still_same (suc m) text h = elim (first_bracket text) [
    | inl none ↦ no_bracket (plain_with limit) (suc m) text none
    | inr f ↦
        let at = still_at f.before f.bracket f.after f.none f.opens (subst Still f.is h) in
        ap (convert (plain_with limit) (suc m)) f.is
        ∙ no_value (plain_with limit) m f.before f.bracket f.after f.none f.opens at.0
        ∙ ap (λ t. f.before ++ f.bracket ∷ t) (still_same m f.after at.1) ∙ sym f.is
  ]

  -- what follows a bracket is in what follows it and more
  pub cut_assoc : (z : List ℕ) (k : ℕ) (r e t : List ℕ) → ((z ++ k ∷ r) ++ e) ++ t ≡ z ++ k ∷ ((r ++ e) ++ t)
  cut_assoc z k r e t = simp append_assoc

  module _ (c : ℕ) (text : List ℕ) (apart : Apart c) where
    -- without a bracket before the byte, or at the byte
    after_last : (y : List ℕ) → Without is_opening y → Still ((y ++ c ∷ []) ++ text) → (b : Bool) → is_opening c ≡ b → Still text
    after_last y none h true opens = (still_at y c text none opens (subst Still (append_assoc y (c ∷ []) text) h)).1
    after_last y none h false other =
        let long = length-append (y ++ c ∷ []) text in
        let within = h.long in
        record {
          fuel = h.fuel;
          long = omega (arith, long, within);
          same = append_cancel_left (y ++ c ∷ []) _ _ (sym (converted_apart (plain_with limit) y c (without_append is_opening y (c ∷ []) none (other, tt)) apart h.fuel text) ∙ h.same);
        }

    -- so what follows such a byte stays too
    pub still_rest : (most : ℕ) (y : List ℕ) → length y ≤ most → Still ((y ++ c ∷ []) ++ text) → Still text
    still_rest zero [] within h = after_last [] tt h (is_opening c) refl
    still_rest zero (b ∷ y) within h = absurd (omega (arith, within))
    still_rest (suc most) y within h = elim (first_bracket y) [
      | inl none ↦ after_last y none h (is_opening c) refl
      | inr f ↦
          let long = ap length f.is ∙ length-append f.before (f.bracket ∷ f.after) in
          still_rest most f.after (omega (arith, long, within))
          (still_at f.before f.bracket ((f.after ++ c ∷ []) ++ text) f.none f.opens
          (subst Still (ap (λ t. (t ++ c ∷ []) ++ text) f.is ∙ cut_assoc f.before f.bracket f.after (c ∷ []) text) h)).1
    ]
