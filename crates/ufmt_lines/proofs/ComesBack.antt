-- A text that stays as it is made plain comes back after it is made pretty and then plain.
use Rattle.std.proofs.Common.{◌≡◌, inl, inr, ◌∙◌, refl, ap, sym, subst, ℕ, zero, suc, ◌+◌, ◌≤◌, ◌==◌, ◌&&◌, ◌||◌, Bool, true, false, List, [], ◌∷◌, ◌++◌, append_assoc, Option, Some, None, drop, take, length, length-append, eqb-true, arith}
use Rattle.std.proofs.lemmas.List.{take-append-drop}
use Rattle.std.specs.Prelude.{nat_le}
use Rattle.ufmt.specs.Bytes.{opening_brace}
use Rattle.ufmt.specs.Document.{Document}
use Rattle.ufmt.specs.Layout.{layout, setting}
use Rattle.ufmt.specs.Leaves.{is_opening}
use Rattle.ufmt_core.specs.declared.layout.Mode.TheVariants.{Plain, Pretty}
use Rattle.ufmt_core.specs.declared.layout.Setting.{Setting}
use Rattle.ufmt_grammar.proofs.ReadingComplete.{block_read, pretty_no_address}
use Rattle.ufmt_grammar.proofs.ReadingSound.{Found, read_sound}
use Rattle.ufmt_grammar.specs.declared.class.Class.TheVariants.{Debug}
use Rattle.ufmt_lines.proofs.ApartTexts.{converted_apart}
use Rattle.ufmt_lines.proofs.BlockTexts.{BlockTexts, block_texts}
use Rattle.ufmt_values.proofs.Blocks.{entries_block}
use Rattle.ufmt_lines.proofs.ConvertedSteps.{convert, no_bracket, no_value, value_step, value_whole}
use Rattle.ufmt_values.proofs.FirstBrackets.{FirstBracket, Without, first_bracket, one_first, without_append, without_drop}
use Rattle.ufmt_values.proofs.FoundValues.{front_value, value_entries, value_read}
use Rattle.ufmt_values.proofs.NameBrackets.{opening_no_name, opening_no_space}
use Rattle.ufmt_lines.proofs.PrettyInside.{first_line, same_struct, was_there}
use Rattle.ufmt_lines.proofs.StillTexts.{Still, block_of, cut_assoc, still_at, still_rest, still_same}
use Rattle.ufmt_lines.proofs.ValueStarts.{Apart, could_be_is, from_bracket, start_after, start_same}
use Rattle.ufmt_lines.specs.OutputLaws.{PlainTextsComeBack, plain_with, pretty_with}
use Rattle.ufmt_lines.specs.Values.{convert_from, could_be_struct, stays, value_text}
use Rattle.ufmt_values.specs.Values.{is_after_name, is_in_struct, value_from}
use Rattle.ufmt_scan.specs.Fronts.{begins_with_field, has_entries, has_one_leaf}

-- a document that was found, with entries, is read again from its pretty text, whatever follows it
pub pretty_read : (to_text rest : List ℕ) (s : Setting) (d : Document) → Found Debug s 255 to_text d rest → has_entries d ≡ true → (u : List ℕ) → value_from Plain (layout (setting Pretty 0) d ++ u) ≡ Some (d, u)
pretty_read to_text rest s d found entries u =
    front_value Plain (layout (setting Pretty 0) d ++ u) d u
    (block_read Debug 255 (setting Pretty 0) d u found.tokens (entries_block d entries) found.nests (omega arith) (pretty_no_address Debug 0 d u) ∙ ap (λ e. Some (e, u)) found.is_normal) entries

-- what of three isn't so
neither : (a b c : Bool) → (a || b || c) ≡ false → c ≡ false
neither true b c h = absurd (cc)
neither false true c h = absurd (cc)
neither false false c h = h

-- an opening bracket is no name's byte, and no space
opening_apart : (c : ℕ) → is_opening c ≡ true → Apart c
opening_apart c opens = record { no_name = opening_no_name c opens; no_space = opening_no_space c opens }

module _ (limit : ℕ) where
  -- the text becomes that one as it is made plain, for any number of brackets that suffices
  abbrev Back : List ℕ → List ℕ → Type 0
  Back made text = (m : ℕ) → length made ≤ m → convert (plain_with limit) m made ≡ text

  -- ---- brackets of no value

  module _ (n : ℕ) (z : List ℕ) (k : ℕ) (w text : List ℕ) (none : Without is_opening z) (opens : is_opening k ≡ true) (still : Still limit (z ++ k ∷ (w ++ text))) where
    abbrev made : List ℕ
    made = w ++ convert (pretty_with limit) n text

    -- from where a value with this bracket would begin, up to what is made pretty
    abbrev from : List ℕ
    from = drop (start_after k z (is_in_struct Plain (w ++ text))) z ++ k ∷ w

    -- there the text that is made pretty has these bytes first
    from_made : from_bracket Plain z k made ≡ from ++ convert (pretty_with limit) n text
    from_made =
        ap (λ b. drop (start_after k z b) z ++ k ∷ made) (same_struct limit w n text)
        ∙ sym (append_assoc (drop (start_after k z (is_in_struct Plain (w ++ text))) z) (k ∷ w) (convert (pretty_with limit) n text))

    from_text : from_bracket Plain z k (w ++ text) ≡ from ++ text
    from_text = sym (append_assoc (drop (start_after k z (is_in_struct Plain (w ++ text))) z) (k ∷ w) text)

    -- no pretty value is at a bracket between values that are made pretty
    no_pretty_value : (o : Option (Document × List ℕ)) → value_from Plain (from_bracket Plain z k made) ≡ o → value_from Plain (from_bracket Plain z k made) ≡ None
    no_pretty_value None is = is
    no_pretty_value (Some x) is =
        let found = read_sound Debug 255 (setting Pretty 0) (from_bracket Plain z k made) x.0 x.1 (value_read Plain (from_bracket Plain z k made) x.0 x.1 is) in
        let entries = value_entries Plain (from_bracket Plain z k made) x.0 x.1 is in
        let first : FirstBracket from = record { before = drop (start_after k z (is_in_struct Plain (w ++ text))) z; bracket = k; after = w; none = without_drop is_opening _ z none; opens = opens; is = refl } in
        let there = was_there limit (block_texts x.0 found.tokens (entries_block x.0 entries)) n from text x.1 first (sym from_made ∙ found.whole) in
        let value : value_from Plain (from_bracket Plain z k (w ++ text)) ≡ Some (x.0, there.0) = ap (value_from Plain) (from_text ∙ there.1) ∙ pretty_read _ _ _ x.0 found entries there.0 in
        let stays = (still_at limit z k (w ++ text) none opens still).0 in
        absurd (cc (value, stays))

    -- so such a bracket stays
    pub bracket_back : Back made (w ++ text) → Back (z ++ k ∷ made) (z ++ k ∷ (w ++ text))
    bracket_back back zero long = let all = length-append z (k ∷ made) in absurd (omega (arith, all, long))
    bracket_back back (suc m) long =
        let all = length-append z (k ∷ made) in
        no_value (plain_with limit) m z k made none opens (no_pretty_value _ refl) ∙ ap (λ t. z ++ k ∷ t) (back m (omega (arith, all, long)))

  -- ---- bytes that stay

  module _ (n : ℕ) (c : ℕ) (text : List ℕ) (apart : Apart c) (back : Back (convert (pretty_with limit) n text) text) where
    abbrev after : List ℕ
    after = convert (pretty_with limit) n text

    -- without a bracket, or with one as the last byte, they come back
    last_back : (y : List ℕ) → Without is_opening y → Still limit ((y ++ c ∷ []) ++ text) → (b : Bool) → is_opening c ≡ b → Back ((y ++ c ∷ []) ++ after) ((y ++ c ∷ []) ++ text)
    last_back y none still true opens =
        subst (λ t. Back t ((y ++ c ∷ []) ++ text)) (sym (append_assoc y (c ∷ []) after))
        (subst (Back (y ++ c ∷ after)) (sym (append_assoc y (c ∷ []) text))
        (bracket_back n y c [] text none opens (subst (Still limit) (append_assoc y (c ∷ []) text) still) back))
    last_back y none still false other = λ m long.
        let all = length-append (y ++ c ∷ []) after in
        converted_apart (plain_with limit) y c (without_append is_opening y (c ∷ []) none (other, tt)) apart m after
        ∙ ap (λ t. (y ++ c ∷ []) ++ t) (back m (omega (arith, all, long)))

    -- bytes that stay, up to one of no name, come back
    pub part_back : (most : ℕ) (y : List ℕ) → length y ≤ most → Still limit ((y ++ c ∷ []) ++ text) → Back ((y ++ c ∷ []) ++ after) ((y ++ c ∷ []) ++ text)
    part_back zero [] within still = last_back [] tt still (is_opening c) refl
    part_back zero (b ∷ y) within still = absurd (omega (arith, within))
    part_back (suc most) y within still = elim (first_bracket y) [
      | inl none ↦ last_back y none still (is_opening c) refl
      | inr f ↦
          let long = ap length f.is ∙ length-append f.before (f.bracket ∷ f.after) in
          let cut : (t : List ℕ) → (y ++ c ∷ []) ++ t ≡ f.before ++ f.bracket ∷ ((f.after ++ c ∷ []) ++ t) = λ t. ap (λ u. (u ++ c ∷ []) ++ t) f.is ∙ cut_assoc limit f.before f.bracket f.after (c ∷ []) t in
          let whole = subst (Still limit) (cut text) still in
          let rest = (still_at limit f.before f.bracket ((f.after ++ c ∷ []) ++ text) f.none f.opens whole).1 in
          subst (λ t. Back t ((y ++ c ∷ []) ++ text)) (sym (cut after))
          (subst (Back (f.before ++ f.bracket ∷ ((f.after ++ c ∷ []) ++ after))) (sym (cut text))
          (bracket_back n f.before f.bracket (f.after ++ c ∷ []) text f.none f.opens whole (part_back most f.after (omega (arith, long, within)) rest)))
    ]

  -- ---- values

  module _ (n : ℕ) (z : List ℕ) (k : ℕ) (r : List ℕ) (none : Without is_opening z) (opens : is_opening k ≡ true) (still : Still limit (z ++ k ∷ r))
      (d : Document) (rest : List ℕ) (is : value_from Pretty (from_bracket Pretty z k r) ≡ Some (d, rest)) where
    abbrev start : ℕ
    start = start_after k z (is_in_struct Pretty r)

    abbrev y : List ℕ
    y = take start z

    abbrev plain : List ℕ
    plain = layout (setting Plain 0) d

    abbrev pretty : List ℕ
    pretty = layout (setting Pretty 0) d

    abbrev later : List ℕ
    later = convert (pretty_with limit) n rest

    -- the document is one of the class, in normal form
    found : Found Debug (setting Plain 0) 255 (from_bracket Pretty z k r) d rest
    found = read_sound Debug 255 (setting Plain 0) (from_bracket Pretty z k r) d rest (value_read Pretty (from_bracket Pretty z k r) d rest is)

    entries : has_entries d ≡ true
    entries = value_entries Pretty (from_bracket Pretty z k r) d rest is

    b : BlockTexts d
    b = block_of (pretty_with limit) z k r d rest is

    -- the text is what is before the value, the value and the rest
    whole : z ++ k ∷ r ≡ y ++ (plain ++ rest)
    whole = value_whole (pretty_with limit) n z k r none opens d rest is

    closed : (t : List ℕ) → y ++ (plain ++ t) ≡ ((y ++ (b.ends Plain).front) ++ (b.ends Plain).last ∷ []) ++ t
    closed t = ap (λ u. y ++ (u ++ t)) (b.ends Plain).is ∙ parts y (b.ends Plain).front (b.ends Plain).last t
      where
        parts : (y f : List ℕ) (l : ℕ) (t : List ℕ) → y ++ ((f ++ l ∷ []) ++ t) ≡ ((y ++ f) ++ l ∷ []) ++ t
        parts y f l t = simp append_assoc

    -- what follows a value stays as it is made plain
    still_after : Still limit rest
    still_after = still_rest limit (b.ends Plain).last rest (b.ends Plain).apart (length (y ++ (b.ends Plain).front)) (y ++ (b.ends Plain).front) (omega arith) (subst (Still limit) (whole ∙ closed rest) still)

    -- a value that stays comes back
    kept_back : Back later rest → Back (y ++ (plain ++ later)) (z ++ k ∷ r)
    kept_back back =
        subst (λ t. Back t (z ++ k ∷ r)) (sym (closed later))
        (subst (Back (((y ++ (b.ends Plain).front) ++ (b.ends Plain).last ∷ []) ++ later)) (sym (whole ∙ closed rest))
        (part_back n (b.ends Plain).last rest (b.ends Plain).apart back (length (y ++ (b.ends Plain).front)) (y ++ (b.ends Plain).front) (omega arith) (subst (Still limit) (whole ∙ closed rest) still)))

    -- the bytes before and after the bracket
    cut : (drop start z ≡ b.head) × (k ≡ b.bracket) × (r ≡ b.plain_tail ++ rest)
    cut = one_first (drop start z) b.head k b.bracket r (b.plain_tail ++ rest) (without_drop is_opening start z none) b.none opens b.opens
        (found.whole ∙ ap (λ t. t ++ rest) b.plain ∙ append_assoc b.head (b.bracket ∷ b.plain_tail) rest)

    -- what follows the bracket in the pretty text
    abbrev lines : List ℕ
    lines = first_line b ++ later

    -- the bracket, and what follows it in the pretty text, are in the value's pretty text
    pretty_from : drop start z ++ k ∷ lines ≡ pretty ++ later
    pretty_from =
        ap (λ t. t ++ k ∷ lines) cut.0 ∙ ap (λ c. b.head ++ c ∷ lines) cut.1 ∙ sym (append_assoc b.head (b.bracket ∷ first_line b) later) ∙ ap (λ t. t ++ later) (sym b.pretty)

    -- the text that is made pretty has the same bytes up to the bracket
    made_is : y ++ (pretty ++ later) ≡ z ++ k ∷ lines
    made_is = ap (λ t. y ++ t) (sym pretty_from) ∙ sym (append_assoc y (drop start z) (k ∷ lines)) ∙ ap (λ t. t ++ k ∷ lines) (take-append-drop start z)

    module _ (changed : stays (pretty_with limit) (z ++ k ∷ r) 0 (length z) d (length plain) ≡ false) where
      -- after a name and a brace there is no field's name
      no_field : (k == opening_brace) ≡ true → is_after_name z 0 (length z) ≡ true → begins_with_field Debug r ≡ false
      no_field brace named =
          ap (λ a. a && begins_with_field Debug r) (sym named) ∙ ap (λ a. a && is_after_name z 0 (length z) && begins_with_field Debug r) (sym brace)
          ∙ sym (could_be_is z k r) ∙ neither (nat_le (length plain) limit) (has_one_leaf d) (could_be_struct (z ++ k ∷ r) 0 (length z)) changed

      -- the pretty text is of the same kind, so it begins at the same byte
      same_start : start_after k z (is_in_struct Plain lines) ≡ start
      same_start = start_same k z (is_in_struct Plain lines) (is_in_struct Pretty r) (λ brace named.
          let bracket : b.bracket ≡ opening_brace = sym cut.1 ∙ eqb-true k opening_brace brace in
          sym (b.same_kind rest later bracket (ap (begins_with_field Debug) (sym cut.2) ∙ no_field brace named)) ∙ ap (is_in_struct Pretty) (sym cut.2))

      -- so the pretty text is found there
      pretty_there : value_from Plain (from_bracket Plain z k lines) ≡ Some (d, later)
      pretty_there =
          ap (λ s. value_from Plain (drop s z ++ k ∷ lines)) same_start ∙ ap (value_from Plain) pretty_from ∙ pretty_read _ _ _ d found entries later

      -- a value that is made pretty comes back
      changed_back : Back later rest → Back (y ++ (pretty ++ later)) (z ++ k ∷ r)
      changed_back back = subst (λ t. Back t (z ++ k ∷ r)) (sym made_is) value
        where
          value : Back (z ++ k ∷ lines) (z ++ k ∷ r)
          value zero long = let all = length-append z (k ∷ lines) in absurd (omega (arith, all, long))
          value (suc m) long =
              let all = length-append z (k ∷ lines) in
              let parts = length-append (first_line b) later in
              value_step (plain_with limit) m z k lines none opens d later pretty_there
              ∙ ap (λ s. take s z ++ (plain ++ convert (plain_with limit) m later)) same_start
              ∙ ap (λ t. y ++ (plain ++ t)) (back m (omega (arith, all, parts, long)))
              ∙ sym whole

  -- ---- whole texts

  module _ (n : ℕ) (more : (text : List ℕ) → Still limit text → Back (convert (pretty_with limit) n text) text) (z : List ℕ) (k : ℕ) (r : List ℕ) (none : Without is_opening z) (opens : is_opening k ≡ true)
      (still : Still limit (z ++ k ∷ r)) where
    -- whether a value stays or not, the text comes back
    value_back : (d : Document) (rest : List ℕ) (is : value_from Pretty (from_bracket Pretty z k r) ≡ Some (d, rest)) (s : Bool) → stays (pretty_with limit) (z ++ k ∷ r) 0 (length z) d (length (layout (setting Plain 0) d)) ≡ s
        → Back (take (start_after k z (is_in_struct Pretty r)) z ++ (value_text s Pretty (layout (setting Plain 0) d) d ++ convert (pretty_with limit) n rest)) (z ++ k ∷ r)
    value_back d rest is true kept = kept_back n z k r none opens still d rest is (more rest (still_after n z k r none opens still d rest is))
    value_back d rest is false changed = changed_back n z k r none opens still d rest is changed (more rest (still_after n z k r none opens still d rest is))

    -- so does a text with a bracket
    at_bracket : (o : Option (Document × List ℕ)) → value_from Pretty (from_bracket Pretty z k r) ≡ o → Back (convert (pretty_with limit) (suc n) (z ++ k ∷ r)) (z ++ k ∷ r)
    at_bracket None is =
        let rest = (still_at limit z k r none opens still).1 in
        subst (λ t. Back t (z ++ k ∷ r)) (sym (no_value (pretty_with limit) n z k r none opens is)) (bracket_back n z k [] r none opens still (more r rest))
    at_bracket (Some x) is =
        let s = stays (pretty_with limit) (z ++ k ∷ r) 0 (length z) x.0 (length (layout (setting Plain 0) x.0)) in
        subst (λ t. Back t (z ++ k ∷ r)) (sym (value_step (pretty_with limit) n z k r none opens x.0 x.1 is)) (value_back x.0 x.1 is s refl)

  -- a text that stays as it is made plain comes back from pretty
  comes_back : (n : ℕ) (text : List ℕ) → Still limit text → Back (convert (pretty_with limit) n text) text
  unfolding convert_from
  comes_back zero text still = λ m long. still_same limit m text still
  comes_back (suc n) text still = elim (first_bracket text) [
    | inl none ↦ subst (λ t. Back t text) (sym (no_bracket (pretty_with limit) (suc n) text none)) (λ m long. still_same limit m text still)
    | inr f ↦ subst (λ t. Back (convert (pretty_with limit) (suc n) t) t) (sym f.is) (at_bracket n (comes_back n) f.before f.bracket f.after f.none f.opens (subst (Still limit) f.is still) (value_from Pretty (from_bracket Pretty f.before f.bracket f.after)) refl)
  ]

-- the law
pub plain_texts_come_back : PlainTextsComeBack
plain_texts_come_back = λ limit text same.
    comes_back limit (length text) text (record { fuel = length text; long = omega arith; same = same }) (length (convert (pretty_with limit) (length text) text)) (omega arith)
