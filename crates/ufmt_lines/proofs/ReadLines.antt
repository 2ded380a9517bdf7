-- What is read at the front of a line is read there before a line feed too.
use Rattle.std.proofs.Common.{◌≡◌, inl, inr, ◌∙◌, refl, ap, sym, ℕ, zero, suc, ◌&&◌, Bool, true, false, cond, List, [], ◌∷◌, ◌++◌, append_assoc, Option, Some, None, arith}
use Rattle.std.proofs.lemmas.Bool.{cases_Bool, false_from_ne_true, false≢true}
use Rattle.ufmt.specs.Bytes.{closing_brace, colon, line_feed, opening_bracket, space}
use Rattle.ufmt.specs.Document.{Document, leaf, joined, list_of, set_of, map_of, struct_of, non_exhaustive_of, tuple_of, pretty_part, no_documents, first_document}
use Rattle.ufmt.specs.Layout.{frame, setting, inside, block_tail, layout, texts}
use Rattle.ufmt.specs.Leaves.{begins_with, is_address_closed, is_name_byte, is_port, past, in_address}
use Rattle.ufmt_core.specs.declared.layout.Count.TheVariants.{Zero}
use Rattle.ufmt_core.specs.declared.layout.Kind.TheVariants.{Brackets}
use Rattle.ufmt_core.specs.declared.layout.Mode.TheVariants.{Plain, Pretty}
use Rattle.ufmt_core.specs.declared.layout.Setting.{Setting}
use Rattle.ufmt_grammar.proofs.Parsing.{same_parts}
use Rattle.ufmt_grammar.proofs.ReadingComplete.{NoAddressIn, block_read}
use Rattle.ufmt_grammar.proofs.ReadingSound.{Found, read_sound}
use Rattle.ufmt_grammar.specs.Reading.{Parse, after_leaf, is_whole, leaf_from, read, read_with}
use Rattle.ufmt_grammar.specs.declared.class.Class.TheVariants.{Debug}
use Rattle.ufmt_values.proofs.Blocks.{entries_block}
use Rattle.ufmt_lines.proofs.FieldsAhead.{field_found, field_there, same_answer}
use Rattle.ufmt_values.proofs.FirstBrackets.{front_before, without_append}
use Rattle.ufmt_values.proofs.FoundValues.{front_value, none_unless, value_entries, value_read}
use Rattle.ufmt_lines.proofs.PlainLines.{name_line, plain_line}
use Rattle.ufmt_lines.specs.Private.LineLen.{is_line_feed}
use Rattle.ufmt_values.proofs.StructTexts.{none_or_some}
use Rattle.ufmt_values.specs.Values.{value_from}
use Rattle.ufmt_scan.specs.Fronts.{begins_with_field, has_entries, read_front}

-- ---- addresses

-- after a line feed nothing closes an address
port_in_line : (c : ℕ) (w rest : List ℕ) → is_port (c ∷ (w ++ line_feed ∷ rest)) ≡ is_port (c ∷ w)
port_in_line c [] [] = refl
port_in_line c [] (b ∷ rest) = grind arith
port_in_line c (b ∷ []) rest = grind arith
port_in_line c (b ∷ d ∷ w) rest = refl

-- so what is past the bytes of a name is a port in the line, or isn't
past_in_line : (w rest : List ℕ) → is_port (past is_name_byte (w ++ line_feed ∷ rest)) ≡ is_port (past is_name_byte w)
past_in_line [] [] = refl
past_in_line [] (b ∷ []) = refl
past_in_line [] (b ∷ d ∷ rest) = refl
past_in_line (c ∷ w) rest = elim (cases_Bool (is_name_byte c)) [
  | inl is ↦ rw is (past_in_line w rest)
  | inr is ↦ rw is (port_in_line c w rest)
]

-- and an address is closed in the line, or isn't
address_in_line : (w rest : List ℕ) → is_address_closed (w ++ line_feed ∷ rest) ≡ is_address_closed w
address_in_line [] rest = refl
address_in_line (c ∷ w) rest = ap (λ b. is_name_byte c && b) (past_in_line w rest)

-- a bracket that opens an address begins a leaf
address_with : (s : Setting) (p : Parse Document) (t : List ℕ) → is_address_closed t ≡ true
    → read_with Debug s p (opening_bracket ∷ t) ≡ cond (is_whole Debug (opening_bracket ∷ leaf_from in_address t)) (Some (leaf (opening_bracket ∷ leaf_from in_address t), after_leaf in_address t)) None
address_with s p t closed = rw closed refl

leaf_only : (b : Bool) (text rest : List ℕ) (d : Document) (u : List ℕ) → cond {A = Option (Document × List ℕ)} b (Some (leaf text, rest)) None ≡ Some (d, u) → has_entries d ≡ false
leaf_only true text rest d u h = sym (ap has_entries (same_parts {A = Document} {B = List ℕ} (leaf text, rest) (d, u) h).0)
leaf_only false text rest d u h = absurd (cc)

-- so no block is read there
address_read : (n : ℕ) (s : Setting) (t : List ℕ) → is_address_closed t ≡ true → (d : Document) (u : List ℕ) → read Debug s n (opening_bracket ∷ t) ≡ Some (d, u) → has_entries d ≡ false
unfolding read
address_read zero s t closed d u h = leaf_only _ _ _ d u (sym (address_with s (λ v. None) t closed) ∙ h)
address_read (suc n) s t closed d u h = leaf_only _ _ _ d u (sym (address_with s (read Debug (inside s) n) t closed) ∙ h)

module _ (u v : List ℕ) (same : (t : List ℕ) → is_address_closed (t ++ u) ≡ is_address_closed (t ++ v)) where
  -- a list that was read before `u` is no address before `v` either
  no_address_again : (d : Document) → has_entries d ≡ true → read_front Debug Plain (layout (setting Plain 0) d ++ u) ≡ Some (d, u) → NoAddressIn Debug (setting Plain 0) d v
  no_address_again (leaf text) entries is = tt
  no_address_again (joined ds) entries is = tt
  no_address_again (list_of no_documents) entries is = tt
  no_address_again (list_of (first_document d ds)) entries is =
      let tail = block_tail (frame Plain Brackets) (setting Plain 0) Zero (texts (setting Plain 0) (first_document d ds)) in
      sym (same tail) ∙ false_from_ne_true (is_address_closed (tail ++ u)) (λ e. false≢true (sym (address_read 255 (setting Plain 0) (tail ++ u) e _ _ is) ∙ entries))
  no_address_again (set_of ds) entries is = tt
  no_address_again (map_of ps) entries is = tt
  no_address_again (struct_of name fs) entries is = tt
  no_address_again (non_exhaustive_of name fs) entries is = tt
  no_address_again (tuple_of name ds) entries is = tt
  no_address_again (pretty_part d) entries is = tt

  -- a plain value that is at the front before `u` is there before `v`
  plain_again : (text : List ℕ) (d : Document) → text ≡ layout (setting Plain 0) d ++ u → value_from Pretty text ≡ Some (d, u) → value_from Pretty (layout (setting Plain 0) d ++ v) ≡ Some (d, v)
  plain_again text d whole is =
      let entries = value_entries Pretty text d u is in
      let was : read_front Debug Plain (layout (setting Plain 0) d ++ u) ≡ Some (d, u) = ap (read_front Debug Plain) (sym whole) ∙ value_read Pretty text d u is in
      let found = read_sound Debug 255 (setting Plain 0) (layout (setting Plain 0) d ++ u) d u was in
      front_value Pretty (layout (setting Plain 0) d ++ v) d v
      (block_read Debug 255 (setting Plain 0) d v found.tokens (entries_block d entries) found.nests tt (no_address_again d entries was) ∙ ap (λ e. Some (e, v)) found.is_normal) entries

found_plain : (text : List ℕ) (d : Document) (u : List ℕ) → value_from Pretty text ≡ Some (d, u) → Found Debug (setting Plain 0) 255 text d u
found_plain text d u is = read_sound Debug 255 (setting Plain 0) text d u (value_read Pretty text d u is)

module _ (line rest : List ℕ) where
  -- a value at the front of a line is there before a line feed
  pub value_in_line : (d : Document) (u : List ℕ) → value_from Pretty line ≡ Some (d, u) → value_from Pretty (line ++ line_feed ∷ rest) ≡ Some (d, u ++ line_feed ∷ rest)
  value_in_line d u is =
      let whole = (found_plain line d u is).whole in
      ap (λ t. value_from Pretty (t ++ line_feed ∷ rest)) whole ∙ ap (value_from Pretty) (append_assoc (layout (setting Plain 0) d) u (line_feed ∷ rest))
      ∙ plain_again u (u ++ line_feed ∷ rest) (λ t. sym (ap is_address_closed (sym (append_assoc t u (line_feed ∷ rest))) ∙ address_in_line (t ++ u) rest)) line d whole is

  -- and the other way around
  pub line_of_value : (d : Document) (u : List ℕ) → value_from Pretty (line ++ line_feed ∷ rest) ≡ Some (d, u) → (v : List ℕ) × (value_from Pretty line ≡ Some (d, v))
  line_of_value d u is =
      let found = found_plain (line ++ line_feed ∷ rest) d u is in
      let cut = front_before is_line_feed (layout (setting Plain 0) d) u line line_feed rest (plain_line 0 d found.tokens) refl (sym found.whole) in (
        cut.0,
        ap (value_from Pretty) cut.1
            ∙ plain_again u cut.0 (λ t. ap (λ x. is_address_closed (t ++ x)) cut.2 ∙ ap is_address_closed (sym (append_assoc t cut.0 (line_feed ∷ rest))) ∙ address_in_line (t ++ cut.0) rest) (line ++ line_feed ∷ rest) d found.whole is,
      )

  pub no_value_in_line : value_from Pretty line ≡ None → value_from Pretty (line ++ line_feed ∷ rest) ≡ None
  no_value_in_line none = none_unless (value_from Pretty (line ++ line_feed ∷ rest)) (λ x is. none_or_some (sym none) (line_of_value x.0 x.1 is).1)

  -- ---- fields

  first_end : (y : List ℕ) → begins_with closing_brace (y ++ line_feed ∷ rest) ≡ begins_with closing_brace y
  first_end [] = refl
  first_end (b ∷ y) = refl

  -- a field at the front of a line is one before a line feed too, and the other way around
  pub field_in_line : begins_with_field Debug (line ++ line_feed ∷ rest) ≡ begins_with_field Debug line
  field_in_line = same_answer _ _ shorter longer
    where
      shorter : begins_with_field Debug (line ++ line_feed ∷ rest) ≡ true → begins_with_field Debug line ≡ true
      shorter h =
          let f = field_found (line ++ line_feed ∷ rest) h in
          let p = f.name ++ colon ∷ space ∷ [] in
          let none = without_append is_line_feed f.name (colon ∷ space ∷ []) (name_line f.name f.named) (refl, (refl, tt)) in
          let cut = front_before is_line_feed p f.rest line line_feed rest none refl (append_assoc f.name (colon ∷ space ∷ []) f.rest ∙ sym f.is) in
          field_there line (record {
            name = f.name;
            rest = cut.0;
            named = f.named;
            is = cut.1 ∙ append_assoc f.name (colon ∷ space ∷ []) cut.0;
            unclosed = sym (first_end cut.0) ∙ ap (begins_with closing_brace) (sym cut.2) ∙ f.unclosed;
          })

      longer : begins_with_field Debug line ≡ true → begins_with_field Debug (line ++ line_feed ∷ rest) ≡ true
      longer h =
          let f = field_found line h in
          field_there (line ++ line_feed ∷ rest) (record {
            name = f.name;
            rest = f.rest ++ line_feed ∷ rest;
            named = f.named;
            is = ap (λ t. t ++ line_feed ∷ rest) f.is ∙ append_assoc f.name (colon ∷ space ∷ f.rest) (line_feed ∷ rest);
            unclosed = first_end f.rest ∙ f.unclosed;
          })
