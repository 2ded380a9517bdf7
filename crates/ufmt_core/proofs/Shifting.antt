-- Shifting moves a pretty text one depth in, so a document's shifted text is its pretty text.
use Rattle.std.proofs.Common.{◌≡◌, ℕ, zero, suc, ◌+◌, ◌≤◌, ◌==◌, List, [], ◌∷◌, ◌++◌, map, Bool, true, false, codes, refl, sym, ap, ap₂, ◌∙◌, append_assoc, append-nil, ne_eqb, arith}
use Rattle.std.specs.Prelude.{⊤}
use Rattle.ufmt_core.specs.Bytes.{comma, line_feed}
use Rattle.ufmt_core.specs.Document.{Document, leaf, joined, list_of, set_of, map_of, struct_of, non_exhaustive_of, tuple_of, pretty_part, Documents, no_documents, first_document, Pairs, no_pairs, first_pair, Fields, no_fields, first_field, nest, nest_all, nest_pairs, nest_fields}
use Rattle.ufmt_core.specs.Layout.{Frame, frame, tuple_kind, setting, inside, entry_depth, indentation, later_lead, lead, ending, dots_ending, dotted_fields, next, framed_all, count_after, block_tail, block_text, layout, layouts, texts, pair_texts, field_texts, pretty_text}
use Rattle.ufmt_core.specs.declared.layout.Mode.TheVariants.{Pretty}
use Rattle.ufmt_core.specs.declared.layout.Setting.{Setting}
use Rattle.ufmt_core.specs.declared.layout.Kind.{Kind}
use Rattle.ufmt_core.specs.declared.layout.Kind.TheVariants.{Brackets, Braces, Struct, Tuple, Unnamed}
use Rattle.ufmt_core.specs.declared.layout.Count.{Count}
use Rattle.ufmt_core.specs.declared.layout.Count.TheVariants.{Zero, One, Several}
use Rattle.ufmt_core.proofs.Blocks.{block_tail-parts}
use Rattle.ufmt_core.specs.Shift.{margin, shift_from, shift, shift_times, entry_lines, shifted_tail, shifted_block, shifted_dotted, shifted, shifted_joined, shifted_texts, shifted_pairs, shifted_fields, IsOneLine, HasNoLineFeed, HaveNoLineFeed, PairsHaveNoLineFeed, FieldsHaveNoLineFeed}

-- ---- texts

-- k indentations, if a line begins here
abbrev margins : ℕ → Bool → List ℕ
margins k true = indentation k
margins k false = []

-- a text that hangs by k: k indentations come after each line feed, so only its first line is not indented
abbrev hanging : ℕ → List ℕ → List ℕ
hanging k [] = []
hanging k (c ∷ text) = c ∷ (margins k (c == 10) ++ hanging k text)

margins-one : (b : Bool) → margins 1 b ≡ margin b
margins-one true = refl
margins-one false = refl

margins-zero : (b : Bool) → margins 0 b ≡ []
margins-zero true = refl
margins-zero false = refl

indentation-suc : (k : ℕ) (text : List ℕ) → indentation k ++ (codes "    " ++ text) ≡ indentation (suc k) ++ text
indentation-suc zero text = refl
indentation-suc (suc k) text = ap (λ more. codes "    " ++ more) (indentation-suc k text)

hanging-zero : (text : List ℕ) → hanging 0 text ≡ text
hanging-zero [] = refl
hanging-zero (c ∷ text) = rw (margins-zero (c == 10), hanging-zero text)

hanging-append : (k : ℕ) (text more : List ℕ) → hanging k (text ++ more) ≡ hanging k text ++ hanging k more
hanging-append k [] more = refl
hanging-append k (c ∷ text) more = rw (hanging-append k text more, append_assoc)

hanging-one_line : (k : ℕ) (text : List ℕ) → IsOneLine text → hanging k text ≡ text
hanging-one_line k [] h = refl
hanging-one_line k (c ∷ text) h = rw (ne_eqb c 10 h.0, hanging-one_line k text h.1)

hanging-margins : (k : ℕ) (b : Bool) (text : List ℕ) → margins k b ++ hanging k (margins 1 b ++ text) ≡ margins (suc k) b ++ hanging k text
hanging-margins k true text = indentation-suc k (hanging k text)
hanging-margins k false text = refl

hanging-hanging : (k : ℕ) (text : List ℕ) → hanging k (hanging 1 text) ≡ hanging (suc k) text
hanging-hanging k [] = refl
hanging-hanging k (c ∷ text) = rw (hanging-margins k (c == 10) (hanging 1 text), hanging-hanging k text)

-- shifting indents the first line and lets the other lines hang
shift_from-append : (b : Bool) (text : List ℕ) (c : ℕ) (more : List ℕ)
    → shift_from b (text ++ (c ∷ more)) ≡ margin b ++ (hanging 1 text ++ (c ∷ shift_from (c == 10) more))
shift_from-append b [] c more = refl
shift_from-append b (a ∷ text) c more = rw (shift_from-append (a == 10) text c more, margins-one (a == 10), append_assoc (margin (a == 10)) (hanging 1 text) _)

pub shift-line : (line lines : List ℕ) → IsOneLine line → shift (line ++ (codes "\n" ++ lines)) ≡ codes "    " ++ (line ++ (codes "\n" ++ shift lines))
shift-line line lines h = rw (shift_from-append true line 10 lines, hanging-one_line 1 line h)

-- shifting a text with a line feed k times indents it by k and lets its other lines hang by k
shift_times-line : (k : ℕ) (text : List ℕ) → shift_times k (text ++ codes "\n") ≡ indentation k ++ (hanging k text ++ codes "\n")
shift_times-line zero text = rw (hanging-zero text)
shift_times-line (suc k) text = rw (
  shift_from-append true text 10 [],
  shift_times-line k (codes "    " ++ hanging 1 text),
  hanging-hanging k text,
) (indentation-suc k _)

-- ---- blocks in any frame

-- an entry's lines and further lines, shifted inside a block at depth k, are one deeper
shift-entry : (k : ℕ) (text lines end : List ℕ) →
    indentation k ++ (hanging k (shift (text ++ (codes ",\n" ++ lines))) ++ end) ≡ indentation (suc k)
    ++ (hanging (suc k) text ++ (codes ",\n" ++ (indentation k ++ (hanging k (shift lines) ++ end))))
shift-entry k text lines end = rw (
  shift_from-append true text comma (line_feed ∷ lines),
  hanging-append k (hanging 1 text) _,
  hanging-hanging k text,
  append_assoc (hanging (suc k) text) _ end,
  append_assoc (indentation k) (hanging k (shift lines)) end,
) (indentation-suc k _)

framed_assoc : (a b c d u : List ℕ) → ((a ++ (b ++ c)) ++ d) ++ u ≡ a ++ (b ++ (c ++ (d ++ u)))
framed_assoc a b c d u = simp append_assoc

-- a steady frame: each of its parts is on one line, and its closing is the same after one entry as after several
record IsSteady (f : Frame) : Type 0 where
  opening : (k : ℕ) → hanging k f.opening ≡ f.opening
  start : (k : ℕ) → hanging k f.start ≡ f.start
  zero : (k : ℕ) → hanging k (f.closing Zero) ≡ f.closing Zero
  several : (k : ℕ) → hanging k (f.closing Several) ≡ f.closing Several
  one : f.closing One ≡ f.closing Several

IsSteady-frame : (kind : Kind) → IsSteady (frame Pretty kind)
IsSteady-frame Brackets = record { opening = λ k. refl; start = λ k. refl; zero = λ k. refl; several = λ k. refl; one = refl }
IsSteady-frame Braces = record { opening = λ k. refl; start = λ k. refl; zero = λ k. refl; several = λ k. refl; one = refl }
IsSteady-frame Struct = record { opening = λ k. refl; start = λ k. refl; zero = λ k. refl; several = λ k. refl; one = refl }
IsSteady-frame Tuple = record { opening = λ k. refl; start = λ k. refl; zero = λ k. refl; several = λ k. refl; one = refl }
IsSteady-frame Unnamed = record { opening = λ k. refl; start = λ k. refl; zero = λ k. refl; several = λ k. refl; one = refl }

pub lead-next : (f : Frame) (i : Setting) (count : Count) → lead f i (next count) ≡ later_lead i.mode i.depth
lead-next f i Zero = refl
lead-next f i One = refl
lead-next f i Several = refl

-- a block with entries ends on a line of its own
ending-next : (f : Frame) (k : ℕ) (count : Count) → IsSteady f → ending f (setting Pretty k) (next count) ≡ indentation k ++ f.closing Several
ending-next f k Zero p = ap (λ u. indentation k ++ u) p.one
ending-next f k One p = refl
ending-next f k Several p = refl

-- after an entry, entries in a row and the end are their shifted lines, if the end is these last lines, shifted, and a closing
row-next : (f : Frame) (k : ℕ) (end : Count → List ℕ) (last closing : List ℕ)
    → ((count : Count) → end (next count) ≡ indentation k ++ (hanging k (shift last) ++ closing)) → entry_depth Pretty k ≡ suc k → (count : Count)
    (ss : List (List ℕ)) → framed_all f (inside (setting Pretty k)) (next count) (map (hanging (suc k)) ss)
    ++ end (count_after (next count) (map (hanging (suc k)) ss)) ≡ indentation k ++ (hanging k (shift (entry_lines ss last)) ++ closing)
row-next f k end last closing h e count [] = h count
row-next f k end last closing h e count (s ∷ ss) =
    let others = map (hanging (suc k)) ss in
    framed_assoc (lead f (inside (setting Pretty k)) (next count)) (hanging (suc k) s) (codes ",\n")
    (framed_all f (inside (setting Pretty k)) (next (next count)) others) (end (count_after (next (next count)) others))
    ∙ ap₂ (λ before after. before ++ (hanging (suc k) s ++ (codes ",\n" ++ after)))
    (lead-next f (inside (setting Pretty k)) count ∙ ap indentation e) (row-next f k end last closing h e (next count) ss)
    ∙ sym (shift-entry k s (entry_lines ss last) closing)

-- after an entry, the rest of a block is the shifted lines of the other entries, and the closing
block_tail-next : (f : Frame) (k : ℕ) (count : Count) → IsSteady f → entry_depth Pretty k ≡ suc k → (ss : List (List ℕ)) →
    block_tail f (setting Pretty k) (next count) (map (hanging (suc k)) ss) ≡ indentation k ++ (hanging k (shift (entry_lines ss [])) ++ f.closing Several)
block_tail-next f k count p e ss = block_tail-parts f (setting Pretty k) (next count) (map (hanging (suc k)) ss)
    ∙ row-next f k (ending f (setting Pretty k)) [] (f.closing Several) (λ n. ending-next f k n p) e count ss

-- the entries of a block at depth k, if it has any, are one deeper
abbrev OneDeeper : ℕ → List (List ℕ) → Type 0
OneDeeper k [] = ⊤
OneDeeper k (s ∷ ss) = entry_depth Pretty k ≡ suc k

-- what follows the opening of a block at depth k hangs by k
block_tail-first : (f : Frame) (k : ℕ) → IsSteady f → (ss : List (List ℕ)) → OneDeeper k ss
    → block_tail f (setting Pretty k) Zero (map (hanging (entry_depth Pretty k)) ss) ≡ hanging k (shifted_tail f ss)
block_tail-first f k p [] e = sym (p.zero k)
block_tail-first f k p (s ∷ ss) e =
    rw (
      ap (λ n. map (hanging n) ss) e,
      e,
      block_tail-next f k Zero p e ss,
      append_assoc,
      hanging-append k f.start _,
      p.start k,
      hanging-append k (shift (entry_lines (s ∷ ss) [])) (f.closing Several),
      p.several k,
    )
    (ap (λ u. f.start ++ (codes "\n" ++ u)) (sym (shift-entry k s (entry_lines ss []) (f.closing Several))))

-- a block in a steady frame hangs by its depth if its entries hang by theirs
framed : (f : Frame) (k : ℕ) (name : List ℕ) (ss : List (List ℕ)) → IsSteady f → IsOneLine name → OneDeeper k ss →
    name ++ (f.opening ++ block_tail f (setting Pretty k) Zero (map (hanging (entry_depth Pretty k)) ss)) ≡ hanging k (name ++ (f.opening ++ shifted_tail f ss))
framed f k name ss p h e =
    rw (hanging-append k name _, hanging-one_line k name h, hanging-append k f.opening _, p.opening k)
    (ap (λ u. name ++ (f.opening ++ u)) (block_tail-first f k p ss e))

-- ---- structs that end in dots

-- after a field, the end of such a struct at depth k is the line of the dots, shifted, and the brace
dots_ending-next : (k : ℕ) → entry_depth Pretty k ≡ suc k → (count : Count)
    → dots_ending (setting Pretty k) (next count) ≡ indentation k ++ (hanging k (shift (codes "..\n")) ++ codes "}")
dots_ending-next k e count = some count ∙ sym (indentation-suc k _)
  where
    line : (indentation (entry_depth Pretty k) ++ codes "..\n") ++ (indentation k ++ codes "}") ≡ indentation (suc k) ++ (codes "..\n" ++ ((indentation k ++ []) ++ codes "}"))
    line = rw (e, append-nil (indentation k)) (append_assoc (indentation (suc k)) (codes "..\n") (indentation k ++ codes "}"))

    some : (count : Count) → dots_ending (setting Pretty k) (next count) ≡ indentation (suc k) ++ (codes "..\n" ++ ((indentation k ++ []) ++ codes "}"))
    some Zero = line
    some One = line
    some Several = line

-- what follows the name of such a struct at depth k hangs by k
dotted-first : (k : ℕ) (ss : List (List ℕ)) → OneDeeper k ss
    → dotted_fields (setting Pretty k) (map (hanging (entry_depth Pretty k)) ss) ≡ hanging k (shifted_dotted ss)
dotted-first k [] e = refl
dotted-first k (s ∷ ss) e =
    let lines = entry_lines ss (codes "..\n") in
    let others = map (hanging (suc k)) ss in
    rw (ap (λ n. map (hanging n) ss) e, e, hanging-append k (shift (s ++ (codes ",\n" ++ lines))) (codes "}"))
    (framed_assoc (codes " {\n" ++ indentation (suc k)) (hanging (suc k) s) (codes ",\n")
    (framed_all (frame Pretty Struct) (inside (setting Pretty k)) One others) (dots_ending (setting Pretty k) (count_after One others))
    ∙ ap (λ after. codes " {\n" ++ (indentation (suc k) ++ (hanging (suc k) s ++ (codes ",\n" ++ after))))
    (row-next (frame Pretty Struct) k (dots_ending (setting Pretty k)) (codes "..\n") (codes "}") (dots_ending-next k e) e Zero ss)
    ∙ ap (λ u. codes " {\n" ++ u) (sym (shift-entry k s lines (codes "}"))))

-- ---- documents

-- entries with these texts, nested n deep, have room in a block at depth k
record HasRoom (k n : ℕ) (ss : List (List ℕ)) : Type 0 where
  within : n + entry_depth Pretty k ≤ 255
  deeper : OneDeeper k ss

HasRoom-empty : (k : ℕ) → 0 + k ≤ 255 → HasRoom k 0 []
HasRoom-empty k h = record { within = omega arith; deeper = tt }

HasRoom-entries : (k n : ℕ) (s : List ℕ) (ss : List (List ℕ)) → suc n + k ≤ 255 → HasRoom k n (s ∷ ss)
HasRoom-entries k n s ss h = record { within = omega arith; deeper = omega arith }

HasRoom-non_exhaustive_of : (k : ℕ) (name : List ℕ) (fs : Fields) → nest (non_exhaustive_of name fs) + k ≤ 255 → HasRoom k (nest_fields fs) (shifted_fields fs)
HasRoom-non_exhaustive_of k name no_fields h = HasRoom-empty k h
HasRoom-non_exhaustive_of k name (first_field field_name value fs) h = HasRoom-entries k _ _ _ h

-- a block of any kind has room for its entries if it reaches depth 255 at most
HasRoom-list_of : (k : ℕ) (ds : Documents) → nest (list_of ds) + k ≤ 255 → HasRoom k (nest_all ds) (shifted_texts ds)
HasRoom-list_of k no_documents h = HasRoom-empty k h
HasRoom-list_of k (first_document d ds) h = HasRoom-entries k _ _ _ h

HasRoom-set_of : (k : ℕ) (ds : Documents) → nest (set_of ds) + k ≤ 255 → HasRoom k (nest_all ds) (shifted_texts ds)
HasRoom-set_of k no_documents h = HasRoom-empty k h
HasRoom-set_of k (first_document d ds) h = HasRoom-entries k _ _ _ h

HasRoom-tuple_of : (k : ℕ) (name : List ℕ) (ds : Documents) → nest (tuple_of name ds) + k ≤ 255 → HasRoom k (nest_all ds) (shifted_texts ds)
HasRoom-tuple_of k name no_documents h = HasRoom-empty k h
HasRoom-tuple_of k name (first_document d ds) h = HasRoom-entries k _ _ _ h

HasRoom-map_of : (k : ℕ) (ps : Pairs) → nest (map_of ps) + k ≤ 255 → HasRoom k (nest_pairs ps) (shifted_pairs ps)
HasRoom-map_of k no_pairs h = HasRoom-empty k h
HasRoom-map_of k (first_pair key value ps) h = HasRoom-entries k _ _ _ h

HasRoom-struct_of : (k : ℕ) (name : List ℕ) (fs : Fields) → nest (struct_of name fs) + k ≤ 255 → HasRoom k (nest_fields fs) (shifted_fields fs)
HasRoom-struct_of k name no_fields h = HasRoom-empty k h
HasRoom-struct_of k name (first_field field_name value fs) h = HasRoom-entries k _ _ _ h

-- a block at depth k is its shifted block, hanging by k, if its entries' texts hang
block_text-shifted : (kind : Kind) (k n : ℕ) (name : List ℕ) (ss ts : List (List ℕ)) → IsOneLine name → HasRoom k n ss
    → ts ≡ map (hanging (entry_depth Pretty k)) ss → block_text kind (setting Pretty k) name ts ≡ hanging k (shifted_block kind name ss)
block_text-shifted kind k n name ss ts h room e = ap (block_text kind (setting Pretty k) name) e
    ∙ framed (frame Pretty kind) k name ss (IsSteady-frame kind) h room.deeper

-- the same holds of a struct that ends in dots
dotted_fields-shifted : (k n : ℕ) (name : List ℕ) (ss ts : List (List ℕ)) → IsOneLine name → HasRoom k n ss
    → ts ≡ map (hanging (entry_depth Pretty k)) ss → name ++ dotted_fields (setting Pretty k) ts ≡ hanging k (name ++ shifted_dotted ss)
dotted_fields-shifted k n name ss ts h room e =
    rw (hanging-append k name _, hanging-one_line k name h) (ap (λ u. name ++ u) (ap (dotted_fields (setting Pretty k)) e ∙ dotted-first k ss room.deeper))

mutual
  -- a document's pretty text at depth k is its shifted text, hanging by k
  layout-shifted : (k : ℕ) (d : Document) → HasNoLineFeed d → nest d + k ≤ 255 → layout (setting Pretty k) d ≡ hanging k (shifted d)
  layout-shifted k (leaf text) h n = sym (hanging-one_line k text h)
  layout-shifted k (joined ds) h n = layouts-shifted k ds h n
  layout-shifted k (list_of ds) h n = let room = HasRoom-list_of k ds n in block_text-shifted Brackets k _ [] _ _ tt room (texts-shifted _ ds h room.within)
  layout-shifted k (set_of ds) h n = let room = HasRoom-set_of k ds n in block_text-shifted Braces k _ [] _ _ tt room (texts-shifted _ ds h room.within)
  layout-shifted k (map_of ps) h n = let room = HasRoom-map_of k ps n in block_text-shifted Braces k _ [] _ _ tt room (pair_texts-shifted _ ps h room.within)
  layout-shifted k (struct_of name fs) h n = let room = HasRoom-struct_of k name fs n in block_text-shifted Struct k _ name _ _ h.0 room (field_texts-shifted _ fs h.1 room.within)
  layout-shifted k (non_exhaustive_of name fs) h n = let room = HasRoom-non_exhaustive_of k name fs n in dotted_fields-shifted k _ name _ _ h.0 room (field_texts-shifted _ fs h.1 room.within)
  layout-shifted k (tuple_of name ds) h n = let room = HasRoom-tuple_of k name ds n in block_text-shifted (tuple_kind name) k _ name _ _ h.0 room (texts-shifted _ ds h.1 room.within)
  layout-shifted k (pretty_part d) h n = layout-shifted k d h n

  layouts-shifted : (k : ℕ) (ds : Documents) → HaveNoLineFeed ds → nest_all ds + k ≤ 255 → layouts (setting Pretty k) ds ≡ hanging k (shifted_joined ds)
  layouts-shifted k no_documents h n = refl
  layouts-shifted k (first_document d ds) h n = rw (hanging-append k (shifted d) _)
      (ap₂ ◌++◌ (layout-shifted k d h.0 (omega arith)) (layouts-shifted k ds h.1 (omega arith)))

  texts-shifted : (k : ℕ) (ds : Documents) → HaveNoLineFeed ds → nest_all ds + k ≤ 255 → texts (setting Pretty k) ds ≡ map (hanging k) (shifted_texts ds)
  texts-shifted k no_documents h n = refl
  texts-shifted k (first_document d ds) h n = ap₂ ◌∷◌ (layout-shifted k d h.0 (omega arith)) (texts-shifted k ds h.1 (omega arith))

  pair_texts-shifted : (k : ℕ) (ps : Pairs) → PairsHaveNoLineFeed ps → nest_pairs ps + k ≤ 255
      → pair_texts (setting Pretty k) ps ≡ map (hanging k) (shifted_pairs ps)
  pair_texts-shifted k no_pairs h n = refl
  pair_texts-shifted k (first_pair key value ps) h n =
      rw (
        hanging-append k (shifted key) _,
        layout-shifted k key h.0 (omega arith),
        layout-shifted k value h.1 (omega arith),
        pair_texts-shifted k ps h.2 (omega arith),
      )

  field_texts-shifted : (k : ℕ) (fs : Fields) → FieldsHaveNoLineFeed fs → nest_fields fs + k ≤ 255
      → field_texts (setting Pretty k) fs ≡ map (hanging k) (shifted_fields fs)
  field_texts-shifted k no_fields h n = refl
  field_texts-shifted k (first_field name value fs) h n =
      rw (hanging-append k name _, hanging-one_line k name h.0, layout-shifted k value h.1 (omega arith), field_texts-shifted k fs h.2 (omega arith))

-- a document's shifted text, shifted k times as lines, is its pretty text at depth k
pub shift_times-shifted : (d : Document) (k : ℕ) → HasNoLineFeed d → nest d + k ≤ 255
    → shift_times k (shifted d ++ codes "\n") ≡ indentation k ++ (layout (setting Pretty k) d ++ codes "\n")
shift_times-shifted d k h n = shift_times-line k (shifted d) ∙ ap (λ u. indentation k ++ (u ++ codes "\n")) (sym (layout-shifted k d h n))

pub shifted-pretty_text : (d : Document) → HasNoLineFeed d → nest d ≤ 255 → shifted d ≡ pretty_text d
shifted-pretty_text d h n = sym (hanging-zero (shifted d)) ∙ sym (layout-shifted 0 d h (omega arith))
