-- A field that a struct prints is found in its text.
use Rattle.std.proofs.Common.{◌≡◌, ◌≢◌, bytes_eq, ◌∙◌, refl, ap, sym, ℕ, suc, ◌+◌, ◌-◌, ◌≤◌, ◌==◌, ◌||◌, Bool, true, false, cond, List, [], ◌∷◌, ◌++◌, append_assoc, codes, Some, None, option_and_then, option_map, drop, length, length-append, arith}
use Rattle.std.proofs.Math.Seq.{drop-append_seam}
use Rattle.std.proofs.lemmas.Bool.{false_from_ne_true}
use Rattle.std.proofs.lemmas.List.Elements.{All-head, All-tail}
use Rattle.std.proofs.lemmas.Slice.Eq.{bytes_eq-Decides}
use Rattle.std.specs.List.{All}
use Rattle.ufmt.specs.Bytes.{quotation_mark}
use Rattle.ufmt.specs.Document.{Document, leaf, joined, list_of, set_of, map_of, struct_of, non_exhaustive_of, tuple_of, pretty_part, no_documents, first_document, Fields, no_fields, first_field, fields_of, nest}
use Rattle.ufmt.specs.Layout.{plain_text, setting}
use Rattle.ufmt.specs.Leaves.{is_opening}
use Rattle.ufmt.specs.Reading.{choose}
use Rattle.ufmt.specs.Token.{IsBuilt, IsName, normal, normal_fields}
use Rattle.ufmt_core.specs.declared.layout.Mode.TheVariants.{Plain}
use Rattle.ufmt_grammar.proofs.ClassLeaves.{name_some}
use Rattle.ufmt_grammar.proofs.ReadingComplete.{IsBlock, NoAddressIn, block_read}
use Rattle.ufmt_grammar.specs.declared.class.Class.{Class}
use Rattle.ufmt_values.specs.FieldLaws.{PrintedFieldsAreFound, PrintedFieldsArePlaced}
use Rattle.ufmt_values.specs.Fields.{Found, field_from, first_leaf, leaf_of, leaf_start, leaf_text, placed_field}
use Rattle.ufmt_values.specs.Fronts.{MayNameFollow, OpensNothing}
use Rattle.ufmt_values.specs.Private.FieldsLeft.{after_field}
use Rattle.ufmt_values.specs.Values.{before_bracket, if_entries, value_in}
use Rattle.ufmt_values.proofs.Blocks.{block_entries}
use Rattle.ufmt_values.proofs.FieldSearch.{value_decides}
use Rattle.ufmt_values.proofs.FirstBrackets.{Without, before_first, without_append}
use Rattle.ufmt_values.proofs.LastWords.{LastWord, last_word_of, struct_after}
use Rattle.ufmt_values.proofs.LongerNames.{debug_name, longer_name}
use Rattle.ufmt_values.proofs.NameBrackets.{named_without_openings}
use Rattle.ufmt_values.proofs.StructTexts.{dotted_text, none_or_some, struct_text}

abbrev OpensNone : ℕ → Type 0
OpensNone c = (is_opening c || c == quotation_mark) ≡ false

-- a front that opens nothing has no opening bracket
pub without_openings : (front : List ℕ) → OpensNothing front → Without is_opening front
without_openings [] h = tt
without_openings (c ∷ front) h = (by (is_opening c) (All-head OpensNone c front h), without_openings front (All-tail OpensNone c front h))
  where
    by : (b : Bool) → b || (c == quotation_mark) ≡ false → b ≡ false
    by true none = absurd (cc)
    by false none = refl

-- a block with entries is the value at the front of its text
pub block_value : (class : Class) (d : Document) (rest : List ℕ) → IsBuilt class d → IsBlock d → IsBlock (normal d) → nest d ≤ 255 → NoAddressIn class (setting Plain 0) d rest
    → value_in class Plain (plain_text d ++ rest) ≡ Some (normal d, rest)
block_value class d rest built block still deep none =
    ap (option_and_then if_entries) (block_read class 255 (setting Plain 0) d rest built block deep tt none)
    ∙ ap (λ b. cond b (Some (normal d, rest)) None) (block_entries (normal d) still)

module _ (class : Class) (front : List ℕ) (opens : OpensNothing front) (follows : MayNameFollow class front) (c : ℕ) (w : List ℕ) (is_name : IsName class (c ∷ w)) where
  abbrev last : LastWord front
  last = last_word_of front

  -- the name of the struct that is read: the last word of the front is a part of it
  abbrev its_name : List ℕ
  its_name = last.word ++ c ∷ w

  abbrev line : List ℕ → List ℕ
  line u = front ++ ((c ∷ w) ++ (codes " { " ++ u))

  abbrev bracket : ℕ
  bracket = length front + length (c ∷ w) + 1

  -- the struct's bracket is the first of the line
  bracket_first : (u : List ℕ) → bracket ≡ 0 + before_bracket (line u)
  bracket_first u =
      let name = (c ∷ w) ++ 32 ∷ [] in
      let whole : line u ≡ (front ++ name) ++ (123 ∷ 32 ∷ u) =
      ap (λ t. front ++ t) (sym (append_assoc (c ∷ w) (32 ∷ []) (123 ∷ 32 ∷ u))) ∙ sym (append_assoc front name (123 ∷ 32 ∷ u)) in
      let none = without_append is_opening front name (without_openings front opens) (named_without_openings (c ∷ w) (debug_name class (c ∷ w) is_name)) in
      let place : before_bracket (line u) ≡ length (front ++ name) = ap before_bracket whole ∙ before_first (front ++ name) 123 (32 ∷ u) none refl in
      omega (arith, place, length-append front name, length-append (c ∷ w) (32 ∷ []))

  -- the struct begins where the last word of the front does
  from_start : (u : List ℕ) → drop (length last.before) (line u) ≡ its_name ++ (codes " { " ++ u)
  from_start u =
      let more = (c ∷ w) ++ (codes " { " ++ u) in
      ap (drop (length last.before)) (ap (λ t. t ++ more) last.is ∙ append_assoc last.before last.word more)
      ∙ drop-append_seam last.before (last.word ++ more) ∙ sym (append_assoc last.word (c ∷ w) (codes " { " ++ u))

  -- so a field of the struct is the field of the line
  found : (d : Document) (rest u : List ℕ) → plain_text d ++ rest ≡ its_name ++ (codes " { " ++ u) → value_in class Plain (plain_text d ++ rest) ≡ Some (normal d, rest)
      → (name text : List ℕ) → leaf_of name (normal d) ≡ Some text → placed_field class (line u) name ≡ Some (length last.before + leaf_start name (normal d), text)
  found d rest u is value name text there =
      let start = length last.before in
      let size = length (plain_text d) in
      let whole : drop start (line u) ≡ plain_text d ++ rest = from_start u ∙ sym is in
      let left : drop size (drop start (line u)) ≡ rest = ap (drop size) whole ∙ drop-append_seam (plain_text d) rest in
      let front_long = ap length last.is ∙ length-append last.before last.word in
      let long = length-append front ((c ∷ w) ++ (codes " { " ++ u)) in
      let name_long = length-append (c ∷ w) (codes " { " ++ u) in
      let more : length (line u) ≡ suc (length (line u) - 1) = omega (arith, long, name_long) in
      let text_long = ap length whole ∙ length-append (plain_text d) rest in
      ap (λ n. field_from class name n (line u) 0) more
      ∙ value_decides class name (line u) 0 (length (line u) - 1) bracket start size (normal d) (bracket_first u) (omega (arith, long, name_long))
      (sym (struct_after front last c w (debug_name class (c ∷ w) is_name) u)) (omega (arith, long, front_long)) (omega (arith, text_long))
      (ap (value_in class Plain) whole ∙ value ∙ ap (λ t. Some (normal d, t)) (sym left))
      ∙ ap (λ o. choose o (λ t. Some (start + leaf_start name (normal d), t)) (field_from class name (length (line u) - 1) (line u) (start + size))) there

  -- the field begins as many bytes after the struct's own name as `leaf_start` says
  placed : (n : ℕ) → length last.before + (length its_name + 3 + n) ≡ length front + (length (c ∷ w) + 3 + n)
  placed n = omega (arith, ap length last.is, length-append last.before last.word, length-append last.word (c ∷ w))

pub fields_placed : PrintedFieldsArePlaced
fields_placed class (leaf t) front rest name text is there opens follows = absurd (none_or_some refl there)
fields_placed class (joined ds) front rest name text is there opens follows = absurd (none_or_some refl there)
fields_placed class (list_of ds) front rest name text is there opens follows = absurd (none_or_some refl there)
fields_placed class (set_of no_documents) front rest name text is there opens follows = absurd (none_or_some refl there)
fields_placed class (set_of (first_document d ds)) front rest name text is there opens follows = absurd (none_or_some refl there)
fields_placed class (map_of ps) front rest name text is there opens follows = absurd (none_or_some refl there)
fields_placed class (tuple_of word no_documents) front rest name text is there opens follows = absurd (none_or_some refl there)
fields_placed class (tuple_of word (first_document d ds)) front rest name text is there opens follows = absurd (none_or_some refl there)
fields_placed class (pretty_part d) front rest name text is there opens follows = absurd (none_or_some refl there)
fields_placed class (struct_of word no_fields) front rest name text is there opens follows = absurd (none_or_some refl there)
fields_placed class (struct_of [] (first_field field value fs)) front rest name text is there opens follows = absurd (name_some class is.0.0)
fields_placed class (struct_of (c ∷ w) (first_field field value fs)) front rest name text is there opens follows =
    let longer = last_word_of front in
    let d = struct_of (longer.word ++ c ∷ w) (first_field field value fs) in
    let u = field ++ (codes ": " ++ (plain_text value ++ after_field fs false rest)) in
    ap (λ t. placed_field class (front ++ t) name) (struct_text (c ∷ w) field value fs rest)
    ∙ found class front opens follows c w is.0.0 d rest u (struct_text (longer.word ++ c ∷ w) field value fs rest)
    (block_value class d rest (longer_name class front longer follows c w is.0.0, is.0.1) tt tt is.1 tt) name text there
    ∙ ap (λ n. Some (n, text)) (placed class front opens follows c w is.0.0 _)
fields_placed class (non_exhaustive_of word no_fields) front rest name text is there opens follows = absurd (none_or_some refl there)
fields_placed class (non_exhaustive_of [] (first_field field value fs)) front rest name text is there opens follows = absurd (name_some class is.0.1)
fields_placed class (non_exhaustive_of (c ∷ w) (first_field field value fs)) front rest name text is there opens follows =
    let longer = last_word_of front in
    let d = non_exhaustive_of (longer.word ++ c ∷ w) (first_field field value fs) in
    let u = field ++ (codes ": " ++ (plain_text value ++ after_field fs true rest)) in
    ap (λ t. placed_field class (front ++ t) name) (dotted_text (c ∷ w) field value fs rest)
    ∙ found class front opens follows c w is.0.1 d rest u (dotted_text (longer.word ++ c ∷ w) field value fs rest)
    (block_value class d rest (is.0.0, longer_name class front longer follows c w is.0.1, is.0.2) tt tt is.1 tt) name text there
    ∙ ap (λ n. Some (n, text)) (placed class front opens follows c w is.0.1 _)

-- ---- the fields of the struct

abbrev IsOther : List ℕ → List ℕ × Document → Type 0
IsOther name field = field.0 ≢ name

-- the field of a struct is the first of its fields with the name
struct_leaf : (its_name name : List ℕ) (fs : Fields) → leaf_of name (normal (struct_of its_name fs)) ≡ first_leaf name (normal_fields fs)
struct_leaf word name no_fields = refl
struct_leaf word name (first_field field value fs) = refl

-- the first field with the name is this leaf, if the fields before it have other names
first_found : (name text : List ℕ) (before after : List (List ℕ × Document)) → All (λ field. field.0 ≢ name) before → first_leaf name (normal_fields (fields_of (before ++ (name, leaf text) ∷ after))) ≡ Some text
first_found name text [] after others = ap (λ b. cond b (Some text) (first_leaf name (normal_fields (fields_of after)))) ((bytes_eq-Decides name name).1 refl)
first_found name text (field ∷ before) after others =
    ap (λ b. cond b (leaf_text (normal field.1)) (first_leaf name (normal_fields (fields_of (before ++ (name, leaf text) ∷ after))))) other
    ∙ first_found name text before after (All-tail (IsOther name) field before others)
  where
    other : bytes_eq field.0 name ≡ false
    other = false_from_ne_true (bytes_eq field.0 name) (λ is. All-head (IsOther name) field before others ((bytes_eq-Decides field.0 name).0 is))

pub fields_found : PrintedFieldsAreFound
fields_found class true word name text front rest before after is others opens follows =
    let fields = fields_of (before ++ (name, leaf text) ∷ after) in
    ap (option_map {T = Found} (λ x. x.1)) (fields_placed class (non_exhaustive_of word fields) front rest name text is (first_found name text before after others) opens follows)
fields_found class false word name text front rest before after is others opens follows =
    let fields = fields_of (before ++ (name, leaf text) ∷ after) in
    let leaf_there = struct_leaf word name fields ∙ first_found name text before after others in
    ap (option_map {T = Found} (λ x. x.1)) (fields_placed class (struct_of word fields) front rest name text is leaf_there opens follows)
