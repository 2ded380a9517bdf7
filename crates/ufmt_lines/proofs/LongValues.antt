-- The plain text of a value that has no reason to stay becomes its pretty text.
use Rattle.std.proofs.Common.{◌≡◌, ◌∙◌, refl, ap, sym, ℕ, suc, ◌+◌, ◌-◌, ◌<◌, ◌≤◌, true, false, List, [], ◌∷◌, ◌++◌, append_assoc, append-nil, codes, Some, drop, take, length, length-append, arith}
use Rattle.std.proofs.Math.Seq.{drop-append_seam, take-append_seam}
use Rattle.std.proofs.lemmas.Bool.Decides.{nat_tests}
use Rattle.std.proofs.lemmas.Bool.{and_right}
use Rattle.std.proofs.lemmas.List.{drop-append-le, take-append-le}
use Rattle.std.specs.Prelude.{nat_le}
use Rattle.ufmt.specs.Document.{Document, leaf, joined, list_of, set_of, map_of, struct_of, non_exhaustive_of, tuple_of, pretty_part, no_documents, first_document, no_pairs, first_pair, no_fields, first_field}
use Rattle.ufmt.specs.Layout.{block_tail, block_text, frame, inside, layout, pair_texts, plain_text, pretty_text, setting, texts, tuple_kind}
use Rattle.ufmt.specs.Leaves.{is_opening}
use Rattle.ufmt.specs.Token.{IsName, OrEmpty, normal}
use Rattle.ufmt_core.specs.declared.layout.Count.TheVariants.{Zero, One}
use Rattle.ufmt_core.specs.declared.layout.Kind.TheVariants.{Brackets, Braces, Tuple, Unnamed}
use Rattle.ufmt_core.specs.declared.layout.Mode.TheVariants.{Plain, Pretty}
use Rattle.ufmt_core.specs.declared.layout.Setting.{Setting}
use Rattle.ufmt_grammar.proofs.ClassLeaves.{name_some}
use Rattle.ufmt_grammar.proofs.NormalForms.{layout-normal}
use Rattle.ufmt_grammar.specs.declared.class.Class.TheVariants.{Debug}
use Rattle.ufmt_lines.proofs.BlockTexts.{solid_no_space}
use Rattle.ufmt_lines.proofs.ConvertedSteps.{convert, enough, given_text, value_step}
use Rattle.ufmt_lines.proofs.Heads.{document_solid, solid_append}
use Rattle.ufmt_lines.proofs.LeafCounts.{normal_events}
use Rattle.ufmt_lines.proofs.LongLists.{long_list}
use Rattle.ufmt_lines.proofs.ValueStarts.{could_be_is, from_bracket, start_after, start_is, start_within}
use Rattle.ufmt_lines.specs.LongValues.{HasNoReasonToStay, LongValuesBecomePretty}
use Rattle.ufmt_lines.specs.OutputLaws.{pretty_with}
use Rattle.ufmt_lines.specs.Values.{could_be_struct, output_of, stays, value_text}
use Rattle.ufmt_scan.specs.Fronts.{has_one_leaf, is_one, leaves_after}
use Rattle.ufmt_scan.specs.Scan.{block_events, events_of_entries}
use Rattle.ufmt_scan.specs.declared.scan.event.Event.TheVariants.{Leaf}
use Rattle.ufmt_values.proofs.FirstBrackets.{Without, without_append}
use Rattle.ufmt_values.proofs.FoundFields.{block_value, without_openings}
use Rattle.ufmt_values.proofs.LastWords.{LastWord, braces_after, last_word_is, last_word_of, list_after, struct_after, tuple_after, tuple_unnamed}
use Rattle.ufmt_values.proofs.LongerNames.{longer_name}
use Rattle.ufmt_values.proofs.NameBrackets.{name_without_openings, named_without_openings}
use Rattle.ufmt_values.proofs.StructTexts.{dotted_text, struct_text}
use Rattle.ufmt_values.specs.Fronts.{OpensNothing}
use Rattle.ufmt_values.specs.Private.FieldsLeft.{after_field}
use Rattle.ufmt_values.specs.Values.{is_after_name, is_in_struct, value_from, value_start}

-- a value that is read at a line's first bracket: the document `d`, or `e`, whose name begins with the last word before it
record IsRead (limit : ℕ) (front rest : List ℕ) (d e : Document) : Type 0 where
  before : List ℕ
  word : List ℕ
  cut : front ≡ before ++ word
  -- the line's first bracket, and where the value begins by it
  head : List ℕ
  bracket : ℕ
  tail : List ℕ
  whole : front ++ (plain_text d ++ rest) ≡ head ++ bracket ∷ tail
  none : Without is_opening head
  opens : is_opening bracket ≡ true
  starts : value_start Pretty (head ++ bracket ∷ tail) 0 (length head) ≡ length before
  -- both texts have that word before them
  plain : plain_text e ≡ word ++ plain_text d
  pretty : pretty_text e ≡ word ++ pretty_text d
  value : value_from Pretty (plain_text e ++ rest) ≡ Some (normal e, rest)
  several : has_one_leaf e ≡ false
  no_struct : could_be_struct (head ++ bracket ∷ tail) 0 (length head) ≡ false

-- its pretty text is written
made_pretty : (limit : ℕ) (front rest : List ℕ) (d e : Document) → limit < length (plain_text d) → IsRead limit front rest d e
    → output_of (pretty_with limit) (front ++ (plain_text d ++ rest)) ≡ front ++ (pretty_text d ++ output_of (pretty_with limit) rest)
made_pretty limit front rest d e long h =
    let c = pretty_with limit in
    let text = h.head ++ h.bracket ∷ h.tail in
    let most = length text - 1 in
    let size = length-append h.head (h.bracket ∷ h.tail) in
    let all : length (front ++ (plain_text d ++ rest)) ≡ suc most = ap length h.whole ∙ omega (arith, size) in
    let start = start_after h.bracket h.head (is_in_struct Pretty h.tail) in
    let place : start ≡ length h.before = sym (start_is Pretty h.head h.bracket h.tail) ∙ h.starts in
    let within = start_within h.bracket h.head (is_in_struct Pretty h.tail) in
    let cut : text ≡ h.before ++ (h.word ++ (plain_text d ++ rest)) = sym h.whole ∙ ap (λ t. t ++ (plain_text d ++ rest)) h.cut ∙ append_assoc h.before h.word (plain_text d ++ rest) in
    let from : from_bracket Pretty h.head h.bracket h.tail ≡ plain_text e ++ rest =
    sym (drop-append-le start h.head (h.bracket ∷ h.tail) within) ∙ ap (λ n. drop n text) place ∙ ap (drop (length h.before)) cut
    ∙ drop-append_seam h.before (h.word ++ (plain_text d ++ rest)) ∙ sym (append_assoc h.word (plain_text d) rest) ∙ ap (λ t. t ++ rest) (sym h.plain) in
    let kept : take start h.head ≡ h.before =
    sym (take-append-le start h.head (h.bracket ∷ h.tail) within) ∙ ap (λ n. take n text) place ∙ ap (take (length h.before)) cut ∙ take-append_seam h.before (h.word ++ (plain_text d ++ rest)) in
    let given : given_text c (normal e) ≡ plain_text e = layout-normal (setting Plain 0) e in
    let made : layout (setting Pretty 0) (normal e) ≡ h.word ++ pretty_text d = layout-normal (setting Pretty 0) e ∙ h.pretty in
    let longer : limit < length (given_text c (normal e)) = let g = ap length given in let p = ap length h.plain ∙ length-append h.word (plain_text d) in omega (arith, g, p, long) in
    let short : nat_le (length (given_text c (normal e))) limit ≡ false = grind (arith, nat_tests) in
    let several : has_one_leaf (normal e) ≡ false = ap (λ es. is_one (leaves_after Zero es)) (normal_events e) ∙ h.several in
    let pretty : stays c text 0 (length h.head) (normal e) (length (given_text c (normal e))) ≡ false = rw (short, several, h.no_struct) refl in
    let fewer : length rest ≤ most = let l = ap length cut ∙ length-append h.before (h.word ++ (plain_text d ++ rest)) in let m = length-append h.word (plain_text d ++ rest) in let k = length-append (plain_text d) rest in omega (arith, l, m, k, long) in
    ap (λ n. convert c n (front ++ (plain_text d ++ rest))) all ∙ ap (convert c (suc most)) h.whole
    ∙ value_step c most h.head h.bracket h.tail h.none h.opens (normal e) rest (ap (value_from Pretty) from ∙ h.value)
    ∙ ap (λ t. t ++ (value_text (stays c text 0 (length h.head) (normal e) (length (given_text c (normal e)))) Pretty (given_text c (normal e)) (normal e) ++ convert c most rest)) kept
    ∙ ap (λ b. h.before ++ (value_text b Pretty (given_text c (normal e)) (normal e) ++ convert c most rest)) pretty
    ∙ ap (λ t. h.before ++ (t ++ convert c most rest)) made
    ∙ ap (λ t. h.before ++ t) (append_assoc h.word (pretty_text d) (convert c most rest))
    ∙ sym (append_assoc h.before h.word (pretty_text d ++ convert c most rest))
    ∙ ap (λ t. t ++ (pretty_text d ++ convert c most rest)) (sym h.cut)
    ∙ ap (λ t. front ++ (pretty_text d ++ t)) (enough c most (length rest) rest fewer (omega arith))

-- ---- names

-- after a space no field begins
no_field : (z tail : List ℕ) → could_be_struct (z ++ 123 ∷ 32 ∷ tail) 0 (length z) ≡ false
no_field z tail = could_be_is z 123 (32 ∷ tail) ∙ and_right (is_after_name z 0 (length z)) false refl

-- a tuple with a longer name has a name too
named_kind : (a : List ℕ) (c : ℕ) (w : List ℕ) → tuple_kind (a ++ c ∷ w) ≡ Tuple
named_kind [] c w = refl
named_kind (b ∷ a) c w = refl

longer_or_empty : (a : List ℕ) (c : ℕ) (w : List ℕ) → IsName Debug (a ++ c ∷ w) → OrEmpty (IsName Debug) (a ++ c ∷ w)
longer_or_empty [] c w h = h
longer_or_empty (b ∷ a) c w h = h

module _ (limit : ℕ) (front rest : List ℕ) (opens : OpensNothing front) where
  abbrev last : LastWord front
  last = last_word_of front

  none : Without is_opening front
  none = without_openings front opens

  nothing_before : front ≡ front ++ []
  nothing_before = sym (append-nil front)

  -- what follows a name of a struct
  struct_read : (c : ℕ) (w u : List ℕ) (d e : Document) → IsName Debug (c ∷ w) → plain_text d ++ rest ≡ (c ∷ w) ++ (codes " { " ++ u)
      → plain_text e ≡ last.word ++ plain_text d → pretty_text e ≡ last.word ++ pretty_text d
      → value_from Pretty (plain_text e ++ rest) ≡ Some (normal e, rest) → has_one_leaf e ≡ false → IsRead limit front rest d e
  struct_read c w u d e name is plain pretty value several =
      let head = front ++ ((c ∷ w) ++ 32 ∷ []) in
      let whole : front ++ ((c ∷ w) ++ (codes " { " ++ u)) ≡ head ++ (123 ∷ 32 ∷ u) =
      ap (λ t. front ++ t) (sym (append_assoc (c ∷ w) (32 ∷ []) (123 ∷ 32 ∷ u))) ∙ sym (append_assoc front ((c ∷ w) ++ 32 ∷ []) (123 ∷ 32 ∷ u)) in
      let size : length head ≡ length front + length (c ∷ w) + 1 = omega (arith, length-append front ((c ∷ w) ++ 32 ∷ []), length-append (c ∷ w) (32 ∷ [])) in
      record {
        before = last.before;
        word = last.word;
        cut = last.is;
        head = head;
        bracket = 123;
        tail = 32 ∷ u;
        whole = ap (λ t. front ++ t) is ∙ whole;
        none = without_append is_opening front ((c ∷ w) ++ 32 ∷ []) none (named_without_openings (c ∷ w) name);
        opens = refl;
        starts = ap (λ t. value_start Pretty t 0 (length head)) (sym whole) ∙ ap (value_start Pretty (front ++ ((c ∷ w) ++ (codes " { " ++ u))) 0) size ∙ struct_after front last c w name u;
        plain = plain;
        pretty = pretty;
        value = value;
        several = several;
        no_struct = no_field head u;
      }

  -- a value without a name begins at its bracket
  bracket_read : (k : ℕ) (tail : List ℕ) (d : Document) → plain_text d ++ rest ≡ k ∷ tail → is_opening k ≡ true
      → value_start Pretty (front ++ k ∷ tail) 0 (length front) ≡ length front → value_from Pretty (plain_text d ++ rest) ≡ Some (normal d, rest)
      → HasNoReasonToStay limit front d rest → IsRead limit front rest d d
  bracket_read k tail d is opening starts value long = record {
    before = front;
    word = [];
    cut = nothing_before;
    head = front;
    bracket = k;
    tail = tail;
    whole = ap (λ t. front ++ t) is;
    none = none;
    opens = opening;
    starts = starts;
    plain = refl;
    pretty = refl;
    value = value;
    several = long.leaves;
    no_struct = ap (λ t. could_be_struct (front ++ t) 0 (length front)) (sym is) ∙ long.no_struct;
  }

pub long_values : LongValuesBecomePretty
long_values limit (leaf text) front rest is long opens follows = let one = long.leaves in absurd (cc)
long_values limit (joined ds) front rest is long opens follows = absurd is.0
long_values limit (list_of no_documents) front rest is long opens follows = let one = long.leaves in absurd (cc)
long_values limit (list_of (first_document d ds)) front rest is long opens follows =
    let v = list_of (first_document d ds) in
    let tail = block_tail (frame Plain Brackets) (setting Plain 0) Zero (texts (setting Plain 0) (first_document d ds)) ++ rest in
    made_pretty limit front rest v v long.long
    (bracket_read limit front rest opens 91 tail v refl refl (list_after Pretty front tail)
    (block_value Debug v rest is.0 tt tt is.1 (long_list d ds rest is.0 long.leaves)) long)
long_values limit (set_of no_documents) front rest is long opens follows = let one = long.leaves in absurd (cc)
long_values limit (set_of (first_document d ds)) front rest is long opens follows =
    let v = set_of (first_document d ds) in
    let left = block_tail (frame Plain Braces) (setting Plain 0) One (texts (setting Plain 0) ds) in
    let tail = (plain_text d ++ left) ++ rest in
    made_pretty limit front rest v v long.long
    (bracket_read limit front rest opens 123 tail v refl refl (braces_after front tail (solid_no_space (solid_append (document_solid (setting Plain 0) d is.0.0) left) rest))
    (block_value Debug v rest is.0 tt tt is.1 tt) long)
long_values limit (map_of no_pairs) front rest is long opens follows = let one = long.leaves in absurd (cc)
long_values limit (map_of (first_pair key value ps)) front rest is long opens follows =
    let v = map_of (first_pair key value ps) in
    let left = block_tail (frame Plain Braces) (setting Plain 0) One (pair_texts (setting Plain 0) ps) in
    let entry = plain_text key ++ (codes ": " ++ plain_text value) in
    let tail = (entry ++ left) ++ rest in
    made_pretty limit front rest v v long.long
    (bracket_read limit front rest opens 123 tail v refl refl
    (braces_after front tail (solid_no_space (solid_append (solid_append (document_solid (setting Plain 0) key is.0.0) (codes ": " ++ plain_text value)) left) rest))
    (block_value Debug v rest is.0 tt tt is.1 tt) long)
long_values limit (struct_of name no_fields) front rest is long opens follows = let one = long.leaves in absurd (cc)
long_values limit (struct_of [] (first_field field value fs)) front rest is long opens follows = absurd (name_some Debug is.0.0)
long_values limit (struct_of (c ∷ w) (first_field field value fs)) front rest is long opens follows =
    let h = last_word_of front in
    let d = struct_of (c ∷ w) (first_field field value fs) in
    let e = struct_of (h.word ++ c ∷ w) (first_field field value fs) in
    let u = field ++ (codes ": " ++ (plain_text value ++ after_field fs false rest)) in
    made_pretty limit front rest d e long.long
    (struct_read limit front rest opens c w u d e is.0.0 (struct_text (c ∷ w) field value fs rest) (append_assoc h.word (c ∷ w) _) (append_assoc h.word (c ∷ w) _)
    (block_value Debug e rest (longer_name Debug front h follows c w is.0.0, is.0.1) tt tt is.1 tt) long.leaves)
long_values limit (non_exhaustive_of name no_fields) front rest is long opens follows = let one = long.leaves in absurd (cc)
long_values limit (non_exhaustive_of [] (first_field field value fs)) front rest is long opens follows = absurd (name_some Debug is.0.1)
long_values limit (non_exhaustive_of (c ∷ w) (first_field field value fs)) front rest is long opens follows =
    let h = last_word_of front in
    let d = non_exhaustive_of (c ∷ w) (first_field field value fs) in
    let e = non_exhaustive_of (h.word ++ c ∷ w) (first_field field value fs) in
    let u = field ++ (codes ": " ++ (plain_text value ++ after_field fs true rest)) in
    made_pretty limit front rest d e long.long
    (struct_read limit front rest opens c w u d e is.0.1 (dotted_text (c ∷ w) field value fs rest) (append_assoc h.word (c ∷ w) _) (append_assoc h.word (c ∷ w) _)
    (block_value Debug e rest (is.0.0, longer_name Debug front h follows c w is.0.1, is.0.2) tt tt is.1 tt) long.leaves)
long_values limit (tuple_of name no_documents) front rest is long opens follows = let one = long.leaves in absurd (cc)
long_values limit (tuple_of [] (first_document d ds)) front rest is long opens follows =
    let h = last_word_of front in
    let v = tuple_of [] (first_document d ds) in
    let tail = (plain_text d ++ block_tail (frame Plain Unnamed) (setting Plain 0) One (texts (setting Plain 0) ds)) ++ rest in
    made_pretty limit front rest v v long.long
    (bracket_read limit front rest opens 40 tail v refl refl (tuple_unnamed Pretty front h (sym (last_word_is front h) ∙ follows) tail)
    (block_value Debug v rest is.0 tt tt is.1 tt) long)
long_values limit (tuple_of (c ∷ w) (first_document d ds)) front rest is long opens follows =
    let h = last_word_of front in
    let v = tuple_of (c ∷ w) (first_document d ds) in
    let e = tuple_of (h.word ++ c ∷ w) (first_document d ds) in
    let left = plain_text d ++ block_tail (frame Plain Tuple) (setting Plain 0) One (texts (setting Plain 0) ds) in
    let head = front ++ c ∷ w in
    let name = longer_name Debug front h follows c w is.0.0 in
    let kind = named_kind h.word c w in
    let text : (s : Setting) → layout s e ≡ h.word ++ layout s v =
    λ s. ap (λ k. block_text k s (h.word ++ c ∷ w) (texts (inside s) (first_document d ds))) kind ∙ append_assoc h.word (c ∷ w) _ in
    let whole : front ++ ((c ∷ w) ++ 40 ∷ (left ++ rest)) ≡ head ++ 40 ∷ (left ++ rest) = sym (append_assoc front (c ∷ w) (40 ∷ (left ++ rest))) in
    made_pretty limit front rest v e long.long (record {
      before = h.before;
      word = h.word;
      cut = h.is;
      head = head;
      bracket = 40;
      tail = left ++ rest;
      whole = ap (λ t. front ++ t) (append_assoc (c ∷ w) (40 ∷ left) rest) ∙ whole;
      none = without_append is_opening front (c ∷ w) (without_openings front opens) (name_without_openings (c ∷ w) is.0.0);
      opens = refl;
      starts = ap (λ t. value_start Pretty t 0 (length head)) (sym whole) ∙ ap (value_start Pretty (front ++ ((c ∷ w) ++ 40 ∷ (left ++ rest))) 0) (length-append front (c ∷ w)) ∙ tuple_after Pretty front h c w is.0.0 (left ++ rest);
      plain = text (setting Plain 0);
      pretty = text (setting Pretty 0);
      value = block_value Debug e rest (longer_or_empty h.word c w name, is.0.1, is.0.2) tt tt is.1 tt;
      several = ap (λ k. is_one (leaves_after Zero (block_events k (h.word ++ c ∷ w) (Leaf (h.word ++ c ∷ w)) false (events_of_entries (first_document d ds))))) kind ∙ long.leaves;
      no_struct = could_be_is head 40 (left ++ rest);
    })
long_values limit (pretty_part d) front rest is long opens follows = absurd is.0
