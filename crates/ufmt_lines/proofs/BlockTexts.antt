-- The plain and the pretty text of a block with entries: they begin alike up to its bracket, and a bracket closes them.
use Rattle.std.proofs.Common.{◌≡◌, inr, ◌∙◌, refl, ap, sym, subst, ℕ, ◌≤◌, true, false, List, [], ◌∷◌, ◌++◌, codes, append_assoc, append-nil, is_some, arith}
use Rattle.ufmt.specs.Bytes.{closing_brace, closing_bracket, closing_parenthesis, line_feed, opening_brace, opening_bracket, opening_parenthesis, space}
use Rattle.ufmt.specs.Document.{Document, leaf, joined, list_of, set_of, map_of, struct_of, non_exhaustive_of, tuple_of, pretty_part, Documents, no_documents, first_document, Pairs, no_pairs, first_pair, Fields, no_fields, first_field}
use Rattle.ufmt.specs.Layout.{frame, setting, inside, indentation, lead, ending, trail, next, block_tail, layout, line_start, if_any, brace_space, lone_comma, texts, pair_texts, field_texts}
use Rattle.ufmt.specs.Leaves.{IsDebugWord, begins_with, is_ender, is_opening}
use Rattle.ufmt.specs.Token.{IsBuilt}
use Rattle.ufmt_core.specs.declared.layout.Count.{Count}
use Rattle.ufmt_core.specs.declared.layout.Count.TheVariants.{Zero, One, Several}
use Rattle.ufmt_core.specs.declared.layout.Kind.{Kind}
use Rattle.ufmt_core.specs.declared.layout.Kind.TheVariants.{Brackets, Braces, Struct, Tuple, Unnamed}
use Rattle.ufmt_core.specs.declared.layout.Mode.{Mode}
use Rattle.ufmt_core.specs.declared.layout.Mode.TheVariants.{Plain, Pretty}
use Rattle.ufmt_core.specs.declared.layout.Setting.{Setting}
use Rattle.ufmt_grammar.proofs.BlocksComplete.{tail_follows}
use Rattle.ufmt_grammar.proofs.ClassLeaves.{Begins-append, begins_no, colon_follows, ender_follows}
use Rattle.ufmt_grammar.proofs.DottedStructs.{rest_text, dotted_layout}
use Rattle.ufmt_grammar.proofs.FramesClose.{closes, no_colon}
use Rattle.ufmt_grammar.proofs.ReadingComplete.{IsBlock}
use Rattle.ufmt_grammar.proofs.TextsBegin.{document_begins}
use Rattle.ufmt_grammar.specs.Reading.{last_dots}
use Rattle.ufmt_grammar.specs.declared.class.Class.TheVariants.{Debug}
use Rattle.ufmt_lines.proofs.FieldsAhead.{document_field, field_there}
use Rattle.ufmt_values.proofs.FirstBrackets.{Without}
use Rattle.ufmt_lines.proofs.Heads.{BeginsSolid, document_solid, name_solid, solid_append, solid_in_line}
use Rattle.ufmt_values.proofs.NameBrackets.{name_without_enders, name_without_openings, named_without_enders, named_without_openings}
use Rattle.ufmt_lines.proofs.SteepTexts.{BeginsLine, begins_dotted, begins_tail, InLine, IsSteep, Steep, document_steep, documents_steep, fields_steep, in_line, name_steep, pairs_steep, steep_dotted, steep_keyed, steep_tail, steep_trail, trail_in_line}
use Rattle.ufmt_lines.proofs.ValueStarts.{Apart}
use Rattle.ufmt_scan.specs.Fronts.{begins_with_field}

-- ---- how blocks end

-- the last byte is a closing bracket
pub record EndsClosed (text : List ℕ) : Type 0 where
  pub front : List ℕ
  pub last : ℕ
  pub is : text ≡ front ++ last ∷ []
  pub ender : is_ender last ≡ true
  pub apart : Apart last

-- a text ends as its last part does
ends_after : (a : List ℕ) {b : List ℕ} → EndsClosed b → EndsClosed (a ++ b)
ends_after a h = record {
  front = a ++ h.front;
  last = h.last;
  is = ap (λ t. a ++ t) h.is ∙ sym (append_assoc a h.front (h.last ∷ []));
  ender = h.ender;
  apart = h.apart;
}

with_bracket : (a : List ℕ) → EndsClosed (a ++ closing_bracket ∷ [])
with_bracket a = record { front = a; last = closing_bracket; is = refl; ender = refl; apart = record { no_name = refl; no_space = refl } }

with_brace : (a : List ℕ) → EndsClosed (a ++ closing_brace ∷ [])
with_brace a = record { front = a; last = closing_brace; is = refl; ender = refl; apart = record { no_name = refl; no_space = refl } }

with_parenthesis : (a : List ℕ) → EndsClosed (a ++ closing_parenthesis ∷ [])
with_parenthesis a = record { front = a; last = closing_parenthesis; is = refl; ender = refl; apart = record { no_name = refl; no_space = refl } }

-- a block's closing ends with a bracket
closing_ends : (kind : Kind) (mode : Mode) (count : Count) → EndsClosed ((frame mode kind).closing (next count))
closing_ends Brackets mode count = with_bracket []
closing_ends Braces mode count = with_brace []
closing_ends Struct mode Zero = with_brace (brace_space mode)
closing_ends Struct mode One = with_brace (brace_space mode)
closing_ends Struct mode Several = with_brace (brace_space mode)
closing_ends Tuple mode Zero = with_parenthesis []
closing_ends Tuple mode One = with_parenthesis []
closing_ends Tuple mode Several = with_parenthesis []
closing_ends Unnamed mode Zero = with_parenthesis (lone_comma One mode)
closing_ends Unnamed mode One = with_parenthesis (lone_comma Several mode)
closing_ends Unnamed mode Several = with_parenthesis (lone_comma Several mode)

module _ (kind : Kind) (s : Setting) where
  ending_ends : (count : Count) → EndsClosed (ending (frame s.mode kind) s (next count))
  ending_ends count = ends_after (if_any (next count) (line_start s.mode s.depth)) (closing_ends kind s.mode count)

  -- so does the rest of a block
  tail_ends : (count : Count) (ts : List (List ℕ)) → EndsClosed (block_tail (frame s.mode kind) s (next count) ts)
  tail_ends count [] = ending_ends count
  tail_ends count (text ∷ ts) = ends_after (lead (frame s.mode kind) (inside s) (next count)) (ends_after text (ends_after (trail s.mode) (tail_ends (next count) ts)))

  -- a name, an opening and entries
  entries_end : (front : List ℕ) (text : List ℕ) (ts : List (List ℕ)) → EndsClosed (front ++ (lead (frame s.mode kind) (inside s) Zero ++ (text ++ (trail s.mode ++ block_tail (frame s.mode kind) s One ts))))
  entries_end front text ts = ends_after front (ends_after (lead (frame s.mode kind) (inside s) Zero) (ends_after text (ends_after (trail s.mode) (tail_ends Zero ts))))

dots_end : (s : Setting) → EndsClosed (last_dots s)
dots_end s = ends_after _ (ending_ends Struct s Zero)

-- and that of a struct that ends in dots
dotted_ends : (s : Setting) (count : Count) (ts : List (List ℕ)) → EndsClosed (rest_text (frame s.mode Struct) s (last_dots s) (next count) ts true)
dotted_ends s count [] = ends_after (lead (frame s.mode Struct) (inside s) (next count)) (dots_end s)
dotted_ends s count (text ∷ ts) = ends_after (lead (frame s.mode Struct) (inside s) (next count)) (ends_after text (ends_after (trail s.mode) (dotted_ends s (next count) ts)))

-- ---- both texts

-- the texts of a block with entries
pub record BlockTexts (d : Document) : Type 0 where
  -- what both begin with, and the block's bracket
  pub head : List ℕ
  pub bracket : ℕ
  pub none : Without is_opening head
  pub no_ender : Without is_ender head
  pub opens : is_opening bracket ≡ true
  -- what follows it in plain mode
  pub plain_tail : List ℕ
  pub plain : layout (setting Plain 0) d ≡ head ++ bracket ∷ plain_tail
  pub plain_line : (u : List ℕ) → InLine (plain_tail ++ u)
  -- the first entry in pretty mode, and what follows its line
  pub text : List ℕ
  pub left : List ℕ
  pub pretty : layout (setting Pretty 0) d ≡ head ++ bracket ∷ line_feed ∷ (indentation 1 ++ (text ++ (trail Pretty ++ left)))
  pub begins : BeginsSolid text
  pub steep : Steep (text ++ (trail Pretty ++ left))
  -- after a brace, a field's line comes exactly if a space does in plain mode; but a field in its place would be taken for one
  pub same_kind : (u v : List ℕ) → bracket ≡ opening_brace → begins_with_field Debug (plain_tail ++ u) ≡ false
      → begins_with space (plain_tail ++ u) ≡ begins_with_field Debug ((text ++ (trail Pretty ++ left)) ++ v)
  pub ends : (mode : Mode) → EndsClosed (layout (setting mode 0) d)

-- the first entry, its comma and the rest of the block are steep
entry_steep : (text left : List ℕ) → IsSteep text → BeginsLine (left ++ []) → Steep (left ++ []) → Steep (text ++ (trail Pretty ++ left))
entry_steep text left entry next rest =
    entry (trail Pretty ++ left) (trail_in_line left) (steep_trail left (subst BeginsLine (append-nil left) next) (subst Steep (append-nil left) rest))

keyed_assoc : (a b c u : List ℕ) → ((a ++ (codes ": " ++ b)) ++ c) ++ u ≡ a ++ (codes ": " ++ (b ++ (c ++ u)))
keyed_assoc a b c u = simp append_assoc

-- no space is at the front of such a text
pub solid_no_space : {a : List ℕ} → BeginsSolid a → (u : List ℕ) → begins_with space (a ++ u) ≡ false
solid_no_space h u = ap (λ t. begins_with space (t ++ u)) h.is ∙ h.solid.no_space

first_depth : 1 ≤ 1
first_depth = omega arith

list_texts : (d : Document) (ds : Documents) → IsBuilt Debug (list_of (first_document d ds)) → BlockTexts (list_of (first_document d ds))
list_texts d ds h = record {
  head = [];
  bracket = opening_bracket;
  none = tt;
  no_ender = tt;
  opens = refl;
  plain_tail = layout (setting Plain 0) d ++ block_tail (frame Plain Brackets) (setting Plain 0) One (texts (setting Plain 0) ds);
  plain = refl;
  plain_line = λ u. solid_in_line (solid_append (solid_append (document_solid (setting Plain 0) d h.0) _) u);
  text = layout (setting Pretty 1) d;
  left = block_tail (frame Pretty Brackets) (setting Pretty 0) One (texts (setting Pretty 1) ds);
  pretty = refl;
  begins = document_solid (setting Pretty 1) d h.0;
  steep = entry_steep _ _ (document_steep 1 first_depth d h.0) (begins_tail Brackets 0 _ [] (inr refl)) (steep_tail Brackets 0 _ [] (inr refl) (documents_steep 1 first_depth ds h.1) tt);
  same_kind = λ u v brace. absurd (omega (arith, brace));
  ends = λ mode. entries_end Brackets (setting mode 0) (codes "[") (layout (inside (setting mode 0)) d) (texts (inside (setting mode 0)) ds);
}

set_texts : (d : Document) (ds : Documents) → IsBuilt Debug (set_of (first_document d ds)) → BlockTexts (set_of (first_document d ds))
set_texts d ds h =
    let plain_left = block_tail (frame Plain Braces) (setting Plain 0) One (texts (setting Plain 0) ds) in
    let pretty_left = block_tail (frame Pretty Braces) (setting Pretty 0) One (texts (setting Pretty 1) ds) in
    record {
      head = [];
      bracket = opening_brace;
      none = tt;
      no_ender = tt;
      opens = refl;
      plain_tail = layout (setting Plain 0) d ++ plain_left;
      plain = refl;
      plain_line = λ u. solid_in_line (solid_append (solid_append (document_solid (setting Plain 0) d h.0) _) u);
      text = layout (setting Pretty 1) d;
      left = pretty_left;
      pretty = refl;
      begins = document_solid (setting Pretty 1) d h.0;
      steep = entry_steep _ _ (document_steep 1 first_depth d h.0) (begins_tail Braces 0 _ [] (inr refl)) (steep_tail Braces 0 _ [] (inr refl) (documents_steep 1 first_depth ds h.1) tt);
      same_kind = λ u v brace none.
          solid_no_space (solid_append (document_solid (setting Plain 0) d h.0) plain_left) u
          ∙ sym (ap (begins_with_field Debug) (append_assoc (layout (setting Pretty 1) d) (trail Pretty ++ pretty_left) v)
          ∙ sym (document_field (setting Plain 0) (setting Pretty 1) (plain_left ++ u) ((trail Pretty ++ pretty_left) ++ v)
          (tail_follows Debug (frame Plain Braces) (setting Plain 0) (closes Debug (setting Plain 0) Braces tt) Zero (texts (setting Plain 0) ds) u)
          (ender_follows Debug 44 (line_feed ∷ (pretty_left ++ v)) refl) (ap is_some (no_colon (setting Plain 0) (texts (setting Plain 0) ds) u)) d h.0)
          ∙ ap (begins_with_field Debug) (sym (append_assoc (layout (setting Plain 0) d) plain_left u)) ∙ none);
      ends = λ mode. entries_end Braces (setting mode 0) (codes "{") (layout (inside (setting mode 0)) d) (texts (inside (setting mode 0)) ds);
    }

map_texts : (key value : Document) (ps : Pairs) → IsBuilt Debug (map_of (first_pair key value ps)) → BlockTexts (map_of (first_pair key value ps))
map_texts key value ps h =
    let plain_left = block_tail (frame Plain Braces) (setting Plain 0) One (pair_texts (setting Plain 0) ps) in
    let pretty_left = block_tail (frame Pretty Braces) (setting Pretty 0) One (pair_texts (setting Pretty 1) ps) in
    record {
      head = [];
      bracket = opening_brace;
      none = tt;
      no_ender = tt;
      opens = refl;
      plain_tail = (layout (setting Plain 0) key ++ (codes ": " ++ layout (setting Plain 0) value)) ++ plain_left;
      plain = refl;
      plain_line = λ u. solid_in_line (solid_append (solid_append (solid_append (document_solid (setting Plain 0) key h.0) _) _) u);
      text = layout (setting Pretty 1) key ++ (codes ": " ++ layout (setting Pretty 1) value);
      left = pretty_left;
      pretty = refl;
      begins = solid_append (document_solid (setting Pretty 1) key h.0) _;
      steep = entry_steep _ _ (steep_keyed _ _ (document_steep 1 first_depth key h.0) (document_steep 1 first_depth value h.1)) (begins_tail Braces 0 _ [] (inr refl)) (steep_tail Braces 0 _ [] (inr refl) (pairs_steep 1 first_depth ps h.2) tt);
      same_kind = λ u v brace none.
          solid_no_space (solid_append (solid_append (document_solid (setting Plain 0) key h.0) _) plain_left) u
          ∙ sym (ap (begins_with_field Debug) (keyed_assoc (layout (setting Pretty 1) key) (layout (setting Pretty 1) value) (trail Pretty ++ pretty_left) v)
          ∙ sym (document_field (setting Plain 0) (setting Pretty 1) (codes ": " ++ (layout (setting Plain 0) value ++ (plain_left ++ u))) (codes ": " ++ (layout (setting Pretty 1) value ++ ((trail Pretty ++ pretty_left) ++ v)))
          (colon_follows Debug _ (Begins-append (document_begins Debug (setting Plain 0) value h.1) _))
          (colon_follows Debug _ (Begins-append (document_begins Debug (setting Pretty 1) value h.1) _)) refl key h.0)
          ∙ ap (begins_with_field Debug) (sym (keyed_assoc (layout (setting Plain 0) key) (layout (setting Plain 0) value) plain_left u)) ∙ none);
      ends = λ mode. entries_end Braces (setting mode 0) (codes "{") (layout (inside (setting mode 0)) key ++ (codes ": " ++ layout (inside (setting mode 0)) value)) (pair_texts (inside (setting mode 0)) ps);
    }

tuple_texts : (d : Document) (ds : Documents) → IsBuilt Debug (tuple_of [] (first_document d ds)) → BlockTexts (tuple_of [] (first_document d ds))
tuple_texts d ds h = record {
  head = [];
  bracket = opening_parenthesis;
  none = tt;
  no_ender = tt;
  opens = refl;
  plain_tail = layout (setting Plain 0) d ++ block_tail (frame Plain Unnamed) (setting Plain 0) One (texts (setting Plain 0) ds);
  plain = refl;
  plain_line = λ u. solid_in_line (solid_append (solid_append (document_solid (setting Plain 0) d h.1) _) u);
  text = layout (setting Pretty 1) d;
  left = block_tail (frame Pretty Unnamed) (setting Pretty 0) One (texts (setting Pretty 1) ds);
  pretty = refl;
  begins = document_solid (setting Pretty 1) d h.1;
  steep = entry_steep _ _ (document_steep 1 first_depth d h.1) (begins_tail Unnamed 0 _ [] (inr refl)) (steep_tail Unnamed 0 _ [] (inr refl) (documents_steep 1 first_depth ds h.2) tt);
  same_kind = λ u v brace. absurd (omega (arith, brace));
  ends = λ mode. entries_end Unnamed (setting mode 0) [] (layout (inside (setting mode 0)) d) (texts (inside (setting mode 0)) ds);
}

named_texts : (c : ℕ) (name : List ℕ) (d : Document) (ds : Documents) → IsBuilt Debug (tuple_of (c ∷ name) (first_document d ds)) → BlockTexts (tuple_of (c ∷ name) (first_document d ds))
named_texts c name d ds h = record {
  head = c ∷ name;
  bracket = opening_parenthesis;
  none = name_without_openings (c ∷ name) h.0;
  no_ender = name_without_enders (c ∷ name) h.0;
  opens = refl;
  plain_tail = layout (setting Plain 0) d ++ block_tail (frame Plain Tuple) (setting Plain 0) One (texts (setting Plain 0) ds);
  plain = refl;
  plain_line = λ u. solid_in_line (solid_append (solid_append (document_solid (setting Plain 0) d h.1) _) u);
  text = layout (setting Pretty 1) d;
  left = block_tail (frame Pretty Tuple) (setting Pretty 0) One (texts (setting Pretty 1) ds);
  pretty = refl;
  begins = document_solid (setting Pretty 1) d h.1;
  steep = entry_steep _ _ (document_steep 1 first_depth d h.1) (begins_tail Tuple 0 _ [] (inr refl)) (steep_tail Tuple 0 _ [] (inr refl) (documents_steep 1 first_depth ds h.2) tt);
  same_kind = λ u v brace. absurd (omega (arith, brace));
  ends = λ mode. entries_end Tuple (setting mode 0) (c ∷ name) (layout (inside (setting mode 0)) d) (texts (inside (setting mode 0)) ds);
}

-- a struct has a field's name first in both modes
module _ (field : List ℕ) (value : Document) (word : IsDebugWord field) (built : IsBuilt Debug value) where
  field_first : (left v : List ℕ) → true ≡ begins_with_field Debug (((field ++ (codes ": " ++ layout (setting Pretty 1) value)) ++ (trail Pretty ++ left)) ++ v)
  field_first left v = sym (field_there _ (record {
    name = field;
    rest = layout (setting Pretty 1) value ++ ((trail Pretty ++ left) ++ v);
    named = word;
    is = keyed_assoc field (layout (setting Pretty 1) value) (trail Pretty ++ left) v;
    unclosed = begins_no (Begins-append (document_begins Debug (setting Pretty 1) value built) _) closing_brace refl;
  }))

struct_texts : (name field : List ℕ) (value : Document) (fs : Fields) → IsBuilt Debug (struct_of name (first_field field value fs)) → BlockTexts (struct_of name (first_field field value fs))
struct_texts name field value fs h =
    let plain_tail = space ∷ ((field ++ (codes ": " ++ layout (setting Plain 0) value)) ++ block_tail (frame Plain Struct) (setting Plain 0) One (field_texts (setting Plain 0) fs)) in
    let text = field ++ (codes ": " ++ layout (setting Pretty 1) value) in
    let left = block_tail (frame Pretty Struct) (setting Pretty 0) One (field_texts (setting Pretty 1) fs) in
    record {
      head = name ++ space ∷ [];
      bracket = opening_brace;
      none = named_without_openings name h.0;
      no_ender = named_without_enders name h.0;
      opens = refl;
      plain_tail = plain_tail;
      plain = sym (append_assoc name (space ∷ []) (opening_brace ∷ plain_tail));
      plain_line = λ u. in_line space _ (λ e. omega (arith, e));
      text = text;
      left = left;
      pretty = sym (append_assoc name (space ∷ []) (opening_brace ∷ line_feed ∷ (indentation 1 ++ (text ++ (trail Pretty ++ left)))));
      begins = solid_append (name_solid field h.1.0) _;
      steep = entry_steep _ _ (steep_keyed _ _ (name_steep field h.1.0) (document_steep 1 first_depth value h.1.1)) (begins_tail Struct 0 _ [] (inr refl)) (steep_tail Struct 0 _ [] (inr refl) (fields_steep 1 first_depth fs h.1.2) tt);
      same_kind = λ u v brace none. field_first field value h.1.0 h.1.1 left v;
      ends = λ mode. entries_end Struct (setting mode 0) name (field ++ (codes ": " ++ layout (inside (setting mode 0)) value)) (field_texts (inside (setting mode 0)) fs);
    }

dotted_texts : (name field : List ℕ) (value : Document) (fs : Fields) → IsBuilt Debug (non_exhaustive_of name (first_field field value fs)) → BlockTexts (non_exhaustive_of name (first_field field value fs))
dotted_texts name field value fs h =
    let plain_tail = space ∷ ((field ++ (codes ": " ++ layout (setting Plain 0) value)) ++ rest_text (frame Plain Struct) (setting Plain 0) (last_dots (setting Plain 0)) One (field_texts (setting Plain 0) fs) true) in
    let text = field ++ (codes ": " ++ layout (setting Pretty 1) value) in
    let left = rest_text (frame Pretty Struct) (setting Pretty 0) (last_dots (setting Pretty 0)) One (field_texts (setting Pretty 1) fs) true in
    record {
      head = name ++ space ∷ [];
      bracket = opening_brace;
      none = named_without_openings name h.1;
      no_ender = named_without_enders name h.1;
      opens = refl;
      plain_tail = plain_tail;
      plain = dotted_layout (setting Plain 0) name field value fs ∙ sym (append_assoc name (space ∷ []) (opening_brace ∷ plain_tail));
      plain_line = λ u. in_line space _ (λ e. omega (arith, e));
      text = text;
      left = left;
      pretty = dotted_layout (setting Pretty 0) name field value fs ∙ sym (append_assoc name (space ∷ []) (opening_brace ∷ line_feed ∷ (indentation 1 ++ (text ++ (trail Pretty ++ left)))));
      begins = solid_append (name_solid field h.2.0) _;
      steep = entry_steep _ _ (steep_keyed _ _ (name_steep field h.2.0) (document_steep 1 first_depth value h.2.1)) (begins_dotted 0 _ [] (inr refl)) (steep_dotted 0 _ [] (inr refl) (fields_steep 1 first_depth fs h.2.2) tt);
      same_kind = λ u v brace none. field_first field value h.2.0 h.2.1 left v;
      ends = λ mode. subst EndsClosed (sym (dotted_layout (setting mode 0) name field value fs))
          (ends_after name (ends_after (lead (frame mode Struct) (inside (setting mode 0)) Zero) (ends_after (field ++ (codes ": " ++ layout (inside (setting mode 0)) value)) (ends_after (trail mode) (dotted_ends (setting mode 0) Zero (field_texts (inside (setting mode 0)) fs))))));
    }

-- each block with entries has such texts
pub block_texts : (d : Document) → IsBuilt Debug d → IsBlock d → BlockTexts d
block_texts (leaf text) h block = absurd block
block_texts (joined ds) h block = absurd block
block_texts (list_of no_documents) h block = absurd block
block_texts (list_of (first_document d ds)) h block = list_texts d ds h
block_texts (set_of no_documents) h block = absurd block
block_texts (set_of (first_document d ds)) h block = set_texts d ds h
block_texts (map_of no_pairs) h block = absurd block
block_texts (map_of (first_pair key value ps)) h block = map_texts key value ps h
block_texts (struct_of name no_fields) h block = absurd block
block_texts (struct_of name (first_field field value fs)) h block = struct_texts name field value fs h
block_texts (non_exhaustive_of name no_fields) h block = absurd block
block_texts (non_exhaustive_of name (first_field field value fs)) h block = dotted_texts name field value fs h
block_texts (tuple_of name no_documents) h block = absurd block
block_texts (tuple_of [] (first_document d ds)) h block = tuple_texts d ds h
block_texts (tuple_of (c ∷ name) (first_document d ds)) h block = named_texts c name d ds h
block_texts (pretty_part d) h block = absurd block
