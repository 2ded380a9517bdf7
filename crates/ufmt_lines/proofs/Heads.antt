-- How the texts of documents begin: with a leaf, or with a bracket or a name and a bracket, in each mode alike.
use Rattle.std.proofs.Common.{◌≡◌, ◌≢◌, ◌⊎◌, inl, inr, ◌∙◌, refl, ap, sym, subst, ℕ, ◌==◌, true, false, List, [], ◌∷◌, ◌++◌, Some, codes, append_assoc, append-nil, get_or, eqb-true, arith}
use Rattle.std.proofs.lemmas.Bool.{false_from_ne_true}
use Rattle.ufmt.specs.Bytes.{line_feed, opening_brace, opening_bracket, opening_parenthesis, space}
use Rattle.ufmt.specs.Document.{Document, leaf, joined, list_of, set_of, map_of, struct_of, non_exhaustive_of, tuple_of, pretty_part, no_documents, first_document, no_fields, first_field}
use Rattle.ufmt.specs.Layout.{frame, inside, new_line, brace_space, trail, block_tail, layout, texts, pair_texts, field_texts}
use Rattle.ufmt.specs.Leaves.{IsDebugLeaf, is_ender, is_opening, Place, beginning, place_after}
use Rattle.ufmt.specs.Token.{IsName, IsBuilt}
use Rattle.ufmt_core.specs.declared.layout.Count.TheVariants.{Zero, One}
use Rattle.ufmt_core.specs.declared.layout.Kind.TheVariants.{Brackets, Braces, Struct, Tuple, Unnamed}
use Rattle.ufmt_core.specs.declared.layout.Setting.{Setting}
use Rattle.ufmt_grammar.proofs.ClassLeaves.{name_some}
use Rattle.ufmt_grammar.proofs.ClassLines.{IsBuilt-HasNoLineFeed}
use Rattle.ufmt_grammar.proofs.DebugLeaves.{leaf_no_ender}
use Rattle.ufmt_grammar.proofs.DottedStructs.{rest_text, dotted_layout}
use Rattle.ufmt_grammar.specs.Reading.{last_dots}
use Rattle.ufmt_grammar.specs.declared.class.Class.TheVariants.{Debug}
use Rattle.ufmt_values.proofs.FirstBrackets.{Without}
use Rattle.ufmt_values.proofs.NameBrackets.{name_without_openings, named_without_openings}
use Rattle.ufmt_lines.proofs.SteepTexts.{InLine}

-- ---- first bytes

-- no ender, no space and no line feed
pub record Solid (c : ℕ) : Type 0 where
  pub no_ender : is_ender c ≡ false
  pub no_space : (c == space) ≡ false
  pub no_line_feed : c ≢ line_feed

-- the text begins with such a byte
pub record BeginsSolid (text : List ℕ) : Type 0 where
  pub first : ℕ
  pub tail : List ℕ
  pub is : text ≡ first ∷ tail
  pub solid : Solid first

pub solid_append : {a : List ℕ} → BeginsSolid a → (b : List ℕ) → BeginsSolid (a ++ b)
solid_append h b = record { first = h.first; tail = h.tail ++ b; is = ap (λ t. t ++ b) h.is; solid = h.solid }

pub solid_in_line : {a : List ℕ} → BeginsSolid a → InLine a
solid_in_line h = λ v is. h.solid.no_line_feed (ap (λ l. get_or l 0 0) (sym h.is ∙ is))

leaf_no_space : (c : ℕ) (t : List ℕ) (next : Place) → place_after beginning c t ≡ Some next → (c == space) ≡ false
leaf_no_space c t next h = false_from_ne_true (c == space) (λ is. let at = subst (λ b. place_after beginning b t ≡ Some next) (eqb-true c space is) h in absurd (cc))

-- a leaf does so
leaf_solid : (text : List ℕ) → IsDebugLeaf text → BeginsSolid text
leaf_solid [] h = absurd (h.some refl)
leaf_solid (c ∷ t) h = record {
  first = c;
  tail = t;
  is = refl;
  solid = record { no_ender = leaf_no_ender c t h.pieces.0 h.pieces.1; no_space = leaf_no_space c t h.pieces.0 h.pieces.1; no_line_feed = (IsBuilt-HasNoLineFeed Debug (leaf (c ∷ t)) h).0 };
}

bracket_solid : Solid opening_bracket
bracket_solid = record { no_ender = refl; no_space = refl; no_line_feed = λ e. omega (arith, e) }

brace_solid : Solid opening_brace
brace_solid = record { no_ender = refl; no_space = refl; no_line_feed = λ e. omega (arith, e) }

parenthesis_solid : Solid opening_parenthesis
parenthesis_solid = record { no_ender = refl; no_space = refl; no_line_feed = λ e. omega (arith, e) }

-- a name does so
pub name_solid : (name : List ℕ) → IsName Debug name → BeginsSolid name
name_solid name h = leaf_solid name h.whole

-- the text of each document does so
pub document_solid : (i : Setting) (d : Document) → IsBuilt Debug d → BeginsSolid (layout i d)
document_solid i (leaf text) h = leaf_solid text h
document_solid i (joined ds) h = absurd h
document_solid i (list_of ds) h = record { first = opening_bracket; tail = _; is = refl; solid = bracket_solid }
document_solid i (set_of ds) h = record { first = opening_brace; tail = _; is = refl; solid = brace_solid }
document_solid i (map_of ps) h = record { first = opening_brace; tail = _; is = refl; solid = brace_solid }
document_solid i (struct_of name fs) h = solid_append (name_solid name h.0) _
document_solid i (tuple_of name no_documents) h = solid_append (name_solid name h) _
document_solid i (tuple_of [] (first_document d ds)) h = record { first = opening_parenthesis; tail = _; is = refl; solid = parenthesis_solid }
document_solid i (tuple_of (c ∷ name) (first_document d ds)) h = solid_append (name_solid (c ∷ name) h.0) _
document_solid i (non_exhaustive_of name fs) h = solid_append (name_solid name h.1) _
document_solid i (pretty_part d) h = absurd h

-- ---- leaves and heads

-- its text is this leaf in each mode and at each depth
pub record IsLeafText (d : Document) : Type 0 where
  pub text : List ℕ
  pub leaf : IsDebugLeaf text
  pub is : (s : Setting) → layout s d ≡ text

-- its text begins with these bytes, and this bracket is its first
pub record HasHead (d : Document) : Type 0 where
  pub head : List ℕ
  pub bracket : ℕ
  pub none : Without is_opening head
  pub opens : is_opening bracket ≡ true
  pub tail : Setting → List ℕ
  pub is : (s : Setting) → layout s d ≡ head ++ bracket ∷ tail s

-- each document has one or the other
pub leaf_or_head : (d : Document) → IsBuilt Debug d → IsLeafText d ⊎ HasHead d
leaf_or_head (leaf text) h = inl (record { text = text; leaf = h; is = λ s. refl })
leaf_or_head (joined ds) h = absurd h
leaf_or_head (list_of ds) h = inr (record { head = []; bracket = opening_bracket; none = tt; opens = refl; tail = λ s. block_tail (frame s.mode Brackets) s Zero (texts (inside s) ds); is = λ s. refl })
leaf_or_head (set_of ds) h = inr (record { head = []; bracket = opening_brace; none = tt; opens = refl; tail = λ s. block_tail (frame s.mode Braces) s Zero (texts (inside s) ds); is = λ s. refl })
leaf_or_head (map_of ps) h = inr (record { head = []; bracket = opening_brace; none = tt; opens = refl; tail = λ s. block_tail (frame s.mode Braces) s Zero (pair_texts (inside s) ps); is = λ s. refl })
leaf_or_head (struct_of name no_fields) h = inl (record { text = name; leaf = h.0.whole; is = λ s. append-nil name })
leaf_or_head (struct_of name (first_field field value fs)) h =
    let after : Setting → List ℕ = λ s. (brace_space s.mode ++ new_line (inside s).mode (inside s).depth)
    ++ ((field ++ (codes ": " ++ layout (inside s) value)) ++ (trail s.mode ++ block_tail (frame s.mode Struct) s One (field_texts (inside s) fs))) in
    inr (record {
      head = name ++ space ∷ [];
      bracket = opening_brace;
      none = named_without_openings name h.0;
      opens = refl;
      tail = after;
      is = λ s. sym (append_assoc name (space ∷ []) (opening_brace ∷ after s));
    })
leaf_or_head (non_exhaustive_of name no_fields) h =
    inr (record {
      head = name ++ space ∷ [];
      bracket = opening_brace;
      none = named_without_openings name h.1;
      opens = refl;
      tail = λ s. codes " .. }";
      is = λ s. sym (append_assoc name (space ∷ []) (codes "{ .. }"));
    })
leaf_or_head (non_exhaustive_of name (first_field field value fs)) h =
    let after : Setting → List ℕ = λ s. (brace_space s.mode ++ new_line (inside s).mode (inside s).depth)
    ++ ((field ++ (codes ": " ++ layout (inside s) value)) ++ (trail s.mode ++ rest_text (frame s.mode Struct) s (last_dots s) One (field_texts (inside s) fs) true)) in
    inr (record {
      head = name ++ space ∷ [];
      bracket = opening_brace;
      none = named_without_openings name h.1;
      opens = refl;
      tail = after;
      is = λ s. dotted_layout s name field value fs ∙ sym (append_assoc name (space ∷ []) (opening_brace ∷ after s));
    })
leaf_or_head (tuple_of [] no_documents) h = absurd (name_some Debug h)
leaf_or_head (tuple_of (c ∷ name) no_documents) h = inl (record { text = c ∷ name; leaf = h.whole; is = λ s. append-nil (c ∷ name) })
leaf_or_head (tuple_of [] (first_document d ds)) h =
    inr (record {
      head = [];
      bracket = opening_parenthesis;
      none = tt;
      opens = refl;
      tail = λ s. new_line (inside s).mode (inside s).depth ++ (layout (inside s) d ++ (trail s.mode ++ block_tail (frame s.mode Unnamed) s One (texts (inside s) ds)));
      is = λ s. refl;
    })
leaf_or_head (tuple_of (c ∷ name) (first_document d ds)) h =
    inr (record {
      head = c ∷ name;
      bracket = opening_parenthesis;
      none = name_without_openings (c ∷ name) h.0;
      opens = refl;
      tail = λ s. new_line (inside s).mode (inside s).depth ++ (layout (inside s) d ++ (trail s.mode ++ block_tail (frame s.mode Tuple) s One (texts (inside s) ds)));
      is = λ s. refl;
    })
leaf_or_head (pretty_part d) h = absurd h
