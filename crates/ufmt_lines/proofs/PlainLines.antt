-- A plain text has no line feed.
use Rattle.std.proofs.Common.{refl, sym, subst, ℕ, ◌==◌, Bool, true, false, List, [], ◌∷◌, ◌++◌, codes, eqb-true}
use Rattle.std.proofs.lemmas.Bool.{false_from_ne_true}
use Rattle.std.specs.Prelude.{⊤}
use Rattle.ufmt.specs.Bytes.{line_feed}
use Rattle.ufmt.specs.Document.{Document, leaf, joined, list_of, set_of, map_of, struct_of, non_exhaustive_of, tuple_of, pretty_part, Documents, no_documents, first_document, Pairs, no_pairs, first_pair, Fields, no_fields, first_field}
use Rattle.ufmt.specs.Layout.{frame, setting, lead, ending, layout, texts, pair_texts, field_texts}
use Rattle.ufmt.specs.Token.{IsName, IsBuilt, AreBuilt, PairsAreBuilt, FieldsAreBuilt}
use Rattle.ufmt_core.specs.Shift.{IsOneLine}
use Rattle.ufmt_core.specs.declared.layout.Count.{Count}
use Rattle.ufmt_core.specs.declared.layout.Count.TheVariants.{Zero, One, Several}
use Rattle.ufmt_core.specs.declared.layout.Kind.{Kind}
use Rattle.ufmt_core.specs.declared.layout.Kind.TheVariants.{Brackets, Braces, Struct, Tuple, Unnamed}
use Rattle.ufmt_core.specs.declared.layout.Mode.TheVariants.{Plain}
use Rattle.ufmt_core.specs.Layout.{next, block_tail}
use Rattle.ufmt_grammar.proofs.ClassLeaves.{name_some}
use Rattle.ufmt_grammar.proofs.ClassLines.{IsBuilt-HasNoLineFeed}
use Rattle.ufmt_grammar.proofs.DottedStructs.{rest_text, rest_text-false, dotted_layout}
use Rattle.ufmt_grammar.specs.Reading.{last_dots}
use Rattle.ufmt_grammar.specs.declared.class.Class.TheVariants.{Debug}
use Rattle.ufmt_values.proofs.FirstBrackets.{Without, without_append}
use Rattle.ufmt_lines.proofs.SteepTexts.{name_in_line}
use Rattle.ufmt_lines.specs.Private.LineLen.{is_line_feed}

-- a text of one line has no line feed
one_line : (text : List ℕ) → IsOneLine text → Without is_line_feed text
one_line [] h = tt
one_line (c ∷ text) h = (false_from_ne_true (c == line_feed) (λ is. h.0 (eqb-true c line_feed is)), one_line text h.1)

-- nor has a name
pub name_line : (name : List ℕ) → IsName Debug name → Without is_line_feed name
name_line name h = one_line name (name_in_line name h)

abbrev AreLines : List (List ℕ) → Type 0
AreLines [] = ⊤
AreLines (text ∷ ts) = Without is_line_feed text × AreLines ts

keyed : (a b : List ℕ) → Without is_line_feed a → Without is_line_feed b → Without is_line_feed (a ++ (codes ": " ++ b))
keyed a b first second = without_append is_line_feed a (codes ": " ++ b) first (refl, (refl, second))

-- ---- the rest of a block

-- nor has what comes before an entry
lead_line : (kind : Kind) (k : ℕ) (count : Count) → Without is_line_feed (lead (frame Plain kind) (setting Plain k) count)
lead_line Brackets k Zero = tt
lead_line Braces k Zero = tt
lead_line Struct k Zero = (refl, (refl, (refl, tt)))
lead_line Tuple k Zero = (refl, tt)
lead_line Unnamed k Zero = (refl, tt)
lead_line kind k One = (refl, (refl, tt))
lead_line kind k Several = (refl, (refl, tt))

-- nor has what ends a block
ending_line : (kind : Kind) (k : ℕ) (count : Count) → Without is_line_feed (ending (frame Plain kind) (setting Plain k) count)
ending_line Brackets k Zero = (refl, tt)
ending_line Brackets k One = (refl, tt)
ending_line Brackets k Several = (refl, tt)
ending_line Braces k Zero = (refl, tt)
ending_line Braces k One = (refl, tt)
ending_line Braces k Several = (refl, tt)
ending_line Struct k Zero = tt
ending_line Struct k One = (refl, (refl, tt))
ending_line Struct k Several = (refl, (refl, tt))
ending_line Tuple k Zero = tt
ending_line Tuple k One = (refl, tt)
ending_line Tuple k Several = (refl, tt)
ending_line Unnamed k Zero = tt
ending_line Unnamed k One = (refl, (refl, tt))
ending_line Unnamed k Several = (refl, tt)

-- nor has the rest of a block
rest_line : (kind : Kind) (k : ℕ) (close : List ℕ) (b : Bool) → Without is_line_feed close → (count : Count) (ts : List (List ℕ)) → AreLines ts
    → Without is_line_feed (rest_text (frame Plain kind) (setting Plain k) close count ts b)
rest_line kind k close false ends count [] h = ending_line kind k count
rest_line kind k close true ends count [] h = without_append is_line_feed (lead (frame Plain kind) (setting Plain k) count) close (lead_line kind k count) ends
rest_line kind k close b ends count (text ∷ ts) h =
    without_append is_line_feed (lead (frame Plain kind) (setting Plain k) count) _ (lead_line kind k count)
    (without_append is_line_feed text _ h.0 (rest_line kind k close b ends (next count) ts h.1))

tail_line : (kind : Kind) (k : ℕ) (ts : List (List ℕ)) → AreLines ts → Without is_line_feed (block_tail (frame Plain kind) (setting Plain k) Zero ts)
tail_line kind k ts h = subst (Without is_line_feed) (rest_text-false (frame Plain kind) (setting Plain k) [] Zero ts) (rest_line kind k [] false tt Zero ts h)

-- ---- documents

mutual
  -- nor has the plain text of a document
  pub plain_line : (k : ℕ) (d : Document) → IsBuilt Debug d → Without is_line_feed (layout (setting Plain k) d)
  plain_line k (leaf text) h = one_line text (IsBuilt-HasNoLineFeed Debug (leaf text) h)
  plain_line k (joined ds) h = absurd h
  plain_line k (list_of ds) h = (refl, tail_line Brackets k (texts (setting Plain k) ds) (documents_line k ds h))
  plain_line k (set_of ds) h = (refl, tail_line Braces k (texts (setting Plain k) ds) (documents_line k ds h))
  plain_line k (map_of ps) h = (refl, tail_line Braces k (pair_texts (setting Plain k) ps) (pairs_line k ps h))
  plain_line k (struct_of name fs) h = without_append is_line_feed name _ (name_line name h.0) (tail_line Struct k (field_texts (setting Plain k) fs) (fields_line k fs h.1))
  plain_line k (non_exhaustive_of name no_fields) h = without_append is_line_feed name (codes " { .. }") (name_line name h.1) (refl, (refl, (refl, (refl, (refl, (refl, (refl, tt)))))))
  plain_line k (non_exhaustive_of name (first_field field value fs)) h =
      subst (Without is_line_feed) (sym (dotted_layout (setting Plain k) name field value fs))
      (without_append is_line_feed name _ (name_line name h.1)
      (rest_line Struct k (last_dots (setting Plain k)) true (refl, (refl, (refl, (refl, tt)))) Zero (field_texts (setting Plain k) (first_field field value fs)) (fields_line k (first_field field value fs) h.2)))
  plain_line k (tuple_of [] no_documents) h = absurd (name_some Debug h)
  plain_line k (tuple_of (c ∷ name) no_documents) h = without_append is_line_feed (c ∷ name) [] (name_line (c ∷ name) h) tt
  plain_line k (tuple_of [] (first_document d ds)) h = tail_line Unnamed k (texts (setting Plain k) (first_document d ds)) (plain_line k d h.1, documents_line k ds h.2)
  plain_line k (tuple_of (c ∷ name) (first_document d ds)) h =
      without_append is_line_feed (c ∷ name) _ (name_line (c ∷ name) h.0) (tail_line Tuple k (texts (setting Plain k) (first_document d ds)) (plain_line k d h.1, documents_line k ds h.2))
  plain_line k (pretty_part d) h = absurd h

  documents_line : (k : ℕ) (ds : Documents) → AreBuilt Debug ds → AreLines (texts (setting Plain k) ds)
  documents_line k no_documents h = tt
  documents_line k (first_document d ds) h = (plain_line k d h.0, documents_line k ds h.1)

  pairs_line : (k : ℕ) (ps : Pairs) → PairsAreBuilt Debug ps → AreLines (pair_texts (setting Plain k) ps)
  pairs_line k no_pairs h = tt
  pairs_line k (first_pair key value ps) h = (keyed _ _ (plain_line k key h.0) (plain_line k value h.1), pairs_line k ps h.2)

  fields_line : (k : ℕ) (fs : Fields) → FieldsAreBuilt Debug fs → AreLines (field_texts (setting Plain k) fs)
  fields_line k no_fields h = tt
  fields_line k (first_field name value fs) h = (keyed _ _ (name_line name h.0) (plain_line k value h.1), fields_line k fs h.2)
