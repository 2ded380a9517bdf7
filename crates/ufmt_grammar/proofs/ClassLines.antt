-- A document of a class has no line feed in a leaf or a name.
use Rattle.std.proofs.Common.{◌≡◌, ◌≢◌, ℕ, List, [], ◌∷◌, Some, true, codes, sym, subst, inl, inr, arith}
use Rattle.std.proofs.lemmas.Bool.{false≢true}
use Rattle.ufmt_core.specs.Document.{Document, leaf, joined, list_of, set_of, map_of, struct_of, non_exhaustive_of, tuple_of, pretty_part, Documents, no_documents, first_document, Pairs, no_pairs, first_pair, Fields, no_fields, first_field}
use Rattle.ufmt_core.specs.Shift.{IsOneLine, HasNoLineFeed, HaveNoLineFeed, PairsHaveNoLineFeed, FieldsHaveNoLineFeed}
use Rattle.ufmt_grammar.specs.Token.{Class, Token, Debug, is_word_byte, IsWordOrEmpty, IsWord, IsTokenLeaf, OrEmpty, IsName, IsLeaf, IsBuilt, AreBuilt, PairsAreBuilt, FieldsAreBuilt}
use Rattle.ufmt_grammar.specs.Leaves.{Place, beginning, outside, after_quotes, in_parentheses, in_word, in_address, after_address, between, after_backslash, place_after, EndsLeaf}
use Rattle.ufmt_grammar.proofs.QuotedLines.{quoted_is_one_line}

is_word_byte-line_feed : (c : ℕ) → is_word_byte c ≡ true → c ≢ 10
is_word_byte-line_feed c h = λ e. false≢true (subst (λ b. is_word_byte b ≡ true) e h)

IsWordOrEmpty-IsOneLine : (text : List ℕ) → IsWordOrEmpty text → IsOneLine text
IsWordOrEmpty-IsOneLine [] h = tt
IsWordOrEmpty-IsOneLine (c ∷ text) h = (is_word_byte-line_feed c h.0, IsWordOrEmpty-IsOneLine text h.1)

IsWord-IsOneLine : (text : List ℕ) → IsWord text → IsOneLine text
IsWord-IsOneLine [] h = absurd h
IsWord-IsOneLine (c ∷ text) h = IsWordOrEmpty-IsOneLine (c ∷ text) h

IsTokenLeaf-IsOneLine : (text : List ℕ) → IsTokenLeaf text → IsOneLine text
IsTokenLeaf-IsOneLine text h =
    let unit : IsOneLine (codes "()") = (λ e. omega (arith, e), (λ e. omega (arith, e), tt))
    in elim h.shape [ inl w ↦ IsWord-IsOneLine text w | inr symbol ↦ elim symbol [ inl e ↦ subst IsOneLine (sym e) unit | inr quoted ↦ quoted_is_one_line text quoted ] ]

-- no line feed belongs to a leaf of a debug document
leaf_byte_no_line_feed : (place : Place) (c : ℕ) (t : List ℕ) (next : Place) → place_after place c t ≡ Some next → c ≢ 10
leaf_byte_no_line_feed place c t next h = λ e. none place (subst (λ b. place_after place b t ≡ Some next) e h)
  where
    none : (place : Place) → place_after place 10 t ≡ Some next → ⊥
    none beginning k = absurd (cc)
    none outside k = absurd (cc)
    none after_quotes k = absurd (cc)
    none in_parentheses k = absurd (cc)
    none in_word k = absurd (cc)
    none in_address k = absurd (cc)
    none after_address k = absurd (cc)
    none (between quote) k = absurd (cc)
    none (after_backslash quote) k = absurd (cc)

EndsLeaf-IsOneLine : (place : Place) (text : List ℕ) → EndsLeaf place text → IsOneLine text
EndsLeaf-IsOneLine place [] h = tt
EndsLeaf-IsOneLine place (c ∷ text) h = (leaf_byte_no_line_feed place c text h.0 h.1, EndsLeaf-IsOneLine h.0 text h.2)

name_line : (class : Class) (name : List ℕ) → IsName class name → IsOneLine name
name_line Token name h = IsWord-IsOneLine name h
name_line Debug name h = EndsLeaf-IsOneLine beginning name h.whole.pieces

tuple_name_line : (class : Class) (name : List ℕ) → OrEmpty (IsName class) name → IsOneLine name
tuple_name_line class [] h = tt
tuple_name_line class (c ∷ name) h = name_line class (c ∷ name) h

leaf_line : (class : Class) (text : List ℕ) → IsLeaf class text → IsOneLine text
leaf_line Token text h = IsTokenLeaf-IsOneLine text h
leaf_line Debug text h = EndsLeaf-IsOneLine beginning text h.pieces

module _ (class : Class) where
  mutual
    pub IsBuilt-HasNoLineFeed : (d : Document) → IsBuilt class d → HasNoLineFeed d
    IsBuilt-HasNoLineFeed (leaf text) h = leaf_line class text h
    IsBuilt-HasNoLineFeed (joined ds) h = absurd h
    IsBuilt-HasNoLineFeed (list_of ds) h = AreBuilt-HaveNoLineFeed ds h
    IsBuilt-HasNoLineFeed (set_of ds) h = AreBuilt-HaveNoLineFeed ds h
    IsBuilt-HasNoLineFeed (map_of ps) h = PairsAreBuilt-HaveNoLineFeed ps h
    IsBuilt-HasNoLineFeed (struct_of name fs) h = (name_line class name h.0, FieldsAreBuilt-HaveNoLineFeed fs h.1)
    IsBuilt-HasNoLineFeed (tuple_of name no_documents) h = (name_line class name h, tt)
    IsBuilt-HasNoLineFeed (tuple_of name (first_document d ds)) h = (tuple_name_line class name h.0, (IsBuilt-HasNoLineFeed d h.1, AreBuilt-HaveNoLineFeed ds h.2))
    IsBuilt-HasNoLineFeed (non_exhaustive_of name fs) h = (name_line class name h.1, FieldsAreBuilt-HaveNoLineFeed fs h.2)
    IsBuilt-HasNoLineFeed (pretty_part d) h = absurd h

    AreBuilt-HaveNoLineFeed : (ds : Documents) → AreBuilt class ds → HaveNoLineFeed ds
    AreBuilt-HaveNoLineFeed no_documents h = tt
    AreBuilt-HaveNoLineFeed (first_document d ds) h = (IsBuilt-HasNoLineFeed d h.0, AreBuilt-HaveNoLineFeed ds h.1)

    PairsAreBuilt-HaveNoLineFeed : (ps : Pairs) → PairsAreBuilt class ps → PairsHaveNoLineFeed ps
    PairsAreBuilt-HaveNoLineFeed no_pairs h = tt
    PairsAreBuilt-HaveNoLineFeed (first_pair key value ps) h = (IsBuilt-HasNoLineFeed key h.0, IsBuilt-HasNoLineFeed value h.1, PairsAreBuilt-HaveNoLineFeed ps h.2)

    FieldsAreBuilt-HaveNoLineFeed : (fs : Fields) → FieldsAreBuilt class fs → FieldsHaveNoLineFeed fs
    FieldsAreBuilt-HaveNoLineFeed no_fields h = tt
    FieldsAreBuilt-HaveNoLineFeed (first_field name value fs) h =
        (name_line class name h.0, IsBuilt-HasNoLineFeed value h.1, FieldsAreBuilt-HaveNoLineFeed fs h.2)
