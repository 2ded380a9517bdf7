-- An unquoted leaf can be read again exactly if it is a word or `()`.
use Rattle.std.proofs.Common.{inl, inr, ℕ, List}
use Rattle.std.specs.Prelude.{⊤}
use Rattle.ufmt_core.specs.Document.{Document, leaf, joined, list_of, set_of, map_of, struct_of, non_exhaustive_of, tuple_of, pretty_part, Documents, no_documents, first_document, Pairs, no_pairs, first_pair, Fields, no_fields, first_field}
use Rattle.ufmt_core.specs.Quoted.{IsQuoted}
use Rattle.ufmt_core.specs.EachText.{EachText, EachTextOfEntries, EachTextOfPairs, EachTextOfFields}
use Rattle.ufmt_grammar.specs.Token.{IsWord, IsBuiltFrom, AreBuiltFrom, PairsAreBuiltFrom, FieldsAreBuiltFrom, IsTokenLeaf, IsUnquotedLeaf}
use Rattle.ufmt_grammar.specs.UnquotedLaws.{UnquotedAsBefore}

-- leaves that are P and Q are R, whatever names are, and whether or not structs may end in dots
module _ (N M P Q R : List ℕ → Type 0) (D : Type 0) (both : (text : List ℕ) → P text → Q text → R text) where
  mutual
    IsBuiltFrom-both : (d : Document) → IsBuiltFrom N P D d → EachText M Q d → IsBuiltFrom N R D d
    IsBuiltFrom-both (leaf text) h k = both text h k
    IsBuiltFrom-both (joined ds) h k = absurd h
    IsBuiltFrom-both (list_of ds) h k = AreBuiltFrom-both ds h k
    IsBuiltFrom-both (set_of ds) h k = AreBuiltFrom-both ds h k
    IsBuiltFrom-both (map_of ps) h k = PairsAreBuiltFrom-both ps h k
    IsBuiltFrom-both (struct_of name fs) h k = (h.0, FieldsAreBuiltFrom-both fs h.1 k.1)
    IsBuiltFrom-both (non_exhaustive_of name fs) h k = (h.0, h.1, FieldsAreBuiltFrom-both fs h.2 k.1)
    IsBuiltFrom-both (tuple_of name no_documents) h k = h
    IsBuiltFrom-both (tuple_of name (first_document d ds)) h k = (h.0, IsBuiltFrom-both d h.1 k.1.0, AreBuiltFrom-both ds h.2 k.1.1)
    IsBuiltFrom-both (pretty_part d) h k = absurd h

    AreBuiltFrom-both : (ds : Documents) → AreBuiltFrom N P D ds → EachTextOfEntries M Q ds → AreBuiltFrom N R D ds
    AreBuiltFrom-both no_documents h k = tt
    AreBuiltFrom-both (first_document d ds) h k = (IsBuiltFrom-both d h.0 k.0, AreBuiltFrom-both ds h.1 k.1)

    PairsAreBuiltFrom-both : (ps : Pairs) → PairsAreBuiltFrom N P D ps → EachTextOfPairs M Q ps → PairsAreBuiltFrom N R D ps
    PairsAreBuiltFrom-both no_pairs h k = tt
    PairsAreBuiltFrom-both (first_pair key value ps) h k = (IsBuiltFrom-both key h.0 k.0, IsBuiltFrom-both value h.1 k.1, PairsAreBuiltFrom-both ps h.2 k.2)

    FieldsAreBuiltFrom-both : (fs : Fields) → FieldsAreBuiltFrom N P D fs → EachTextOfFields M Q fs → FieldsAreBuiltFrom N R D fs
    FieldsAreBuiltFrom-both no_fields h k = tt
    FieldsAreBuiltFrom-both (first_field name value fs) h k = (h.0, IsBuiltFrom-both value h.1 k.1, FieldsAreBuiltFrom-both fs h.2 k.2)

unquoted : (text : List ℕ) → IsTokenLeaf text → ¬ (IsQuoted text) → IsUnquotedLeaf text
unquoted text h no_quotes = elim h.shape [ inl word ↦ inl word | inr (inl unit) ↦ inr unit | inr (inr quoted) ↦ absurd (no_quotes quoted) ]

token : (text : List ℕ) → IsUnquotedLeaf text → ¬ (IsQuoted text) → IsTokenLeaf text
token text (inl word) no_quotes = record { shape = inl word }
token text (inr unit) no_quotes = record { shape = inr (inl unit) }

pub unquoted_as_before : UnquotedAsBefore
unquoted_as_before d no_quotes = (
  λ h. (IsBuiltFrom-both IsWord (λ name. ⊤) IsTokenLeaf (λ text. ¬ (IsQuoted text)) IsUnquotedLeaf ⊥ unquoted d h.0 no_quotes, h.1),
  λ h. (IsBuiltFrom-both IsWord (λ name. ⊤) IsUnquotedLeaf (λ text. ¬ (IsQuoted text)) IsTokenLeaf ⊥ token d h.0 no_quotes, h.1),
)
