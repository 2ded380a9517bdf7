-- A name is still a name if more bytes of a name are put before it.
use Rattle.std.proofs.Common.{◌≡◌, ◌≢◌, inl, inr, ◌∙◌, refl, ap, sym, subst, ℕ, ◌==◌, ◌&&◌, not, true, false, List, [], ◌∷◌, ◌++◌, arith}
use Rattle.std.proofs.lemmas.Bool.Decides.{nat_tests}
use Rattle.std.proofs.lemmas.Bool.{and_from, cases_Bool, cond-false}
use Rattle.std.proofs.lemmas.Str.{IsUtf8-append, IsUtf8-from_is_utf8, is_utf8-from_IsUtf8}
use Rattle.std.specs.Str.{is_utf8}
use Rattle.ufmt.specs.Document.{tuple_of, no_documents}
use Rattle.ufmt.specs.Leaves.{EndsLeaf, IsDebugWord, begins_quote, ends_in_colon, has_name_bytes, is_debug_byte, is_in_word, is_name_byte, is_quote, is_spaced, outside}
use Rattle.ufmt.specs.Token.{IsName}
use Rattle.ufmt_grammar.proofs.ClassTokens.{tokens_are_debug}
use Rattle.ufmt_grammar.proofs.DebugLeaves.{both, from_beginning}
use Rattle.ufmt_grammar.specs.declared.class.Class.{Class}
use Rattle.ufmt_grammar.specs.declared.class.Class.TheVariants.{Token, Debug}
use Rattle.ufmt_values.proofs.LastWords.{LastWord, last_word_is}
use Rattle.ufmt_values.specs.Fronts.{MayNameFollow}

-- ---- bytes of names

name_no_space : (c : ℕ) → is_name_byte c ≡ true → (c == 32) ≡ false
name_no_space c named = grind (arith, nat_tests)

name_no_quote : (c : ℕ) → is_name_byte c ≡ true → is_quote c ≡ false
name_no_quote c named = grind (arith, nat_tests)

-- a byte of a name other than a colon is a byte of a word
name_debug : (c : ℕ) → is_name_byte c ≡ true → (c == 58) ≡ false → is_debug_byte c ≡ true
name_debug c named other = grind arith

-- the text doesn't begin with a space or a quote
record NoneAhead (t : List ℕ) : Type 0 where
  unspaced : is_spaced t ≡ false
  unquoted : begins_quote t ≡ false

none_ahead : (t : List ℕ) → has_name_bytes t ≡ true → NoneAhead t
none_ahead [] named = record { unspaced = refl; unquoted = refl }
none_ahead (c ∷ t) named =
    let parts = both (is_name_byte c) (has_name_bytes t) named in
    record { unspaced = rw (name_no_space c parts.0) refl; unquoted = name_no_quote c parts.0 }

-- before such a text, each byte of a name is in a word
in_word : (c : ℕ) (t : List ℕ) → is_name_byte c ≡ true → NoneAhead t → is_in_word c t ≡ true
in_word c t named ahead = elim (cases_Bool (c == 58)) [
  | inl is ↦ rw (is, ahead.unspaced) refl
  | inr is ↦ cond-false (c == 58) (not (is_spaced t)) (is_debug_byte c && not (c == 92 && begins_quote t)) is
      ∙ and_from (is_debug_byte c) (not (c == 92 && begins_quote t)) (name_debug c named is) (rw ahead.unquoted (grind arith))
]

-- ---- names

-- bytes of a name are a leaf
name_ends : (w : List ℕ) → has_name_bytes w ≡ true → EndsLeaf outside w
name_ends [] named = refl
name_ends (c ∷ w) named =
    let parts = both (is_name_byte c) (has_name_bytes w) named in
    (outside, rw (in_word c w parts.0 (none_ahead w parts.1)) refl, name_ends w parts.1)

bytes_append : (a b : List ℕ) → has_name_bytes a ≡ true → has_name_bytes b ≡ true → has_name_bytes (a ++ b) ≡ true
bytes_append [] b first second = second
bytes_append (c ∷ a) b first second =
    let parts = both (is_name_byte c) (has_name_bytes a) first in
    rw (parts.0, bytes_append a b parts.1 second) refl

-- if something follows a text, its last byte decides
ends_append : (a : List ℕ) (c : ℕ) (w : List ℕ) → ends_in_colon (a ++ c ∷ w) ≡ ends_in_colon (c ∷ w)
ends_append [] c w = refl
ends_append (b ∷ []) c w = refl
ends_append (b ∷ d ∷ a) c w = ends_append (d ∷ a) c w

some_append : (a : List ℕ) (c : ℕ) (w : List ℕ) → a ++ c ∷ w ≢ []
some_append [] c w = λ none. absurd (cc)
some_append (b ∷ a) c w = λ none. absurd (cc)

longer_word : (a : List ℕ) (c : ℕ) (w : List ℕ) → has_name_bytes a ≡ true → is_utf8 a ≡ true → IsDebugWord (c ∷ w) → IsDebugWord (a ++ c ∷ w)
longer_word a c w named utf8 h =
    let bytes = bytes_append a (c ∷ w) named h.bytes in
    record {
      whole = record {
        some = some_append a c w;
        pieces = from_beginning (a ++ c ∷ w) (name_ends (a ++ c ∷ w) bytes);
        utf8 = is_utf8-from_IsUtf8 (a ++ c ∷ w) (IsUtf8-append a (c ∷ w) (IsUtf8-from_is_utf8 a utf8) (IsUtf8-from_is_utf8 (c ∷ w) h.whole.utf8));
      };
      bytes = bytes;
      ends = ends_append a c w ∙ h.ends;
    }

-- ---- after a front

-- a name of token documents is a name of debug documents too
pub debug_name : (class : Class) (w : List ℕ) → IsName class w → IsName Debug w
debug_name Token w h = (tokens_are_debug (tuple_of w no_documents) (h, omega arith)).0
debug_name Debug w h = h

-- a name with the last word of a front before it is a name, if one may follow the front
pub longer_name : (class : Class) (front : List ℕ) (h : LastWord front) → MayNameFollow class front → (c : ℕ) (w : List ℕ) → IsName class (c ∷ w) → IsName class (h.word ++ c ∷ w)
longer_name Token front h follows c w name = subst (λ t. IsName Token (t ++ c ∷ w)) (sym (sym (last_word_is front h) ∙ follows)) name
longer_name Debug front h follows c w name = longer_word h.word c w h.named (ap is_utf8 (sym (last_word_is front h)) ∙ follows) name
