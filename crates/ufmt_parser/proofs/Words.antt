-- Words as leaves of debug documents, and names that pass the test of a name.
use Rattle.std.proofs.Common.{◌≡◌, ◌≢◌, refl, ℕ, ◌==◌, ◌||◌, not, Bool, true, false, List, [], ◌∷◌, inl, arith}
use Rattle.std.proofs.Math.Bool.{and-false}
use Rattle.std.proofs.lemmas.Bool.{and_parts, not-true}
use Rattle.std.proofs.lemmas.Bool.Decides.{nat_tests}
use Rattle.std.specs.Str.{IsUtf8}
use Rattle.std.proofs.lemmas.Str.{is_utf8-from_IsUtf8}
use Rattle.ufmt_core.specs.Document.{leaf}
use Rattle.ufmt_grammar.specs.declared.class.Class.TheVariants.{Debug}
use Rattle.ufmt_grammar.specs.Leaves.{EndsLeaf, IsName, IsWord, OrEmpty, beginning, begins_quote, ends_in_colon, has_name_bytes, is_debug_byte, is_in_word, is_quote, is_spaced, outside}
use Rattle.ufmt_grammar.specs.Token.{IsBuilt}
use Rattle.ufmt_grammar.proofs.ClassTokens.{tokens_are_debug}
use Rattle.ufmt_grammar.proofs.DebugLeaves.{from_beginning}
use Rattle.ufmt_parser.specs.Naming.{are_debug_names, is_debug_name, is_debug_name_or_empty}
use Rattle.ufmt_parser.specs.Fields.{AreNames}

pub word_is_leaf : (word : List ℕ) → IsWord word → IsBuilt Debug (leaf word)
word_is_leaf word is = (tokens_are_debug (leaf word) (record { shape = inl is }, omega arith)).0

-- ---- names that pass the test

-- its bytes, and its end
name_parts : (name : List ℕ) → is_debug_name_or_empty name ≡ true → (has_name_bytes name ≡ true) × (ends_in_colon name ≡ false)
name_parts name h = let parts = and_parts (has_name_bytes name) (not (ends_in_colon name)) h in (parts.0, not-true (ends_in_colon name) parts.1)

-- such a byte is no bracket, for one
pub begins_name : (c : ℕ) (name : List ℕ) → is_debug_name (c ∷ name) ≡ true → is_debug_byte c || c == 58 ≡ true
begins_name c name h = (and_parts (is_debug_byte c || c == 58) (has_name_bytes name) (name_parts (c ∷ name) h).0).0

pub name_ends_in_no_colon : (name : List ℕ) → is_debug_name name ≡ true → ends_in_colon name ≡ false
name_ends_in_no_colon [] h = refl
name_ends_in_no_colon (c ∷ name) h = (name_parts (c ∷ name) h).1

-- such a byte begins no space and no quotes
name_byte_next : (b : ℕ) (t : List ℕ) → is_debug_byte b || b == 58 ≡ true → (is_spaced (b ∷ t) ≡ false) × (begins_quote (b ∷ t) ≡ false)
name_byte_next b t h = (rw none.0 refl, none.1)
  where
    none : ((b == 32) ≡ false) × (is_quote b ≡ false)
    none = (grind (arith, nat_tests), grind (arith, nat_tests))

bytes_end : (name : List ℕ) → has_name_bytes name ≡ true → EndsLeaf outside name
bytes_end [] h = refl
bytes_end (c ∷ name) h =
    let parts = and_parts (is_debug_byte c || c == 58) (has_name_bytes name) h in
    (outside, rw (in_word name parts.1 (is_debug_byte c) (c == 58) refl refl parts.0) refl, bytes_end name parts.1)
  where
    next : (name : List ℕ) → has_name_bytes name ≡ true → (is_spaced name ≡ false) × (begins_quote name ≡ false)
    next [] h = (refl, refl)
    next (b ∷ t) h = name_byte_next b t (and_parts (is_debug_byte b || b == 58) (has_name_bytes t) h).0

    in_word : (name : List ℕ) → has_name_bytes name ≡ true → (word colon : Bool) → is_debug_byte c ≡ word → (c == 58) ≡ colon → word || colon ≡ true → is_in_word c name ≡ true
    in_word name named word true e f h = rw (f, (next name named).0) refl
    in_word name named true false e f h = rw (e, f, (next name named).1, and-false (c == 92)) refl
    in_word name named false false e f h = absurd (cc)

pub name_ends : (name : List ℕ) → is_debug_name name ≡ true → EndsLeaf beginning name
name_ends [] h = refl
name_ends (c ∷ name) h = from_beginning (c ∷ name) (bytes_end (c ∷ name) (name_parts (c ∷ name) h).0)

pub name_is_some : (name : List ℕ) → is_debug_name name ≡ true → name ≢ []
name_is_some [] h = absurd (cc)
name_is_some (c ∷ name) h = λ none. absurd (cc)

pub name_is : (name : List ℕ) → IsUtf8 name → is_debug_name name ≡ true → IsName Debug name
name_is [] utf8 h = absurd (cc)
name_is (c ∷ name) utf8 h = record {
  whole = record { some = λ none. absurd (cc); pieces = from_beginning (c ∷ name) (bytes_end (c ∷ name) (name_parts (c ∷ name) h).0); utf8 = is_utf8-from_IsUtf8 (c ∷ name) utf8 };
  bytes = (name_parts (c ∷ name) h).0;
  ends = (name_parts (c ∷ name) h).1;
}

-- a tuple's name may be empty
pub tuple_name_is : (name : List ℕ) → IsUtf8 name → is_debug_name_or_empty name ≡ true → OrEmpty (IsName Debug) name
tuple_name_is [] utf8 h = tt
tuple_name_is (c ∷ name) utf8 h = name_is (c ∷ name) utf8 h

abbrev pub AreUtf8 : List (List ℕ) → Type 0
AreUtf8 [] = Unit {0}
AreUtf8 (name ∷ names) = IsUtf8 name × AreUtf8 names

pub names_are : (names : List (List ℕ)) → AreUtf8 names → are_debug_names names ≡ true → AreNames names
names_are [] utf8 h = tt
names_are (name ∷ names) utf8 h = let parts = and_parts (is_debug_name name) (are_debug_names names) h in (name_is name utf8.0 parts.0, names_are names utf8.1 parts.1)

-- ---- each name of a debug document passes it, for a caller that knows only that

pub passes : (name : List ℕ) → IsName Debug name → is_debug_name name ≡ true
passes [] is = absurd (is.whole.some refl)
passes (c ∷ name) is = rw (is.bytes, is.ends) refl
