-- The name of a field, or the key of an entry, that ends right before a place in a text.
use Rattle.std.specs.Prelude.{◌≡◌, ◌≢◌, ◌↔◌, ℕ, ◌||◌, ◌==◌, nat_le, Bool, false, List, [], ◌∷◌, ◌++◌, Option, None, Some, codes, IsUtf8}
use Rattle.std.specs.Char.{is_ascii_alphanumeric}
use Rattle.std.specs.List.{AllPass}
use Rattle.ufmt_core.specs.Bytes.{underscore}
use Rattle.ufmt_core.specs.Document.{Document, documents, joined, leaf}

-- a byte that an identifier may have: an ASCII letter, a digit, `_` or a byte of a character past ASCII. Names of this page have only such bytes; names of debug documents may have others
abbrev pub is_identifier_byte : ℕ → Bool
is_identifier_byte c = is_ascii_alphanumeric c || c == underscore || nat_le 128 c

-- the text ends with this name, a colon and a space. A name is UTF-8, isn't empty, and is as long as can be: the byte before it is none of a name
pub record EndsWithName (text name : List ℕ) : Type 0 where
  pub front : List ℕ
  pub parts : text ≡ front ++ name ++ codes ": "
  pub not_empty : name ≢ []
  pub bytes : AllPass is_identifier_byte name
  pub longest : (others : List ℕ) (c : ℕ) → front ≡ others ++ c ∷ [] → is_identifier_byte c ≡ false
  pub utf8 : IsUtf8 name

-- the name with which the text before a place ends, if it ends with one
abbrev pub IsNameBefore : List ℕ → Option (List ℕ) → Type 0
IsNameBefore before found = (name : List ℕ) → (found ≡ Some name) ↔ EndsWithName before name

-- how the name reads after the line and the column
abbrev pub after_document : Option (List ℕ) → Document
after_document None = leaf []
after_document (Some name) = joined (documents (leaf (codes ", after `") ∷ leaf name ∷ leaf (codes ": `") ∷ []))
