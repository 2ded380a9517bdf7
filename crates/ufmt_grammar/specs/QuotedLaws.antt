-- The promises about quoted leaves: quoting is one-to-one, and a quoted leaf shows where it ends.
use Rattle.std.specs.Prelude.{◌≡◌, ◌≢◌, ◌⊎◌, ℕ, List, ◌++◌, Some, codes, true}
use Rattle.std.specs.Char.{IsScalar}
use Rattle.std.specs.Str.{all_scalars}
use Rattle.ufmt_core.specs.Quoted.{IsQuoted, quoted_char, quoted_text}
use Rattle.ufmt_grammar.specs.ReadingQuoted.{read_quoted}
use Rattle.ufmt_core.specs.Shift.{IsOneLine}
use Rattle.ufmt_grammar.specs.Token.{IsWord}

-- if two texts that begin with a quoted text are equal, the characters in quotes are equal, and so are the rests
abbrev pub QuotedTextDetermines : Type 0
QuotedTextDetermines = (cs ds u v : List ℕ) → all_scalars cs ≡ true → all_scalars ds ≡ true → quoted_text cs ++ u ≡ quoted_text ds ++ v → (cs ≡ ds) × (u ≡ v)

-- the same holds of texts that begin with a quoted character
abbrev pub QuotedCharDetermines : Type 0
QuotedCharDetermines = (c d : ℕ) (u v : List ℕ) → IsScalar c → IsScalar d → quoted_char c ++ u ≡ quoted_char d ++ v → (c ≡ d) × (u ≡ v)

-- no text begins with both a quoted text and a quoted character
abbrev pub QuotedTextIsNoChar : Type 0
QuotedTextIsNoChar = (cs : List ℕ) (c : ℕ) (u v : List ℕ) → quoted_text cs ++ u ≢ quoted_char c ++ v

-- if two texts that begin with a quoted leaf are equal, the leaves are equal, and so are the rests
abbrev pub QuotedEndsItself : Type 0
QuotedEndsItself = (x y u v : List ℕ) → IsQuoted x → IsQuoted y → x ++ u ≡ y ++ v → (x ≡ y) × (u ≡ v)

-- a quoted leaf is neither a word nor `()`
abbrev pub QuotedIsNoOtherLeaf : Type 0
QuotedIsNoOtherLeaf = (text : List ℕ) → IsQuoted text → ¬ (IsWord text ⊎ (text ≡ codes "()"))

-- a quoted leaf has no line feed
abbrev pub QuotedIsOneLine : Type 0
QuotedIsOneLine = (text : List ℕ) → IsQuoted text → IsOneLine text

-- each quoted leaf is read, whatever follows it
abbrev pub ReadsEachQuoted : Type 0
ReadsEachQuoted = (text u : List ℕ) → IsQuoted text → read_quoted (text ++ u) ≡ Some (text, u)

-- only a quoted leaf at the front of the text is read as one
abbrev pub ReadsOnlyQuoted : Type 0
ReadsOnlyQuoted = (t text u : List ℕ) → read_quoted t ≡ Some (text, u) → IsQuoted text × (t ≡ text ++ u)
