-- What is found at a place in a text.
use Rattle.std.specs.Prelude.{◌≡◌, ◌≢◌, ℕ, ◌+◌, ◌||◌, ◌==◌, Bool, List, [], ◌∷◌, codes, take, if◌then◌else◌, IsUtf8}
use Rattle.ufmt.specs.Document.{Document, documents, joined, leaf}
use Rattle.ufmt_parse.specs.NamesBefore.{is_identifier_byte}
use Rattle.ufmt_parse.specs.declared.found.Found.{Found}
use Rattle.ufmt_parse.specs.declared.found.Found.TheVariants.{End, LineFeed, Word, Other}

-- a byte of an identifier or of a number: `-`, `+` and `.` too
abbrev pub is_found_byte : ℕ → Bool
is_found_byte c = is_identifier_byte c || (c == 45 || c == 43 || c == 46)

-- how many of them are at the front
abbrev pub word_len : List ℕ → ℕ
word_len [] = 0
word_len (c ∷ text) = if is_found_byte c then (1 + word_len text) else 0

-- the text begins with this word, which is as long as can be, isn't empty and is UTF-8
abbrev pub BeginsWithWord : List ℕ → List ℕ → Type 0
BeginsWithWord text word = (word ≡ take (word_len text) text) × (word ≢ []) × IsUtf8 word

-- a word is found if and only if the text begins with it
abbrev pub IsWordOrOther : List ℕ → Found → Type 0
IsWordOrOther left End = ⊥
IsWordOrOther left LineFeed = ⊥
IsWordOrOther left (Word word) = BeginsWithWord left word.now
IsWordOrOther left Other = (word : List ℕ) → ¬ BeginsWithWord left word

-- what is found if this is left of the text: the end if and only if nothing is, a line feed if and only if that is all
abbrev pub IsFound : List ℕ → Found → Type 0
IsFound left End = left ≡ []
IsFound left LineFeed = left ≡ codes "\n"
IsFound left (Word word) = BeginsWithWord left word.now
IsFound left Other = (left ≢ []) × (left ≢ codes "\n") × ((word : List ℕ) → ¬ BeginsWithWord left word)

-- how it reads after what is expected
abbrev pub found_document : Found → Document
found_document End = leaf (codes ", found the end of the text")
found_document LineFeed = leaf (codes ", found one last line feed")
found_document (Word word) = joined (documents (leaf (codes ", found `") ∷ leaf word.now ∷ leaf (codes "`") ∷ []))
found_document Other = leaf []
