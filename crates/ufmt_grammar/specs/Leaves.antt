-- The names and leaves of each class of documents whose texts can be read again, and what may follow such a text.
use Rattle.std.specs.Prelude.{◌≡◌, ◌≢◌, ◌⊎◌, ℕ, ◌&&◌, ◌||◌, ◌==◌, nat_le, nat_lt, not, if◌then◌else◌, List, [], ◌∷◌, Bool, true, false, Option, Some, None, codes, ⊤}
use Rattle.std.specs.Str.{is_utf8}
use Rattle.ufmt_core.specs.Bytes.{apostrophe, backslash, closing_brace, closing_bracket, closing_parenthesis, colon, comma, delete, hyphen, lower_a, lower_z, nine_digit, opening_brace, opening_bracket, opening_parenthesis, quotation_mark, space, underscore, upper_a, upper_z, zero_digit}
use Rattle.ufmt_core.specs.Quoted.{IsQuoted}
pub use Rattle.ufmt_grammar.specs.declared.class.Class.{Class}
pub use Rattle.ufmt_grammar.specs.declared.class.Class.TheVariants.{Token, Debug}

-- ---- token documents

abbrev pub is_within : ℕ → ℕ → ℕ → Bool
is_within low high c = nat_le low c && nat_le c high

-- a word byte is an ASCII digit, an ASCII letter, `_` or `-`
abbrev pub is_word_byte : ℕ → Bool
is_word_byte c = is_within zero_digit nine_digit c || is_within upper_a upper_z c || is_within lower_a lower_z c || c == underscore || c == hyphen

-- a word, or empty
abbrev pub IsWordOrEmpty : List ℕ → Type 0
IsWordOrEmpty [] = ⊤
IsWordOrEmpty (c ∷ text) = (is_word_byte c ≡ true) × IsWordOrEmpty text

-- a word is one or more word bytes
abbrev pub IsWord : List ℕ → Type 0
IsWord [] = ⊥
IsWord (c ∷ text) = (is_word_byte c ≡ true) × IsWordOrEmpty text

-- an unquoted leaf is a word or `()`
abbrev pub IsUnquotedLeaf : List ℕ → Type 0
IsUnquotedLeaf text = IsWord text ⊎ (text ≡ codes "()")

-- a symbol is a leaf that is no word: `()`, or a quoted text or character
abbrev pub IsSymbol : List ℕ → Type 0
IsSymbol text = (text ≡ codes "()") ⊎ IsQuoted text

-- a token leaf, which can be read again, is a word or a symbol
pub record IsTokenLeaf (text : List ℕ) : Type 0 where
  pub shape : IsWord text ⊎ IsSymbol text

-- a closer is a comma, a colon or a closing bracket
abbrev pub is_closer : ℕ → Bool
is_closer c = c == comma || c == colon || c == closing_bracket || c == closing_parenthesis || c == closing_brace

-- a follower may come after a token document in a larger text: it is empty, or begins with a closer or with a space and `}`
abbrev pub IsFollower : List ℕ → Type 0
IsFollower [] = ⊤
IsFollower (c ∷ []) = is_closer c ≡ true
IsFollower (c ∷ b ∷ text) = (is_closer c ≡ true) ⊎ ((c ≡ space) × (b ≡ closing_brace))

-- ---- debug documents

abbrev pub is_control : ℕ → Bool
is_control c = nat_lt c space || c == delete

abbrev pub is_quote : ℕ → Bool
is_quote c = c == quotation_mark || c == apostrophe

-- `(`, `[` or `{`
abbrev pub is_opening : ℕ → Bool
is_opening c = c == opening_parenthesis || c == opening_bracket || c == opening_brace

-- a comma or a closing bracket ends a leaf
abbrev pub is_ender : ℕ → Bool
is_ender c = c == comma || c == closing_bracket || c == closing_parenthesis || c == closing_brace

-- a word of a debug document has any byte but controls, spaces, quotes, brackets and commas; colons are looked at below
abbrev pub is_debug_byte : ℕ → Bool
is_debug_byte c = nat_le c 255 && not (is_control c || c == space || is_quote c || is_opening c || is_ender c || c == colon)

-- whether the text begins with this byte
abbrev pub begins_with : ℕ → List ℕ → Bool
begins_with byte [] = false
begins_with byte (c ∷ t) = c == byte

abbrev pub begins_quote : List ℕ → Bool
begins_quote [] = false
begins_quote (c ∷ t) = is_quote c

-- a space comes next, and no closing brace after it. Then a colon before it ends a leaf
abbrev pub is_spaced : List ℕ → Bool
is_spaced [] = false
is_spaced (c ∷ t) = c == space && not (begins_with closing_brace t)

-- whether a byte outside of quotes is one of a leaf's words, before this rest of the text: a colon, but for the one that ends a key, or a byte of a word, but for a backslash before a quote
abbrev pub is_in_word : ℕ → List ℕ → Bool
is_in_word c t = if c == colon then not (is_spaced t) else is_debug_byte c && not (c == backslash && begins_quote t)

-- a byte of a word that is in it whatever follows
abbrev pub is_plain_byte : ℕ → Bool
is_plain_byte c = is_debug_byte c && not (c == backslash)

-- a byte that a name may have
abbrev pub is_name_byte : ℕ → Bool
is_name_byte c = is_debug_byte c || c == colon

-- whether the text begins with a byte of a word that is in it whatever follows
abbrev pub begins_plain : List ℕ → Bool
begins_plain [] = false
begins_plain (c ∷ t) = is_plain_byte c

-- what is left of a text after the bytes at its front that are such
abbrev pub past : (ℕ → Bool) → List ℕ → List ℕ
past is [] = []
past is (c ∷ t) = if is c then past is t else c ∷ t

-- a word, and then the parenthesis that closes it
abbrev pub is_word_closed : List ℕ → Bool
is_word_closed [] = false
is_word_closed (c ∷ t) = is_debug_byte c && begins_with closing_parenthesis (past is_debug_byte t)

-- the bracket that closes an address, a colon, and the byte of a word
abbrev pub is_port : List ℕ → Bool
is_port (c ∷ b ∷ d ∷ t) = c == closing_bracket && b == colon && is_plain_byte d
is_port t = false

-- bytes of words and colons, and then what closes such an address
abbrev pub is_address_closed : List ℕ → Bool
is_address_closed [] = false
is_address_closed (c ∷ t) = is_name_byte c && is_port (past is_name_byte t)

-- ---- apostrophes

-- a byte of a character in UTF-8 after its first
abbrev pub is_continuation : ℕ → Bool
is_continuation c = is_within 128 191 c

-- a byte that an escape may have after its first: a letter, a digit or a brace
abbrev pub is_escape_byte : ℕ → Bool
is_escape_byte c = is_within zero_digit nine_digit c || is_within upper_a upper_z c || is_within lower_a lower_z c || c == opening_brace || c == closing_brace

-- what a backslash takes, and then an apostrophe
abbrev pub is_escape_closed : List ℕ → Bool
is_escape_closed [] = false
is_escape_closed (c ∷ t) = not (is_control c || nat_le 128 c) && begins_with apostrophe (past is_escape_byte t)

-- one character or one escape, and then an apostrophe
abbrev pub is_character_closed : List ℕ → Bool
is_character_closed [] = false
is_character_closed (c ∷ t) = if c == backslash then is_escape_closed t else not (is_control c || c == apostrophe) && begins_with apostrophe (past is_continuation t)

-- whether a byte outside of quotes opens some, before this rest of the text
abbrev pub opens_quotes : ℕ → List ℕ → Bool
opens_quotes c t = c == quotation_mark || c == apostrophe && is_character_closed t

-- an apostrophe that opens none, before a byte of a word: that of a lifetime
abbrev pub is_lifetime : ℕ → List ℕ → Bool
is_lifetime c t = c == apostrophe && begins_plain t

-- ---- places

-- a place in a leaf: before its first byte; outside of quotes; right after a closing quote; between the parentheses of `()`; in a word in parentheses, or an address in brackets, at the leaf's start, and right after these brackets; between two of these quotes, or there after a backslash
pub data Place : Type 0 where
  beginning : Place
  outside : Place
  after_quotes : Place
  in_parentheses : Place
  in_word : Place
  in_address : Place
  after_address : Place
  between : ℕ → Place
  after_backslash : ℕ → Place

-- whether a leaf may end at this place
abbrev pub is_outside : Place → Bool
is_outside beginning = true
is_outside outside = true
is_outside after_quotes = true
is_outside in_parentheses = false
is_outside in_word = false
is_outside in_address = false
is_outside after_address = false
is_outside (between quote) = false
is_outside (after_backslash quote) = false

-- the place after a byte that is outside of quotes: in a word, in quotes, in a word again after a lifetime's apostrophe, or in `()`
abbrev pub place_outside : ℕ → List ℕ → Option Place
place_outside c t =
    if is_in_word c t then Some outside else if opens_quotes c t then Some (between c) else if is_lifetime c t then Some outside else if c == opening_parenthesis && begins_with closing_parenthesis t then Some in_parentheses else None

-- the place after a byte of a leaf; None if the byte, with the rest of the text after it, doesn't belong to the leaf. No colon belongs to it right after a closing quote
abbrev pub place_after : Place → ℕ → List ℕ → Option Place
place_after beginning c t =
    if c == opening_parenthesis && is_word_closed t then Some in_word else if c == opening_bracket && is_address_closed t then Some in_address else place_outside c t
place_after outside c t = place_outside c t
place_after after_quotes c t = if c == colon then None else place_outside c t
place_after in_parentheses c t = if c == closing_parenthesis then Some outside else None
place_after in_word c t = if c == closing_parenthesis then Some outside else if is_debug_byte c then Some in_word else None
place_after in_address c t = if c == closing_bracket then Some after_address else if is_name_byte c then Some in_address else None
place_after after_address c t = if c == colon then Some outside else None
place_after (between quote) c t = if is_control c then None else if c == quote then Some after_quotes else if c == backslash then Some (after_backslash quote) else Some (between quote)
place_after (after_backslash quote) c t = if is_control c || nat_le 128 c then None else Some (between quote)

-- these bytes are the rest of a leaf from this place on, and its quotes are closed
abbrev pub EndsLeaf : Place → List ℕ → Type 0
EndsLeaf place [] = is_outside place ≡ true
EndsLeaf place (c ∷ t) = (next : Place) × (place_after place c t ≡ Some next) × EndsLeaf next t

-- a debug leaf, which can be read again: words, lifetimes, texts in quotes and `()` in a row, in UTF-8; before them there may be a word in parentheses, or an address in brackets and a colon
pub record IsDebugLeaf (text : List ℕ) : Type 0 where
  pub some : text ≢ []
  pub pieces : EndsLeaf beginning text
  pub utf8 : is_utf8 text ≡ true

-- only bytes of words and colons
abbrev pub has_name_bytes : List ℕ → Bool
has_name_bytes [] = true
has_name_bytes (c ∷ t) = is_name_byte c && has_name_bytes t

abbrev pub ends_in_colon : List ℕ → Bool
ends_in_colon [] = false
ends_in_colon (c ∷ []) = c == colon
ends_in_colon (c ∷ b ∷ t) = ends_in_colon (b ∷ t)

-- a debug word, which may be a name, is such a leaf of bytes of words and colons that doesn't end in a colon
pub record IsDebugWord (text : List ℕ) : Type 0 where
  pub whole : IsDebugLeaf text
  pub bytes : has_name_bytes text ≡ true
  pub ends : ends_in_colon text ≡ false

-- a follower of a debug document: a colon only with a space after it, and no closing brace after that
abbrev pub IsDebugFollower : List ℕ → Type 0
IsDebugFollower [] = ⊤
IsDebugFollower (c ∷ []) = is_ender c ≡ true
IsDebugFollower (c ∷ b ∷ text) = (is_ender c ≡ true) ⊎ ((c ≡ colon) × (b ≡ space) × (begins_with closing_brace text ≡ false)) ⊎ ((c ≡ space) × (b ≡ closing_brace))

-- ---- by class

abbrev pub IsName : Class → List ℕ → Type 0
IsName Token text = IsWord text
IsName Debug text = IsDebugWord text

-- a name as `Name` says, or empty
abbrev pub OrEmpty : (List ℕ → Type 0) → List ℕ → Type 0
OrEmpty Name [] = ⊤
OrEmpty Name (c ∷ text) = Name (c ∷ text)

abbrev pub IsLeaf : Class → List ℕ → Type 0
IsLeaf Token text = IsTokenLeaf text
IsLeaf Debug text = IsDebugLeaf text

-- what may follow a text of the class in a larger text
abbrev pub MayFollow : Class → List ℕ → Type 0
MayFollow Token text = IsFollower text
MayFollow Debug text = IsDebugFollower text
