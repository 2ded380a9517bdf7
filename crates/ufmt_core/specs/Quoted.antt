-- Texts and characters in quotes, as `{:?}` prints them; each character past ASCII prints as itself.
use Rattle.std.specs.Prelude.{◌≡◌, ◌⊎◌, ℕ, ◌/◌, ◌%◌, ◌==◌, ◌||◌, nat_lt, if◌then◌else◌, suc, is_none, List, [], ◌∷◌, ◌++◌, codes, true, Option, Some, None, unwrap_or, encode_utf8}
use Rattle.std.specs.Char.{IsScalar, digit_char}
use Rattle.std.specs.Str.{all_scalars}
use Rattle.ufmt_core.specs.Bytes.{apostrophe, backslash, carriage_return, delete, line_feed, nul, quotation_mark, space, tab}

abbrev pub IsQuote : ℕ → Type 0
IsQuote quote = (quote ≡ quotation_mark) ⊎ (quote ≡ apostrophe)

-- a number below 256 in hexadecimal: in lower case and without leading zeros
abbrev pub hex_digits : ℕ → List ℕ
hex_digits c = if nat_lt c 16 then digit_char c ∷ [] else digit_char (c / 16) ∷ digit_char (c % 16) ∷ []

-- the escape of a character between two of these quotes, by the first row that fits; None if it prints as itself
abbrev pub escape : ℕ → ℕ → Option (List ℕ)
escape quote c =
    if c == nul then Some (codes "\\0") else
    if c == tab then Some (codes "\\t") else
    if c == line_feed then Some (codes "\\n") else
    if c == carriage_return then Some (codes "\\r") else
    if c == backslash || c == quote then Some (backslash ∷ c ∷ []) else
    if nat_lt c space || c == delete then Some (codes "\\u{" ++ (hex_digits c ++ codes "}")) else None

-- the text of a character between two of these quotes
abbrev pub escaped : ℕ → ℕ → List ℕ
escaped quote c = unwrap_or (escape quote c) (encode_utf8 c)

-- the text of characters in a row
abbrev pub escaped_all : ℕ → List ℕ → List ℕ
escaped_all quote [] = []
escaped_all quote (c ∷ cs) = escaped quote c ++ escaped_all quote cs

-- characters between two of these quotes, and the quotes
abbrev pub quoted : ℕ → List ℕ → List ℕ
quoted quote cs = quote ∷ (escaped_all quote cs ++ quote ∷ [])

abbrev pub quoted_text : List ℕ → List ℕ
quoted_text cs = quoted quotation_mark cs

abbrev pub quoted_char : ℕ → List ℕ
quoted_char c = quoted apostrophe (c ∷ [])

-- a quoted text or a quoted character
abbrev pub IsQuoted : List ℕ → Type 0
IsQuoted text = ((cs : List ℕ) × (all_scalars cs ≡ true) × (text ≡ quoted_text cs)) ⊎ ((c : ℕ) × IsScalar c × (text ≡ quoted_char c))

-- the text of a byte between two of these quotes, as `escaped` byte by byte: a byte past ASCII prints as itself
abbrev pub escaped_byte : ℕ → ℕ → List ℕ
escaped_byte quote b = unwrap_or (escape quote b) (b ∷ [])

abbrev pub escaped_bytes : ℕ → List ℕ → List ℕ
escaped_bytes quote [] = []
escaped_bytes quote (b ∷ bs) = escaped_byte quote b ++ escaped_bytes quote bs

-- how many bytes at the front print as themselves in quotation marks
abbrev pub unescaped_len : List ℕ → ℕ
unescaped_len [] = 0
unescaped_len (b ∷ bs) = if is_none (escape quotation_mark b) then suc (unescaped_len bs) else 0
