-- How a quoted leaf is read: a spelling is decoded to a byte, and it must be the only spelling of that byte.
use Rattle.std.specs.Prelude.{ℕ, zero, suc, ◌+◌, ◌*◌, ◌==◌, ◌&&◌, Bool, if◌then◌else◌, length, slice_index, List, [], ◌∷◌, Option, Some, None, option_and_then, option_map}
use Rattle.std.specs.Char.{digit_value}
use Rattle.std.specs.Option.{option_or}
use Rattle.std.specs.Str.{chars, is_utf8}
use Rattle.ufmt_core.specs.Bytes.{apostrophe, backslash, carriage_return, closing_brace, line_feed, lower_n, lower_r, lower_t, lower_u, nul, quotation_mark, tab, zero_digit}
use Rattle.ufmt_core.specs.Quoted.{escaped_byte, quoted}
use Rattle.ufmt_grammar.specs.Parse.{Parse, choose, parse_map, strip}

-- the number in the braces of `\u{..}` at the front: it has one hexadecimal digit, or two
abbrev pub decoded_number : List ℕ → ℕ
decoded_number t = if slice_index t 4 == closing_brace then digit_value (slice_index t 3) else digit_value (slice_index t 3) * 16 + digit_value (slice_index t 4)

-- the byte that an escape at the front, a backslash and `x`, is decoded to
abbrev pub decoded_escape : List ℕ → ℕ → ℕ
decoded_escape t x =
    if x == zero_digit then nul else
    if x == lower_t then tab else
    if x == lower_n then line_feed else
    if x == lower_r then carriage_return else
    if x == lower_u then decoded_number t else x

-- the byte that the front of the text is decoded to: an escape's byte, or the first byte itself
abbrev pub decoded : List ℕ → ℕ
decoded t = if slice_index t 0 == backslash then decoded_escape t (slice_index t 1) else slice_index t 0

-- reads a byte between two of these quotes; it must be spelled as `escaped_byte` spells it
abbrev pub read_escaped : ℕ → Parse ℕ
read_escaped quote t = option_map (λ u. (decoded t, u)) (strip (escaped_byte quote (decoded t)) t)

-- reads bytes up to the closing quote, and the quote; there must be fewer bytes than the number
unfoldable pub read_inside : ℕ → ℕ → Parse (List ℕ)
read_inside quote zero t = None
read_inside quote (suc n) t = choose (strip (quote ∷ []) t) (λ u. Some ([], u))
    (option_and_then (λ x. parse_map (λ bs. x.0 ∷ bs) (read_inside quote n x.1)) (read_escaped quote t))

-- these bytes in quotes, if they pass the test
abbrev pub if_right : (List ℕ → Bool) → ℕ → List ℕ → List ℕ → Option (List ℕ × List ℕ)
if_right test quote bs u = if test bs then Some (quoted quote (chars bs), u) else None

-- reads bytes that pass the test, between two of these quotes
abbrev pub read_between : ℕ → (List ℕ → Bool) → Parse (List ℕ)
read_between quote test t = option_and_then (λ u. option_and_then (λ x. if_right test quote x.0 x.1) (read_inside quote (suc (length u)) u))
    (strip (quote ∷ []) t)

-- whether the bytes are one character in UTF-8
abbrev pub is_char : List ℕ → Bool
is_char bs = is_utf8 bs && length (chars bs) == 1

-- reads a quoted text or a quoted character
unfoldable pub read_quoted : Parse (List ℕ)
read_quoted t = option_or (read_between quotation_mark is_utf8 t) (read_between apostrophe is_char t)
