-- Examples of texts that are read, and of texts that are not, computed.
use Rattle.std.proofs.Common.{◌≡◌, ℕ, List, [], ◌∷◌, codes, map, replicate, Some, None, refl}
use Rattle.std.specs.Str.{chars, is_utf8}
use Rattle.ufmt_core.specs.Bytes.{backslash, quotation_mark}
use Rattle.ufmt_core.specs.Document.{Document, leaf, list_of, set_of, map_of, struct_of, non_exhaustive_of, tuple_of, Documents, no_documents, first_document, no_pairs, first_pair, no_fields, first_field}
use Rattle.ufmt_core.specs.declared.layout.Mode.TheVariants.{Plain, Pretty}
use Rattle.ufmt_grammar.specs.Leaves.{Token, Debug}
use Rattle.ufmt_grammar.specs.Reading.{read, read_rest, read_text}
use Rattle.ufmt_grammar.specs.ReadingQuoted.{read_inside, read_quoted}

abbrev one : Document
one = leaf (codes "1")

abbrev lone : Document → Documents
lone d = first_document d no_documents

-- a list of an empty list and a list of one number
abbrev lists : Document
lists = list_of (first_document (list_of no_documents) (lone (list_of (lone one))))

lists-plain : read_text Token Plain (codes "[[], [1]]") ≡ Some lists
unfolding read read_rest
lists-plain = refl

lists-pretty : read_text Token Pretty (codes "[\n    [],\n    [\n        1,\n    ],\n]") ≡ Some lists
unfolding read read_rest
lists-pretty = refl

-- the empty set is read as the empty map, and braces with a colon are a map
braces-plain : read_text Token Plain (codes "{}") ≡ Some (map_of no_pairs)
unfolding read read_rest
braces-plain = refl

set-plain : read_text Token Plain (codes "{a}") ≡ Some (set_of (lone (leaf (codes "a"))))
unfolding read read_rest
set-plain = refl

map-plain : read_text Token Plain (codes "{a: {}, (): [1]}")
    ≡ Some (map_of (first_pair (leaf (codes "a")) (map_of no_pairs) (first_pair (leaf (codes "()")) (list_of (lone one)) no_pairs)))
unfolding read read_rest
map-plain = refl

-- a struct without fields is read as the leaf of its name
struct-plain : read_text Token Plain (codes "S { x: -1, y: N }")
    ≡ Some (struct_of (codes "S") (first_field (codes "x") (leaf (codes "-1")) (first_field (codes "y") (leaf (codes "N")) no_fields)))
unfolding read read_rest
struct-plain = refl

struct-pretty : read_text Token Pretty (codes "S {\n    x: (\n        1,\n    ),\n}")
    ≡ Some (struct_of (codes "S") (first_field (codes "x") (tuple_of [] (lone one)) no_fields))
unfolding read read_rest read_quoted
struct-pretty = refl

-- a comma follows the only field of a tuple without a name, but not that of a tuple with a name
tuples-plain : read_text Token Plain (codes "P((1,))") ≡ Some (tuple_of (codes "P") (lone (tuple_of [] (lone one))))
unfolding read read_rest read_quoted
tuples-plain = refl

no_comma : read_text Token Plain (codes "(1)") ≡ None
unfolding read read_rest read_quoted
no_comma = refl

no_space : read_text Token Plain (codes "[1,1]") ≡ None
unfolding read read_rest
no_space = refl

more_space : read_text Token Plain (codes "[1] ") ≡ None
unfolding read read_rest
more_space = refl

no_text : read_text Token Plain [] ≡ None
unfolding read read_rest read_quoted
no_text = refl

-- a pretty text is not read as a plain text
not_plain : read_text Token Plain (codes "[\n    1,\n]") ≡ None
unfolding read read_rest read_quoted
not_plain = refl

-- brackets, commas and colons in quotes belong to the quoted leaf
quotes-plain : read_text Token Plain (codes "{\"a\": \"b: c, d\"}") ≡ Some (map_of (first_pair (leaf (codes "\"a\"")) (leaf (codes "\"b: c, d\"")) no_pairs))
unfolding read read_rest read_quoted read_inside is_utf8 chars lib.Utf8.encode
quotes-plain = refl

quotes-list : read_text Token Plain (codes "[\"]\", '}']") ≡ Some (list_of (first_document (leaf (codes "\"]\"")) (lone (leaf (codes "'}'")))))
unfolding read read_rest read_quoted read_inside is_utf8 chars lib.Utf8.encode
quotes-list = refl

-- another spelling of a character is not read
respelled : map (read_text Token Plain) (codes "\"\\u{07f}\"" ∷ codes "\"\\u{41}\"" ∷ codes "\"\\u{1B}\"" ∷ codes "\"\\u{a}\"" ∷ codes "\"\\x\""
    ∷ codes "\"\\'\"" ∷ codes "'\\\"'" ∷ codes "\"\t\"" ∷ []) ≡ replicate 8 None
unfolding read read_rest read_quoted read_inside
respelled = refl

-- a text or a character with wrong quotes is not read, nor a quoted text in place of a name
misquoted : map (read_text Token Plain) (codes "'''" ∷ codes "\"\"\"" ∷ codes "\"a" ∷ codes "''" ∷ codes "'ab'" ∷ codes "S { \"a\": b }"
    ∷ codes "\"S\"(x)" ∷ []) ≡ replicate 7 None
unfolding read read_rest read_quoted read_inside is_utf8 chars lib.Utf8.encode
misquoted = refl

-- ---- debug documents

-- `1.5µs` in UTF-8
abbrev microseconds : List ℕ
microseconds = 49 ∷ 46 ∷ 53 ∷ 194 ∷ 181 ∷ 115 ∷ []

-- a number with a point, a path with an argument, a range, an address and a time are leaves
debug_leaves : map (read_text Debug Plain) (codes "-2.5" ∷ codes "1e-7" ∷ codes "a::B<u8>" ∷ codes "0..5" ∷ codes "'a'..='z'" ∷ codes "127.0.0.1:80"
    ∷ codes "::1" ∷ microseconds ∷ codes "b\"x\"" ∷ codes "<borrowed>" ∷ codes "\"\\u{301}\"" ∷ codes ":\"x\"" ∷ [])
    ≡ map (λ text. Some (leaf text)) (codes "-2.5" ∷ codes "1e-7" ∷ codes "a::B<u8>" ∷ codes "0..5" ∷ codes "'a'..='z'" ∷ codes "127.0.0.1:80"
    ∷ codes "::1" ∷ microseconds ∷ codes "b\"x\"" ∷ codes "<borrowed>" ∷ codes "\"\\u{301}\"" ∷ codes ":\"x\"" ∷ [])
unfolding read read_rest read_quoted is_utf8 chars lib.Utf8.encode
debug_leaves = refl

debug_struct : read_text Debug Plain (codes "Wrapper<u8> { a::b: 1.5, ..: {::1: 0..5} }")
    ≡ Some (struct_of (codes "Wrapper<u8>") (first_field (codes "a::b") (leaf (codes "1.5"))
    (first_field (codes "..") (map_of (first_pair (leaf (codes "::1")) (leaf (codes "0..5")) no_pairs)) no_fields)))
unfolding read read_rest read_quoted is_utf8 chars lib.Utf8.encode
debug_struct = refl

-- a token document's reader takes none of these
no_tokens : map (read_text Token Plain) (codes "-2.5" ∷ codes "a::b" ∷ codes "'a'..='z'" ∷ codes "b\"x\"" ∷ codes "\"\\u{301}\"" ∷ []) ≡ replicate 5 None
unfolding read read_rest read_quoted read_inside is_utf8 chars lib.Utf8.encode
no_tokens = refl

-- calls without arguments, and colons at the end; a colon before a space ends a key, but not before a space and a closing brace
debug_calls : map (read_text Debug Plain) (codes "f()" ∷ codes "a::b()?.c()" ∷ codes "()()" ∷ codes "fe80::" ∷ codes "::" ∷ codes "a:()" ∷ codes "\\" ∷ [])
    ≡ map (λ text. Some (leaf text)) (codes "f()" ∷ codes "a::b()?.c()" ∷ codes "()()" ∷ codes "fe80::" ∷ codes "::" ∷ codes "a:()" ∷ codes "\\" ∷ [])
unfolding read read_rest read_quoted is_utf8 chars lib.Utf8.encode
debug_calls = refl

-- a word in parentheses, or an address in brackets and a colon, at a leaf's start
debug_starts : map (read_text Debug Plain) (codes "(Weak)" ∷ codes "[::1]:80" ∷ codes "(a)b::" ∷ codes "[a]:b\"\"" ∷ codes "(a)()" ∷ [])
    ≡ map (λ text. Some (leaf text)) (codes "(Weak)" ∷ codes "[::1]:80" ∷ codes "(a)b::" ∷ codes "[a]:b\"\"" ∷ codes "(a)()" ∷ [])
unfolding read read_rest read_quoted is_utf8 chars lib.Utf8.encode
debug_starts = refl

-- a list, a map whose key is one, and tuples, as before
debug_no_starts : map (read_text Debug Plain) (codes "[a]" ∷ codes "{[a]: b}" ∷ codes "(a,)" ∷ codes "f(a)" ∷ [])
    ≡ map Some (list_of (lone (leaf (codes "a"))) ∷ map_of (first_pair (list_of (lone (leaf (codes "a")))) (leaf (codes "b")) no_pairs)
    ∷ tuple_of (codes "") (lone (leaf (codes "a"))) ∷ tuple_of (codes "f") (lone (leaf (codes "a"))) ∷ [])
unfolding read read_rest read_quoted is_utf8 chars lib.Utf8.encode
debug_no_starts = refl

-- such a word or address in another place, with other bytes in it, or with nothing after its colon
debug_wrong_starts : map (read_text Debug Plain) (codes "a(Weak)()" ∷ codes "(a)(b)" ∷ codes "(a:)" ∷ codes "(a b)" ∷ codes "(\"a\")" ∷ codes "[a]:" ∷ codes "[]:a" ∷ codes "[a]b" ∷ codes "[a]:\"b\""
    ∷ codes "[a]:(b)" ∷ codes "(a) { b: 1 }" ∷ codes "(a" ∷ [])
    ≡ replicate 12 None
unfolding read read_rest read_quoted is_utf8 chars lib.Utf8.encode
debug_wrong_starts = refl

debug_colons : map (read_text Debug Plain) (codes "S { a: : }" ∷ codes "S { a: :: }" ∷ codes "{a:: b}" ∷ codes "{\"a\": b}" ∷ codes "Ok(())" ∷ [])
    ≡ map Some (struct_of (codes "S") (first_field (codes "a") (leaf (codes ":")) no_fields) ∷ struct_of (codes "S") (first_field (codes "a") (leaf (codes "::")) no_fields)
    ∷ map_of (first_pair (leaf (codes "a:")) (leaf (codes "b")) no_pairs) ∷ map_of (first_pair (leaf (codes "\"a\"")) (leaf (codes "b")) no_pairs)
    ∷ tuple_of (codes "Ok") (lone (leaf (codes "()"))) ∷ [])
unfolding read read_rest read_quoted is_utf8 chars lib.Utf8.encode
debug_colons = refl

-- a name that ends in a colon, or has `()`; a backslash before a quote; a colon after a closing quote; a name before `()`
debug_no_names : map (read_text Debug Plain) (codes "a: { b: 1 }" ∷ codes "a:(b)" ∷ codes "S { a:: 1 }" ∷ codes "f()(a)" ∷ codes "f() { a: 1 }" ∷ codes "\\\"a\"" ∷ codes "\"a\":b"
    ∷ codes "\"a\"::b" ∷ codes "'a':" ∷ codes "f()a(b)" ∷ [])
    ≡ replicate 10 None
unfolding read read_rest read_quoted is_utf8 chars lib.Utf8.encode
debug_no_names = refl

-- an apostrophe that opens no quote, before a byte of a word; one that opens one
debug_apostrophes : map (read_text Debug Plain) (codes "'a" ∷ codes "&'a" ∷ codes "a'b" ∷ codes "'a'..='z'" ∷ codes "'\\u{301}'" ∷ [])
    ≡ map (λ text. Some (leaf text)) (codes "'a" ∷ codes "&'a" ∷ codes "a'b" ∷ codes "'a'..='z'" ∷ codes "'\\u{301}'" ∷ [])
unfolding read read_rest read_quoted is_utf8 chars lib.Utf8.encode
debug_apostrophes = refl

-- an apostrophe at the end, before another one or a backslash, and in a name
debug_no_apostrophes : map (read_text Debug Plain) (codes "a'" ∷ codes "''" ∷ codes "'ab'" ∷ codes "'\\" ∷ codes "&'a(b)" ∷ [])
    ≡ replicate 5 None
unfolding read read_rest read_quoted is_utf8 chars lib.Utf8.encode
debug_no_apostrophes = refl

-- a colon before a space but no value; a quote that nothing closes; a quote in a name; a control, in quotes too; an escape at the end, or of
-- a character past ASCII; bytes that are no UTF-8; a space in a leaf
refused_by_debug : map (read_text Debug Plain) (codes "a:: b" ∷ codes "{a:1}, " ∷ codes "\"a" ∷ codes "a'" ∷ codes "\"S\"(x)" ∷ codes "a\"b\"(x)"
    ∷ codes "a\tb" ∷ codes "\"\t\"" ∷ codes "\"\\\"" ∷ (quotation_mark ∷ backslash ∷ 194 ∷ 181 ∷ quotation_mark ∷ []) ∷ (97 ∷ 255 ∷ []) ∷ (quotation_mark ∷ 255 ∷ quotation_mark ∷ []) ∷ codes "a b" ∷ codes "" ∷ [])
    ≡ replicate 14 None
unfolding read read_rest read_quoted is_utf8 chars lib.Utf8.encode
refused_by_debug = refl

-- a struct that ends in dots, in each mode
abbrev dotted : Document
dotted = non_exhaustive_of (codes "S") (first_field (codes "a") one no_fields)

abbrev only_dots : Document
only_dots = non_exhaustive_of (codes "S") no_fields

dots-plain : map (read_text Debug Plain) (codes "S { a: 1, .. }" ∷ codes "S { .. }" ∷ codes "[S { a: 1, .. }, S { .. }]" ∷ codes "[1, ..]" ∷ [])
    ≡ map Some (dotted ∷ only_dots ∷ list_of (first_document dotted (lone only_dots)) ∷ list_of (first_document one (lone (leaf (codes "..")))) ∷ [])
unfolding read read_rest read_quoted is_utf8 chars lib.Utf8.encode
dots-plain = refl

dots-pretty : map (read_text Debug Pretty) (codes "S {\n    a: 1,\n    ..\n}" ∷ codes "S { .. }" ∷ codes "[\n    S {\n        a: 1,\n        ..\n    },\n    S { .. },\n]" ∷ [])
    ≡ map Some (dotted ∷ only_dots ∷ list_of (first_document dotted (lone only_dots)) ∷ [])
unfolding read read_rest read_quoted is_utf8 chars lib.Utf8.encode
dots-pretty = refl

-- a comma after the dots, or none before them; a field after them; dots in a line of their own, but no field; other spaces; a map; a tuple
no_dots-plain : map (read_text Debug Plain) (codes "S { a: 1, .., }" ∷ codes "S { a: 1 .. }" ∷ codes "S { .., a: 1 }" ∷ codes "S { ..}" ∷ codes "{a: 1, .. }"
    ∷ codes "S(1, .. )" ∷ [])
    ≡ replicate 6 None
unfolding read read_rest read_quoted is_utf8 chars lib.Utf8.encode
no_dots-plain = refl

no_dots-pretty : map (read_text Debug Pretty) (codes "S {\n    a: 1,\n    ..,\n}" ∷ codes "S {\n    ..\n}" ∷ codes "S {\n    a: 1,\n..\n}" ∷ codes "S {\n    a: 1,\n    ..}" ∷ [])
    ≡ replicate 4 None
unfolding read read_rest read_quoted is_utf8 chars lib.Utf8.encode
no_dots-pretty = refl

-- no token document ends so
no_token_dots : map (read_text Token Plain) (codes "S { a: 1, .. }" ∷ codes "S { .. }" ∷ []) ≡ replicate 2 None
unfolding read read_rest read_quoted read_inside is_utf8 chars lib.Utf8.encode
no_token_dots = refl
