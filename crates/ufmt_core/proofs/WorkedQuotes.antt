-- Quoted texts and characters, computed: each row of the table of escapes, and bytes that print as themselves.
use Rattle.std.proofs.Common.{◌≡◌, [], ◌∷◌, codes, refl, map}
use Rattle.ufmt_core.specs.Quoted.{quoted_text, quoted_char}

empty-text : quoted_text [] ≡ codes "\"\""
empty-text = refl

-- each row in a text, and then bytes that print as themselves
rows-text : quoted_text (0 ∷ 9 ∷ 10 ∷ 13 ∷ 92 ∷ 34 ∷ 39 ∷ 1 ∷ 31 ∷ 32 ∷ 126 ∷ 127 ∷ []) ≡ codes "\"\\0\\t\\n\\r\\\\\\\"'\\u{1}\\u{1f} ~\\u{7f}\""
unfolding lib.Utf8.encode
rows-text = refl

-- past ASCII nothing is escaped
past-ascii-text : quoted_text (128 ∷ 233 ∷ 1114111 ∷ []) ≡ 34 ∷ 194 ∷ 128 ∷ 195 ∷ 169 ∷ 244 ∷ 143 ∷ 191 ∷ 191 ∷ 34 ∷ []
unfolding lib.Utf8.encode
past-ascii-text = refl

-- each row for a character
rows-char : map quoted_char (0 ∷ 9 ∷ 10 ∷ 13 ∷ 92 ∷ 34 ∷ 39 ∷ 1 ∷ 27 ∷ 127 ∷ [])
    ≡ codes "'\\0'" ∷ codes "'\\t'" ∷ codes "'\\n'" ∷ codes "'\\r'" ∷ codes "'\\\\'" ∷ codes "'\"'" ∷ codes "'\\''" ∷ codes "'\\u{1}'"
    ∷ codes "'\\u{1b}'" ∷ codes "'\\u{7f}'" ∷ []
unfolding lib.Utf8.encode
rows-char = refl

plain-chars : map quoted_char (32 ∷ 126 ∷ []) ≡ codes "' '" ∷ codes "'~'" ∷ []
unfolding lib.Utf8.encode
plain-chars = refl

past-ascii-char : quoted_char 233 ≡ 39 ∷ 195 ∷ 169 ∷ 39 ∷ []
unfolding lib.Utf8.encode
past-ascii-char = refl
