-- A quoted leaf has no line feed, because each line feed in it is escaped.
use Rattle.std.proofs.Common.{◌≡◌, ◌≢◌, ◌⊎◌, inl, inr, refl, sym, subst, ℕ, ◌/◌, ◌%◌, ◌<◌, ◌==◌, ◌||◌, nat_lt, Bool, true, false, List, [], ◌∷◌, ◌++◌, codes, arith}
use borrow.Author.Tests.{ltb-true}
use Rattle.std.specs.Char.{digit_char}
use Rattle.std.specs.Str.{encode_utf8_all}
use Rattle.std.proofs.lemmas.Bool.Decides.{nat_tests}
use Rattle.ufmt_core.specs.Bytes.{apostrophe, backslash, quotation_mark}
use Rattle.ufmt_core.specs.Quoted.{IsQuote, escaped_byte, escaped_bytes, hex_digits, quoted}
use Rattle.ufmt_grammar.specs.QuotedLaws.{QuotedIsOneLine}
use Rattle.ufmt_core.specs.Shift.{IsOneLine}
use Rattle.ufmt_grammar.proofs.QuotedComplete.{quoted-bytes}
use Rattle.ufmt_grammar.proofs.QuotedDecoded.{each_row}

IsOneLine-append : (s t : List ℕ) → IsOneLine s → IsOneLine t → IsOneLine (s ++ t)
IsOneLine-append [] t one two = two
IsOneLine-append (c ∷ s) t one two = (one.0, IsOneLine-append s t one.1 two)

digit_line : (d : ℕ) → d < 16 → digit_char d ≢ 10
digit_line d low = grind (arith, nat_tests)

digits_line : (b : ℕ) (short : Bool) → nat_lt b 16 ≡ short → b < 128 → IsOneLine (hex_digits b)
digits_line b true short low = rw short (digit_line b (ltb-true b 16 short), tt)
digits_line b false short low = rw short (digit_line (b / 16) (omega arith), (digit_line (b % 16) (omega arith), tt))

itself_line : (q b : ℕ) → IsQuote q → (b ≡ backslash) ⊎ (b ≡ q) → b ≢ 10
itself_line q b quote (inl e) = omega (arith, e)
itself_line q b (inl h) (inr e) = omega (arith, e, h)
itself_line q b (inr h) (inr e) = omega (arith, e, h)

plain_line : (b : ℕ) → (nat_lt b 32 || b == 127) ≡ false → b ≢ 10
plain_line b no_control e = let control = subst (λ n. (nat_lt n 32 || n == 127) ≡ false) e no_control in absurd (cc)

escaped_line : (q b : ℕ) → IsQuote q → IsOneLine (escaped_byte q b)
escaped_line q b quote =
    each_row q b (λ n e. IsOneLine e) (omega arith, (omega arith, tt)) (omega arith, (omega arith, tt)) (omega arith, (omega arith, tt))
    (omega arith, (omega arith, tt))
    (λ itself. (omega arith, (itself_line q b quote itself, tt)))
    (λ low. (omega arith, (omega arith, (omega arith, IsOneLine-append (hex_digits b) (codes "}") (digits_line b (nat_lt b 16) refl low) (omega arith, tt)))))
    (λ no_control itself. (plain_line b no_control, tt))

escaped_lines : (q : ℕ) (bs : List ℕ) → IsQuote q → IsOneLine (escaped_bytes q bs)
escaped_lines q [] quote = tt
escaped_lines q (b ∷ bs) quote = IsOneLine-append (escaped_byte q b) (escaped_bytes q bs) (escaped_line q b quote) (escaped_lines q bs quote)

quote_line : (q : ℕ) → IsQuote q → q ≢ 10
quote_line q (inl e) = omega (arith, e)
quote_line q (inr e) = omega (arith, e)

quoted_line : (q : ℕ) (cs : List ℕ) → IsQuote q → IsOneLine (quoted q cs)
quoted_line q cs quote =
    subst IsOneLine (sym (quoted-bytes q cs quote)) (
      quote_line q quote,
      IsOneLine-append (escaped_bytes q (encode_utf8_all cs)) (q ∷ []) (escaped_lines q (encode_utf8_all cs) quote)
          (quote_line q quote, tt),
    )

pub quoted_is_one_line : QuotedIsOneLine
quoted_is_one_line text (inl of_text) = subst IsOneLine (sym of_text.2) (quoted_line quotation_mark of_text.0 (inl refl))
quoted_is_one_line text (inr of_char) = subst IsOneLine (sym of_char.2) (quoted_line apostrophe (of_char.0 ∷ []) (inr refl))
