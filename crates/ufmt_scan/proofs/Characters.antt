-- Characters in UTF-8, and as they are written between quotes.
use Rattle.std.proofs.Common.{◌≡◌, ◌⊎◌, inl, inr, refl, sym, ap, ◌∙◌, ℕ, ◌+◌, ◌<◌, ◌≤◌, List, [], ◌∷◌, ◌++◌, length, slice_index, encode_utf8, append-nil, arith}
use lib.Utf8.{encode}
use Rattle.std.specs.Prelude.{unwrap_or}
use Rattle.std.specs.Str.{continuation_len}
use Rattle.std.proofs.lemmas.Bool.{cases_lt}
use Rattle.std.proofs.lemmas.Bool.Decides.{nat_tests}
use Rattle.std.proofs.lemmas.Str.{encode_ascii, inside_one}
use Rattle.ufmt_core.proofs.QuotedBytes.{escape-past_ascii}
use Rattle.ufmt_core.specs.Quoted.{IsQuote, escape, escaped, escaped_byte}
use Rattle.ufmt_grammar.proofs.QuotedComplete.{quote_ascii}

-- the first byte of a character determines how many bytes it has
pub length-led : (c : ℕ) → length (encode_utf8 c) ≡ 1 + continuation_len (slice_index (encode_utf8 c) 0)
unfolding encode
length-led c = grind (arith, nat_tests)

-- how a character is written: in ASCII as its byte is, and past it in UTF-8, whose first byte is past ASCII and written as itself
pub data Written (q c : ℕ) : Type 0 where
  ascii : c < 128 → escaped q c ≡ escaped_byte q c → Written q c
  past_ascii : 128 ≤ c → escaped q c ≡ encode_utf8 c → (b : ℕ) → 128 ≤ b → (more : List ℕ) → escaped q c ≡ escaped_byte q b ++ more → Written q c

pub is_written : (q : ℕ) → IsQuote q → (c : ℕ) → Written q c
is_written q quote c = by (cases_lt c 128)
  where
    first : 128 ≤ c → (bs : List ℕ) → encode_utf8 c ≡ bs → escaped q c ≡ encode_utf8 c → Written q c
    first high [] is itself = absurd (omega (arith, ap length is, length-led c))
    first high (b ∷ more) is itself = at (cases_lt b 128)
      where
        at : (b < 128) ⊎ (128 ≤ b) → Written q c
        at (inl low) =
            let same : c ≡ b = inside_one c [] (b ∷ more) 0 (sym is ∙ sym (append-nil (encode_utf8 c))) (omega (arith, ap length is)) low in
            absurd (omega (arith, same))
        at (inr past) = past_ascii high itself b past more (itself ∙ is ∙ ap (λ e. unwrap_or e (b ∷ []) ++ more) (sym (escape-past_ascii q b (quote_ascii q quote) past)))

    by : (c < 128) ⊎ (128 ≤ c) → Written q c
    by (inl low) = ascii low (ap (unwrap_or (escape q c)) (encode_ascii c low))
    by (inr high) = first high (encode_utf8 c) refl (ap (λ e. unwrap_or e (encode_utf8 c)) (escape-past_ascii q c (quote_ascii q quote) high))
