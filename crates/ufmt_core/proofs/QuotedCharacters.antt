-- Quoting by characters is quoting by bytes: an escaped character is one byte, and bytes of other characters print as themselves.
use Rattle.std.proofs.Common.{◌≡◌, ◌⊎◌, ℕ, suc, ◌<◌, ◌≤◌, List, [], ◌∷◌, ◌++◌, length, get_or, inl, inr, refl, sym, ap, ap₂, ◌∙◌, append_assoc, append-nil, arith}
use Rattle.std.specs.Prelude.{encode_utf8, unwrap_or}
use Rattle.std.specs.Str.{IsUtf8, chars, encode_utf8_all}
use Rattle.std.proofs.lemmas.Bool.{cases_lt}
use Rattle.std.proofs.lemmas.Str.{encode_ascii, encodes-chars, inside_one}
use Rattle.ufmt_core.specs.Quoted.{escaped, escaped_all, escaped_byte, escaped_bytes, quoted_text}
use Rattle.ufmt_core.proofs.QuotedBytes.{escape-past_ascii}

past_ascii : (c : ℕ) → 128 ≤ c → (k : ℕ) → k < length (encode_utf8 c) → 128 ≤ get_or (encode_utf8 c) k 0
past_ascii c high k within = by (cases_lt (get_or (encode_utf8 c) k 0) 128)
  where
    by : (get_or (encode_utf8 c) k 0 < 128) ⊎ (128 ≤ get_or (encode_utf8 c) k 0) → 128 ≤ get_or (encode_utf8 c) k 0
    by (inl low) = absurd (omega (arith, inside_one c [] (encode_utf8 c) k (sym (append-nil (encode_utf8 c))) within low))
    by (inr h) = h

module _ (q : ℕ) (ascii : q < 128) where
  -- bytes past ASCII print as themselves
  escaped_bytes-past_ascii : (bs : List ℕ) → ((k : ℕ) → k < length bs → 128 ≤ get_or bs k 0) → escaped_bytes q bs ≡ bs
  escaped_bytes-past_ascii [] high = refl
  escaped_bytes-past_ascii (b ∷ bs) high =
      let first : escaped_byte q b ≡ b ∷ [] = ap (λ o. unwrap_or o (b ∷ [])) (escape-past_ascii q b ascii (high 0 (omega arith))) in
      ap₂ (λ s t. s ++ t) first (escaped_bytes-past_ascii bs (λ k within. high (suc k) (omega arith)))

  -- the bytes of two texts are quoted one after the other
  escaped_bytes-append : (bs cs : List ℕ) → escaped_bytes q (bs ++ cs) ≡ escaped_bytes q bs ++ escaped_bytes q cs
  escaped_bytes-append [] cs = refl
  escaped_bytes-append (b ∷ bs) cs = ap (λ t. escaped_byte q b ++ t) (escaped_bytes-append bs cs)
      ∙ sym (append_assoc (escaped_byte q b) (escaped_bytes q bs) (escaped_bytes q cs))

  -- a character is quoted as its bytes are
  escaped-encode : (c : ℕ) → escaped q c ≡ escaped_bytes q (encode_utf8 c)
  escaped-encode c = by (cases_lt c 128)
    where
      by : (c < 128) ⊎ (128 ≤ c) → escaped q c ≡ escaped_bytes q (encode_utf8 c)
      by (inl low) = rw (encode_ascii c low) (sym (append-nil (escaped_byte q c)))
      by (inr high) = rw (escape-past_ascii q c ascii high) (sym (escaped_bytes-past_ascii (encode_utf8 c) (past_ascii c high)))

  -- characters in a row are quoted as their bytes are
  pub escaped_all-bytes : (cs : List ℕ) → escaped_all q cs ≡ escaped_bytes q (encode_utf8_all cs)
  escaped_all-bytes [] = refl
  escaped_all-bytes (c ∷ cs) = ap₂ (λ s t. s ++ t) (escaped-encode c) (escaped_all-bytes cs) ∙ sym (escaped_bytes-append (encode_utf8 c) (encode_utf8_all cs))

-- a quoted text is its two quotes and its bytes between them
pub quoted_text-parts : (bs : List ℕ) → IsUtf8 bs → quoted_text (chars bs) ≡ (34 ∷ []) ++ (escaped_bytes 34 bs ++ (34 ∷ []))
quoted_text-parts bs utf8 = ap (λ t. 34 ∷ (t ++ (34 ∷ []))) (escaped_all-bytes 34 (omega arith) (chars bs) ∙ ap (escaped_bytes 34) (encodes-chars bs utf8))
