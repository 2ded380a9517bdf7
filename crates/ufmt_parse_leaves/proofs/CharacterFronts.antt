-- Characters in UTF-8, and as they are written between quotes, at the front of a text.
use Rattle.std.proofs.Common.{◌≡◌, inr, refl, sym, ap, ◌∙◌, ℕ, ◌+◌, ◌≤◌, List, [], ◌∷◌, ◌++◌, length, slice_index, get_or, encode_utf8, append-nil, append_assoc, arith, drop, Option, Some, None, Bor, MatchOption}
use Rattle.std.specs.Prelude.{◌≢◌, unwrap_or}
use Rattle.std.specs.Char.{IsScalar}
use Rattle.std.specs.Str.{continuation_len}
use Rattle.std.proofs.lemmas.Str.{encode_ascii, encode_same}
use Rattle.ufmt_core.proofs.QuotedBytes.{escape-past_ascii}
use Rattle.ufmt_core.specs.Quoted.{IsQuote, escaped, escaped_byte, quoted_char}
use Rattle.ufmt_grammar.specs.Reading.{strip}
use Rattle.ufmt_grammar.proofs.QuotedComplete.{quote_ascii}
use Rattle.ufmt_grammar.proofs.Parsing.{strip_found, strip_of_front}
use Rattle.ufmt_scan.proofs.Characters.{Written, ascii, past_ascii, length-led, is_written}
use Rattle.ufmt_scan.proofs.Spelled.{spelled_once}

-- the first byte of a text that begins with a character determines how many bytes the character has
pub led_front : (t : List ℕ) (c : ℕ) (rest : List ℕ) (lead : ℕ) → t ≡ encode_utf8 c ++ rest → lead ≡ get_or t 0 lead → length (encode_utf8 c) ≡ 1 + continuation_len lead
led_front t c rest lead is first =
    elim (encode_utf8 c) as (λ bs. length bs ≡ 1 + continuation_len (slice_index bs 0) → t ≡ bs ++ rest → length bs ≡ 1 + continuation_len lead) [
      | [] ↦ λ long whole. absurd (omega (arith, long))
      | b ∷ bs ↦ λ long whole. long ∙ ap (λ n. 1 + continuation_len n) (sym (first ∙ ap (λ l. get_or l 0 lead) whole))
    ] (length-led c) is

-- ---- between two of these quotes

module _ (q : ℕ) (quote : IsQuote q) where
  -- a text begins with the spelling of at most one character
  pub character_once : (c d : ℕ) (t u : List ℕ) → escaped q c ++ t ≡ escaped q d ++ u → (c ≡ d) × (t ≡ u)
  character_once c d t u same = by (is_written q quote c) (is_written q quote d)
    where
      by : Written q c → Written q d → (c ≡ d) × (t ≡ u)
      by (ascii low is) (ascii less also) = spelled_once q quote c d t u (ap (λ e. e ++ t) (sym is) ∙ same ∙ ap (λ e. e ++ u) also)
      by (ascii low is) (past_ascii high itself b past more also) =
          let byte = (spelled_once q quote c b t (more ++ u) (ap (λ e. e ++ t) (sym is) ∙ same ∙ ap (λ e. e ++ u) also ∙ append_assoc (escaped_byte q b) more u)).0 in
          absurd (omega (arith, byte))
      by (past_ascii high itself b past more also) (ascii low is) =
          let byte = (spelled_once q quote d b u (more ++ t) (ap (λ e. e ++ u) (sym is) ∙ sym same ∙ ap (λ e. e ++ t) also ∙ append_assoc (escaped_byte q b) more t)).0 in
          absurd (omega (arith, byte))
      by (past_ascii high itself b past more also) (past_ascii higher alone e further rest other) =
          let both = encode_same c d t u (ap (λ e. e ++ t) (sym itself) ∙ same ∙ ap (λ e. e ++ u) alone) in (both.0, both.1)

  -- where no byte is spelled, no character is
  pub no_character : (t : List ℕ) → ((b : ℕ) (u : List ℕ) → t ≢ escaped_byte q b ++ u) → (c : ℕ) (u : List ℕ) → t ≢ escaped q c ++ u
  no_character t none c u same = by (is_written q quote c)
    where
      by : Written q c → ⊥
      by (ascii low is) = none c u (same ∙ ap (λ e. e ++ u) is)
      by (past_ascii high itself b past more is) = none b (more ++ u) (same ∙ ap (λ e. e ++ u) is ∙ append_assoc (escaped_byte q b) more u)

  -- where a byte past ASCII is spelled, a character in UTF-8 is written so, and no other
  pub utf8_character : (t : List ℕ) (b : ℕ) (after : List ℕ) → t ≡ escaped_byte q b ++ after → 128 ≤ b → (c : ℕ) (u : List ℕ) → t ≡ encode_utf8 c ++ u
      → t ≡ escaped q c ++ u
  utf8_character t b after first past c u is = by (is_written q quote c)
    where
      by : Written q c → t ≡ escaped q c ++ u
      by (ascii low written_so) =
          let itself : escaped_byte q b ≡ b ∷ [] = ap (λ e. unwrap_or e (b ∷ [])) (escape-past_ascii q b (quote_ascii q quote) past) in
          let whole : b ∷ after ≡ c ∷ u = ap (λ e. e ++ after) (sym itself) ∙ sym first ∙ is ∙ ap (λ e. e ++ u) (encode_ascii c low) in
          absurd (omega (arith, ap (λ (l : List ℕ). get_or l 0 0) whole))
      by (past_ascii high itself e more further other) = is ∙ ap (λ w. w ++ u) (sym itself)

  pub no_utf8_character : (t : List ℕ) (b : ℕ) (after : List ℕ) → t ≡ escaped_byte q b ++ after → 128 ≤ b
      → ((c : ℕ) (u : List ℕ) → IsScalar c → t ≢ encode_utf8 c ++ u) → (c : ℕ) (u : List ℕ) → IsScalar c → t ≢ escaped q c ++ u
  no_utf8_character t b after first past none c u scalar same = by (is_written q quote c)
    where
      by : Written q c → ⊥
      by (ascii low is) =
          let byte = (spelled_once q quote c b u after (ap (λ e. e ++ u) (sym is) ∙ sym same ∙ first)).0 in
          absurd (omega (arith, byte))
      by (past_ascii high itself e more further other) = none c u scalar (same ∙ ap (λ w. w ++ u) itself)

  -- the character that `split_utf8` finds is written so
  pub utf8_found : (t : List ℕ) (b : ℕ) (after : List ℕ) (r : Option (ℕ × Bor (List ℕ))) → t ≡ escaped_byte q b ++ after → 128 ≤ b
      → MatchOption r ((c : ℕ) (u : List ℕ) → IsScalar c → t ≢ encode_utf8 c ++ u) (λ x. IsScalar x.0 × (t ≡ encode_utf8 x.0 ++ x.1.now))
      → MatchOption r ((c : ℕ) (u : List ℕ) → IsScalar c → t ≢ escaped q c ++ u) (λ x. IsScalar x.0 × (t ≡ escaped q x.0 ++ x.1.now))
  utf8_found t b after None first past none = no_utf8_character t b after first past none
  utf8_found t b after (Some x) first past is = (is.0, utf8_character t b after first past x.0 x.1.now is.1)

-- ---- between apostrophes

-- the parts of a quoted character and what follows it
pub quoted_char-parts : (c : ℕ) (u : List ℕ) → quoted_char c ++ u ≡ 39 ∷ (escaped 39 c ++ (39 ∷ u))
quoted_char-parts c u = ap (λ t. 39 ∷ t) (ap (λ e. (e ++ (39 ∷ [])) ++ u) (append-nil (escaped 39 c)) ∙ append_assoc (escaped 39 c) (39 ∷ []) u)

-- where no apostrophe follows the character, none does
pub not_closed : (t inside end : List ℕ) (c : ℕ) → Some inside ≡ strip (39 ∷ []) t → inside ≡ escaped 39 c ++ end → None ≡ strip (39 ∷ []) end
    → (d : ℕ) (u : List ℕ) → t ≢ quoted_char d ++ u
not_closed t inside end c opens is none d u same =
    let within : inside ≡ escaped 39 d ++ (39 ∷ u) = ap (drop 1) (sym (strip_found (39 ∷ []) t inside (sym opens)) ∙ same ∙ quoted_char-parts d u) in
    let closes = (character_once 39 (inr refl) c d end (39 ∷ u) (sym is ∙ within)).1 in
    let some : ◌≡◌ {A = Option (List ℕ)} None (Some u) = none ∙ strip_of_front (39 ∷ []) end u closes in
    absurd (cc)
