-- Bytes as they are written between quotes, up to the closing quote.
use Rattle.std.proofs.Common.{◌≡◌, inl, inr, ◌≤◌, refl, sym, ap, ◌∙◌, ℕ, ◌<◌, List, [], ◌∷◌, ◌++◌, length, take, drop, Option, Some, None, slice_index, append_assoc, length-append, arith}
use Rattle.std.specs.Prelude.{◌≢◌, unwrap_or}
use Rattle.std.proofs.lemmas.Bool.{cases_lt}
use Rattle.std.proofs.lemmas.List.{append_cancel_right, take-append-drop}
use Rattle.ufmt_core.specs.Quoted.{IsQuote, escape, escaped_byte, escaped_bytes, unescaped_len}
use Rattle.ufmt_grammar.specs.Reading.{strip}
use Rattle.ufmt_grammar.specs.ReadingQuoted.{read_escaped, decoded}
use Rattle.ufmt_core.proofs.QuotedBytes as core
use Rattle.ufmt_grammar.proofs.Parsing.{same_parts, strip_found, strip_of_front, strip_joined}
use Rattle.ufmt_grammar.proofs.QuotedComplete.{escaped-no_quote, length-escaped, quote_ascii, read_escaped-complete}
use Rattle.ufmt_grammar.proofs.QuotedDecoded.{decoded-escaped}
use Rattle.ufmt_scan.specs.Private.Spelled.{Closes, IsSpelled, NeverCloses}

pub escaped_byte_is : (q b : ℕ) (e : List ℕ) → Some e ≡ escape q b → escaped_byte q b ≡ e
escaped_byte_is q b e is = ap (λ o. unwrap_or o (b ∷ [])) (sym is)

-- if the byte that is decoded at the front isn't written there, none is
pub no_other : (q : ℕ) (t : List ℕ) (byte : ℕ) → IsQuote q → slice_index t 0 < 256 → (decoded t < 256 → byte ≡ decoded t) → None ≡ strip (escaped_byte q byte) t
    → (b : ℕ) (u : List ℕ) → t ≢ escaped_byte q b ++ u
no_other q t byte quote fits named none b u same = elim (cases_lt b 256) [
  | inl low ↦
      let found : ◌≡◌ {A = Option (List ℕ)} None (Some u) = none ∙ ap (λ n. strip (escaped_byte q n) t) (named (omega (arith, is)) ∙ is) ∙ strip_of_front (escaped_byte q b) t u same in
      absurd (cc)
  | inr high ↦
      let itself = ap (λ o. unwrap_or o (b ∷ [])) (core.escape-past_ascii q b (quote_ascii q quote) (omega arith)) in
      omega (arith, fits, ap (λ v. slice_index v 0) (same ∙ ap (λ e. e ++ u) itself))
]
  where
    is : decoded t ≡ b
    is = ap decoded same ∙ decoded-escaped q b u quote

pub escaped_bytes-append : (q : ℕ) (bs cs : List ℕ) → escaped_bytes q (bs ++ cs) ≡ escaped_bytes q bs ++ escaped_bytes q cs
escaped_bytes-append q [] cs = refl
escaped_bytes-append q (b ∷ bs) cs = ap (λ t. escaped_byte q b ++ t) (escaped_bytes-append q bs cs)
    ∙ sym (append_assoc (escaped_byte q b) (escaped_bytes q bs) (escaped_bytes q cs))

pub spelled_shorter : (q b : ℕ) (t u : List ℕ) → t ≡ escaped_byte q b ++ u → length u < length t
spelled_shorter q b t u h = omega (arith, ap length h, length-append (escaped_byte q b) u, length-escaped q b)

-- bytes without escapes are written as themselves
pub stretch_within : (t : List ℕ) (n : ℕ) → n ≡ unescaped_len t → n ≤ length t
stretch_within t n is = omega (arith, is, (core.stretch t).within)

pub stretch_itself : (t : List ℕ) (n : ℕ) → n ≡ unescaped_len t → escaped_bytes 34 (take n t) ≡ take n t
stretch_itself t n is = append_cancel_right _ _ (escaped_bytes 34 (drop n t))
    (sym (escaped_bytes-append 34 (take n t) (drop n t)) ∙ ap (escaped_bytes 34) (take-append-drop n t) ∙ rw is (core.stretch t).escaped)

pub stretch : (t u : List ℕ) (n : ℕ) → n ≡ unescaped_len t → u ≡ drop n t → IsSpelled 34 t u
stretch t u n is rest =
    record { bytes = take n t; is = sym (ap (λ v. v ++ u) (stretch_itself t n is) ∙ ap (λ v. take n t ++ v) rest ∙ take-append-drop n t) }

-- the search passes nothing at first, then a byte and more, and ends at the quote
pub spelled_nothing : (q : ℕ) (t : List ℕ) → IsSpelled q t t
spelled_nothing q t = record { bytes = []; is = refl }

pub spelled_turn : (q b : ℕ) (t u v w : List ℕ) → IsSpelled q t u → u ≡ escaped_byte q b ++ v → IsSpelled q v w → IsSpelled q t w
spelled_turn q b t u v w first is more =
    let whole : t ≡ escaped_bytes q first.bytes ++ (escaped_byte q b ++ (escaped_bytes q more.bytes ++ w)) = cc (first.is, is, more.is) in
    record { bytes = first.bytes ++ (b ∷ more.bytes); is = rw (escaped_bytes-append q first.bytes (b ∷ more.bytes)) (simp append_assoc whole) }

pub quote_closes : (q : ℕ) (t u v : List ℕ) → IsQuote q → IsSpelled q t u → Some v ≡ strip (q ∷ []) u → Closes q t v
quote_closes q t u v quote first found = record { is_quote = quote; bytes = first.bytes; is = first.is ∙ ap (λ x. escaped_bytes q first.bytes ++ x) (strip_found (q ∷ []) u v (sym found)) }

module _ (q : ℕ) (quote : IsQuote q) where
  -- a text begins with the spelling of at most one byte
  pub spelled_once : (b c : ℕ) (t u : List ℕ) → escaped_byte q b ++ t ≡ escaped_byte q c ++ u → (b ≡ c) × (t ≡ u)
  spelled_once b c t u same =
      same_parts {A = ℕ} {B = List ℕ} (b, t) (c, u) (sym (read_escaped-complete q b t quote) ∙ ap (read_escaped q) same ∙ read_escaped-complete q c u quote)

  -- no byte's spelling begins with the closing quote
  pub quote_ends : (t : List ℕ) (b : ℕ) (u : List ℕ) → q ∷ t ≢ escaped_byte q b ++ u
  quote_ends t b u same =
      let none : ◌≡◌ {A = Option (List ℕ)} None (Some t) = sym (escaped-no_quote q b u quote) ∙ ap (strip (q ∷ [])) (sym same) ∙ strip_joined (q ∷ []) t in
      absurd (cc)

  -- the spelled bytes are determined, if no spelling follows them
  pub same_bytes : (bs cs t u : List ℕ) → ((b : ℕ) (v : List ℕ) → t ≢ escaped_byte q b ++ v) → ((b : ℕ) (v : List ℕ) → u ≢ escaped_byte q b ++ v)
      → escaped_bytes q bs ++ t ≡ escaped_bytes q cs ++ u → (bs ≡ cs) × (t ≡ u)
  same_bytes [] [] t u t_ends u_ends same = (refl, same)
  same_bytes [] (c ∷ cs) t u t_ends u_ends same = absurd (t_ends c _ (same ∙ append_assoc (escaped_byte q c) (escaped_bytes q cs) u))
  same_bytes (b ∷ bs) [] t u t_ends u_ends same = absurd (u_ends b _ (sym same ∙ append_assoc (escaped_byte q b) (escaped_bytes q bs) t))
  same_bytes (b ∷ bs) (c ∷ cs) t u t_ends u_ends same =
      let first = spelled_once b c _ _ (sym (append_assoc (escaped_byte q b) (escaped_bytes q bs) t) ∙ same ∙ append_assoc (escaped_byte q c) (escaped_bytes q cs) u) in
      let more = same_bytes bs cs t u t_ends u_ends first.1 in
      (cc, more.1)

  -- if neither the quote nor a byte follows, no quote closes
  pub never_closes : (t u : List ℕ) → IsSpelled q t u → None ≡ strip (q ∷ []) u → ((b : ℕ) (v : List ℕ) → u ≢ escaped_byte q b ++ v) → NeverCloses q t
  never_closes t u before none ends = record {
    never = λ bytes rest same.
        let is = (same_bytes before.bytes bytes u (q ∷ rest) ends (quote_ends rest) (sym before.is ∙ same)).1 in
        let some : ◌≡◌ {A = Option (List ℕ)} None (Some rest) = none ∙ ap (strip (q ∷ [])) is ∙ strip_joined (q ∷ []) rest in
        absurd (cc);
  }

-- what the search for the closing quote cites
pub ruleset closing = (stretch_within, stretch, spelled_nothing, spelled_shorter, quote_closes)
