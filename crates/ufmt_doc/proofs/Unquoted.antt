-- What is between the quotes of a leaf is decoded byte by byte.
use Rattle.std.proofs.Common.{◌≡◌, inl, inr, refl, sym, ap, ◌∙◌, ℕ, List, [], ◌∷◌, ◌++◌, drop, get_or, append_assoc, true, arith}
use Rattle.std.specs.Str.{IsUtf8, all_scalars, chars, encode_utf8_all}
use Rattle.std.proofs.lemmas.Str.{chars-encodes}
use Rattle.ufmt.specs.Document.{leaf}
use Rattle.ufmt.specs.Quoted.{IsQuote, IsQuoted, escaped_byte, escaped_bytes, quoted, quoted_text}
use Rattle.ufmt.specs.Token.{IsSymbol}
use Rattle.ufmt_grammar.proofs.QuotedComplete.{quoted-bytes}
use Rattle.ufmt_doc.specs.Private.{AreSpelled}
use Rattle.ufmt_scan.proofs.Spelled.{quote_ends, spelled_once}
use Rattle.ufmt_doc.specs.Unquoted.{IsInQuotes}

-- a byte that is decoded is the first of those that are spelled up to the closing quote
pub decoded_first : (q : ℕ) (quote : IsQuote q) (b : ℕ) (u t bs : List ℕ) → t ≡ escaped_byte q b ++ u → t ≡ escaped_bytes q bs ++ q ∷ []
    → (more : List ℕ) × (bs ≡ b ∷ more) × (u ≡ escaped_bytes q more ++ q ∷ [])
decoded_first q quote b u t [] h is = absurd (quote_ends q quote [] b u (sym is ∙ h))
decoded_first q quote b u t (d ∷ bs) h is =
    let first = spelled_once q quote b d u _ (sym h ∙ is ∙ append_assoc (escaped_byte q d) (escaped_bytes q bs) (q ∷ [])) in
    (bs, cc, first.1)

module _ (t inside : List ℕ) (q : ℕ) (front : t ≡ q ∷ inside) (symbol : IsSymbol t) (quote : IsQuote q) where
  is_quoted : IsQuoted t
  is_quoted = elim symbol [
    | inl unit ↦ let parenthesis : q ≡ 40 = ap (λ (u : List ℕ). get_or u 0 0) (sym front ∙ unit) in elim quote [ inl is ↦ absurd (omega arith) | inr is ↦ absurd (omega arith) ]
    | inr is ↦ is
  ]

  -- the bytes that are spelled in a leaf in quotes are a text, and the leaf is that text in quotes
  pub spelled_text : (bytes : List ℕ) → AreSpelled q inside bytes → IsUtf8 bytes × ((text : List ℕ) → text ≡ bytes → IsInQuotes (leaf t) text)
  spelled_text bytes spelled = elim is_quoted [
    | inl text ↦ of_characters 34 text.0 (inl refl) text.1 text.2 (λ s same. inl (ap leaf (text.2 ∙ ap quoted_text (sym same))))
    | inr char ↦ of_characters 39 (char.0 ∷ []) (inr refl) (rw char.1 refl) char.2 (λ s same. inr (char.0, same, ap leaf char.2))
  ]
    where
      of_characters : (k : ℕ) (cs : List ℕ) → IsQuote k → all_scalars cs ≡ true → t ≡ quoted k cs → ((s : List ℕ) → chars s ≡ cs → IsInQuotes (leaf t) s)
          → IsUtf8 bytes × ((s : List ℕ) → s ≡ bytes → IsInQuotes (leaf t) s)
      of_characters k cs is_quote scalars is in_quotes =
          let whole = sym front ∙ is ∙ quoted-bytes k cs is_quote in
          let same : q ≡ k = ap (λ (u : List ℕ). get_or u 0 0) whole in
          let are = spelled (encode_utf8_all cs) (ap (drop 1) whole ∙ ap (λ n. escaped_bytes n (encode_utf8_all cs) ++ n ∷ []) (sym same)) in
          ((cs, (scalars, sym are)), λ s is_bytes. in_quotes s (ap chars (is_bytes ∙ are) ∙ chars-encodes cs scalars))
