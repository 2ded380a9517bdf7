-- Characters and texts in quotes, taken from the front of a text.
use Rattle.std.proofs.Common.{◌≡◌, inl, inr, refl, sym, ap, subst, ◌∙◌, ℕ, ◌≤◌, List, [], ◌∷◌, ◌++◌, drop, Result, Ok, Err, Some, String, string_bytes, append_assoc, arith}
use Rattle.std.specs.Prelude.{◌≢◌, ⊤}
use Rattle.std.specs.Str.{IsUtf8, chars}
use Rattle.std.proofs.lemmas.Str.{IsUtf8-string_bytes, scalars-chars}
use Rattle.std.specs.Char.{IsScalar}
use Rattle.ufmt_core.specs.Document.{leaf}
use Rattle.ufmt_core.specs.Quoted.{IsQuoted, escaped_bytes, quoted_char, quoted_text}
use Rattle.ufmt_grammar.specs.Reading.{strip}
use Rattle.ufmt_core.proofs.QuotedCharacters.{quoted_text-parts}
use Rattle.ufmt_grammar.proofs.Parsing.{strip_found}
use Rattle.ufmt_grammar.proofs.ClassTokens.{tokens_are_debug}
use Rattle.ufmt_grammar.proofs.QuotedOneWay.{quoted_char_determines}
use Rattle.ufmt_parser.specs.Blocks.{outcome_map}
use Rattle.ufmt_parse_leaves.specs.Spelling.{NeverCloses}
use Rattle.ufmt_parser.specs.Taking.{Fits, Takes}
use Rattle.ufmt_parse_leaves.proofs.SpelledTexts.{closed_once}
use Rattle.ufmt_parser.proofs.Views.{taken_as, viewed}
use Rattle.ufmt_parser.specs.declared.parser.Fault.{Fault}
use Rattle.ufmt_parser.specs.declared.parser.Fault.TheVariants.{NotText}

quoted_fits : (text : List ℕ) (blocks : ℕ) → IsQuoted text → blocks ≤ 255 → Fits blocks (leaf text)
quoted_fits text blocks quoted most = ((tokens_are_debug (leaf text) (record { shape = inr (inr quoted) }, omega arith)).0, omega arith)

module _ (blocks : ℕ) (old new : List ℕ) where
  abbrev IsChar : ℕ → Type 0
  IsChar c = IsScalar c × Fits blocks (leaf (quoted_char c))

  pub char_taken : (c : ℕ) → blocks ≤ 255 → IsScalar c → old ≡ quoted_char c ++ new → Takes IsChar (λ v. quoted_char v) old (Ok c) new
  char_taken c most scalar is = record {
    cases = (
      is,
      (scalar, quoted_fits (quoted_char c) blocks (inr (c, scalar, refl)) most),
      λ w u is_w may same. (quoted_char_determines w c u new is_w.0 scalar (sym same ∙ is)).1,
    );
  }

  pub char_refused : ((c : ℕ) (u : List ℕ) → IsScalar c → old ≢ quoted_char c ++ u) → Takes IsChar (λ v. quoted_char v) old (Err NotText) new
  char_refused none = record { cases = λ w u is_w may same. none w u is_w.0 same }

-- ---- texts, by their bytes

-- the text in quotation marks
abbrev pub quoted_bytes : List ℕ → List ℕ
quoted_bytes bs = quoted_text (chars bs)

module _ (blocks : ℕ) (old new : List ℕ) where
  abbrev pub IsText : List ℕ → Type 0
  IsText bs = IsUtf8 bs × Fits blocks (leaf (quoted_bytes bs))

  -- a text is its quotation marks and its bytes between them
  parts : (bs u : List ℕ) → IsUtf8 bs → quoted_bytes bs ++ u ≡ 34 ∷ (escaped_bytes 34 bs ++ (34 ∷ u))
  parts bs u utf8 = ap (λ t. t ++ u) (quoted_text-parts bs utf8) ∙ ap (λ t. 34 ∷ t) (append_assoc (escaped_bytes 34 bs) (34 ∷ []) u)

  module _ (inside : List ℕ) (opens : Some inside ≡ strip (34 ∷ []) old) where
    within : (w u : List ℕ) → IsUtf8 w → old ≡ quoted_bytes w ++ u → inside ≡ escaped_bytes 34 w ++ (34 ∷ u)
    within w u utf8 same = ap (drop 1) (sym (strip_found (34 ∷ []) old inside (sym opens)) ∙ same ∙ parts w u utf8)

    pub never_closed : NeverCloses inside → Takes IsText quoted_bytes old (Err NotText) new
    never_closed never = record { cases = λ w u is_w may same. never w u (within w u is_w.0 same) }

    module _ (bs after : List ℕ) (closes : inside ≡ escaped_bytes 34 bs ++ (34 ∷ after)) where
      pub no_utf8 : ¬ (IsUtf8 bs) → Takes IsText quoted_bytes old (Err NotText) new
      no_utf8 none = record {
        cases = λ w u is_w may same. none (subst IsUtf8 (closed_once w bs u after (sym (within w u is_w.0 same) ∙ closes)).0 is_w.0);
      }

  pub text_taken : (inside : List ℕ) → Some inside ≡ strip (34 ∷ []) old → (bs : List ℕ) → IsUtf8 bs → blocks ≤ 255
      → inside ≡ escaped_bytes 34 bs ++ (34 ∷ new) → Takes IsText quoted_bytes old (Ok bs) new
  text_taken inside opens bs utf8 most closes = record {
    cases = (
      strip_found (34 ∷ []) old inside (sym opens) ∙ ap (λ t. 34 ∷ t) closes ∙ sym (parts bs new utf8),
      (utf8, quoted_fits (quoted_bytes bs) blocks (inl (chars bs, scalars-chars bs utf8, refl)) most),
      λ w u is_w may same. (closed_once w bs u new (sym (within inside opens w u is_w.0 same) ∙ closes)).1,
    );
  }

  -- each `String` is a text
  pub string_taken : {A : Type 0} {outcome : Result (String A) Fault} → Takes IsText quoted_bytes old (outcome_map string_bytes outcome) new
      → Takes (λ (s : String A). ⊤ × Fits blocks (leaf (quoted_bytes (string_bytes s)))) (λ s. quoted_bytes (string_bytes s)) old outcome new
  string_taken takes = taken_as (λ s is. (tt, is.1)) (λ s fits. (IsUtf8-string_bytes s, fits.1)) (λ s is. refl) (viewed string_bytes takes)
