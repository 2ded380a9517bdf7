-- A leaf in quotes is split off the front of a text exactly if one is there.
use Rattle.std.proofs.Common.{◌≡◌, inl, inr, refl, sym, ap, subst, ◌∙◌, ℕ, ◌+◌, ◌-◌, ◌≤◌, ◌==◌, true, false, List, [], ◌∷◌, ◌++◌, length, take, drop, Some, None, encode_utf8, encode_utf8_all, suc, append-nil, append_assoc, length-append, arith}
use Rattle.std.proofs.lemmas.Bool.{cases_Bool}
use Rattle.std.specs.Prelude.{◌≢◌, slice_index, unwrap_or}
use Rattle.std.specs.Str.{IsAscii, IsUtf8, all_scalars, continuation_len}
use Rattle.std.proofs.Math.Seq.{take-append_seam}
use Rattle.std.proofs.lemmas.Bool.Decides.{nat_tests}
use Rattle.std.proofs.lemmas.Str.{IsAscii-append, IsUtf8-from_ascii, length-le-encodes}
use Rattle.ufmt_core.proofs.QuotedBytes.{escape-past_ascii}
use Rattle.ufmt_core.proofs.QuotedCharacters.{escaped_all-bytes}
use Rattle.std.proofs.lemmas.List.{take-append-drop}
use Rattle.std.proofs.lemmas.Str.Ascii.{IsAscii-cons, IsAscii-nil}
use Rattle.ufmt_grammar.specs.Reading.{strip}
use Rattle.ufmt_grammar.proofs.Parsing.{strip_found}
use Rattle.ufmt_scan.specs.Private.MarkedBytes.{marked_len}
use Rattle.ufmt_grammar.specs.Bytes.{is_unescaped}
use Rattle.ufmt_grammar.specs.declared.bytes.ByteClass.TheVariants.{Unescaped}
use Rattle.ufmt_core.specs.Quoted.{IsQuote, IsQuoted, escape, escaped, escaped_all, escaped_byte, escaped_bytes, quoted}
use Rattle.ufmt_grammar.specs.ReadingQuoted.{read_quoted}
use Rattle.ufmt_grammar.proofs.QuotedComplete.{length-escaped_bytes, quoted-bytes, read_quoted-complete}
use Rattle.ufmt_grammar.proofs.QuotedSound.{read_quoted-sound}
use Rattle.ufmt_grammar.proofs.QuotedUtf8.{quoted-utf8}
use Rattle.ufmt_scan.specs.Private.Spelled.{Closes, IsOneCharacter, NeverCloses}
use Rattle.ufmt_scan.proofs.Characters.{Written, ascii, past_ascii, length-led, is_written}
use Rattle.ufmt_scan.proofs.Spelled.{quote_ends, same_bytes, spelled_once}

-- a leaf in quotes at the front of a text
pub record Quotes (t : List ℕ) : Type 0 where
  pub q : ℕ
  pub quote : IsQuote q
  pub cs : List ℕ
  pub scalars : all_scalars cs ≡ true
  pub one : q ≡ 39 → length cs ≡ 1
  pub rest : List ℕ
  pub front : t ≡ quoted q cs ++ rest

quotes : (t leaf rest : List ℕ) → IsQuoted leaf → t ≡ leaf ++ rest → Quotes t
quotes t leaf rest (inl text) h =
    record { q = 34; quote = inl refl; cs = text.0; scalars = text.1; one = λ e. absurd (omega (arith, e)); rest = rest; front = h ∙ ap (λ l. l ++ rest) text.2 }
quotes t leaf rest (inr char) h =
    record { q = 39; quote = inr refl; cs = char.0 ∷ []; scalars = rw char.1 refl; one = λ e. omega arith; rest = rest; front = h ∙ ap (λ l. l ++ rest) char.2 }

pub none_read : (t : List ℕ) → (Quotes t → ⊥) → None ≡ read_quoted t
none_read t none = (elim (read_quoted t) as (λ o. read_quoted t ≡ o → None ≡ o) [
  | None ↦ λ e. refl
  | Some x ↦ λ e. let found = read_quoted-sound t x.0 x.1 e in absurd (none (quotes t x.0 x.1 found.0 found.1))
]) refl

-- a text in apostrophes is a leaf in quotes if it has one character
one_quoted : (leaf cs : List ℕ) → all_scalars cs ≡ true → IsOneCharacter leaf true → leaf ≡ quoted 39 cs → IsQuoted leaf
one_quoted leaf [] scalars one is = let no = one.one [] scalars is in absurd (cc)
one_quoted leaf (c ∷ []) scalars one is = inr (c, grind arith, is)
one_quoted leaf (c ∷ d ∷ cs) scalars one is = let no = one.one (c ∷ d ∷ cs) scalars is in absurd (grind (arith, nat_tests))

-- a text that begins with this byte
module _ (t inside : List ℕ) (q : ℕ) (opens : t ≡ q ∷ inside) where
  by_bytes : (l : Quotes t) → (l.q ≡ q) × (inside ≡ escaped_bytes q (encode_utf8_all l.cs) ++ (q ∷ l.rest))
  by_bytes l =
      let whole : q ∷ inside ≡ l.q ∷ (escaped_bytes l.q (encode_utf8_all l.cs) ++ (l.q ∷ l.rest)) =
      sym opens ∙ l.front ∙ ap (λ x. x ++ l.rest) (quoted-bytes l.q l.cs l.quote)
      ∙ ap (λ v. l.q ∷ v) (append_assoc (escaped_bytes l.q (encode_utf8_all l.cs)) (l.q ∷ []) l.rest) in
      let same : l.q ≡ q = cc in
      (same, subst (λ n. inside ≡ escaped_bytes n (encode_utf8_all l.cs) ++ (n ∷ l.rest)) same (cc))

  pub no_quote : ¬ (IsQuote q) → None ≡ read_quoted t
  no_quote not_one = none_read t (λ l. not_one (subst IsQuote (by_bytes l).0 l.quote))

  pub not_closed : NeverCloses q inside → None ≡ read_quoted t
  not_closed never = none_read t (λ l. never.never (encode_utf8_all l.cs) l.rest (by_bytes l).1)

  -- the same, if `q` is a quote that closes before `rest`
  module _ (rest : List ℕ) (closes : Closes q inside rest) where
    abbrev written : List ℕ → List ℕ
    written bytes = q ∷ (escaped_bytes q bytes ++ (q ∷ []))

    whole : t ≡ written closes.bytes ++ rest
    whole = opens ∙ ap (λ v. q ∷ v) (closes.is ∙ sym (append_assoc (escaped_bytes q closes.bytes) (q ∷ []) rest))

    pub rest_within : length rest ≤ length t
    rest_within = omega (arith, ap length whole, length-append (written closes.bytes) rest)

    module _ (leaf : List ℕ) (front : leaf ≡ take (length t - length rest) t) where
      leaf_is : leaf ≡ written closes.bytes
      leaf_is =
          let far : length t - length rest ≡ length (written closes.bytes) = omega (arith, ap length whole, length-append (written closes.bytes) rest) in
          front ∙ rw far (ap (take (length (written closes.bytes))) whole ∙ take-append_seam (written closes.bytes) rest)

      -- any leaf in quotes at the front is this one
      only : (l : Quotes t) → leaf ≡ quoted q l.cs
      only l =
          let bytes = same_bytes q closes.is_quote closes.bytes (encode_utf8_all l.cs) (q ∷ rest) (q ∷ l.rest) (quote_ends q closes.is_quote rest) (quote_ends q closes.is_quote l.rest)
          (sym closes.is ∙ (by_bytes l).1) in
          leaf_is ∙ ap written bytes.0 ∙ sym (quoted-bytes q l.cs closes.is_quote)

      pub no_text : ¬ (IsUtf8 leaf) → None ≡ read_quoted t
      no_text not_utf8 = none_read t (λ l.
          not_utf8 (subst IsUtf8 (sym (only l ∙ quoted-bytes q l.cs closes.is_quote)) ((quoted-utf8 q closes.is_quote (encode_utf8_all l.cs)).1 (l.cs, (l.scalars, refl)))))

      pub no_character : q ≡ 39 → IsOneCharacter leaf false → None ≡ read_quoted t
      no_character apostrophe one = none_read t (λ l.
          let outcome : false ≡ (length l.cs == 1) = one.one l.cs l.scalars (only l ∙ ap (λ n. quoted n l.cs) apostrophe) in
          absurd (grind (arith, nat_tests, l.one ((by_bytes l).0 ∙ apostrophe))))

      pub is_read : (text : List ℕ) → text ≡ leaf → IsUtf8 leaf → (q ≡ 39 → IsOneCharacter leaf true) → Some (text, rest) ≡ read_quoted t
      is_read text same utf8 one =
          let inside_utf8 = (quoted-utf8 q closes.is_quote closes.bytes).0 (subst IsUtf8 leaf_is utf8) in
          let cs = inside_utf8.0 in
          let is : leaf ≡ quoted q cs = leaf_is ∙ ap written (sym inside_utf8.1.1) ∙ sym (quoted-bytes q cs closes.is_quote) in
          let token : IsQuoted leaf = elim closes.is_quote [
            | inl mark ↦ inl (cs, inside_utf8.1.0, is ∙ ap (λ n. quoted n cs) mark)
            | inr apostrophe ↦ one_quoted leaf cs inside_utf8.1.0 (one apostrophe) (is ∙ ap (λ n. quoted n cs) apostrophe)
          ] in
          ap (λ x. Some (x, rest)) same ∙ sym (ap read_quoted (whole ∙ ap (λ l. l ++ rest) (sym leaf_is)) ∙ read_quoted-complete leaf rest token)

-- the first byte of a character as it is written determines how many bytes follow
abbrev Led : ℕ → Type 0
Led c = (b : ℕ) × (more : List ℕ) × (escaped 39 c ≡ escaped_byte 39 b ++ more) × (length more ≡ continuation_len b)

lead : (c : ℕ) → Led c
lead c = by (is_written 39 (inr refl) c)
  where
    by : Written 39 c → Led c
    by (ascii low is) = (c, [], is ∙ sym (append-nil (escaped_byte 39 c)), grind (arith, nat_tests))
    by (past_ascii high itself b past more is) =
        let whole : encode_utf8 c ≡ b ∷ more = sym itself ∙ is ∙ ap (λ e. unwrap_or e (b ∷ []) ++ more) (escape-past_ascii 39 b (omega arith) past) in
        let long : suc (length more) ≡ 1 + continuation_len b = subst (λ bs. length bs ≡ 1 + continuation_len (slice_index bs 0)) whole (length-led c) in
        (b, more, is, omega (arith, long))

-- so the length of what follows determines whether there is one character
module _ (leaf inside : List ℕ) (x : ℕ) (opens : leaf ≡ x ∷ inside) where
  led : (c : ℕ) (cs : List ℕ) → leaf ≡ quoted 39 (c ∷ cs) → inside ≡ escaped_byte 39 (lead c).0 ++ ((lead c).1 ++ (escaped_all 39 cs ++ (39 ∷ [])))
  led c cs is =
      let inner : inside ≡ (escaped 39 c ++ escaped_all 39 cs) ++ (39 ∷ []) = cc in
      inner ∙ ap (λ e. (e ++ escaped_all 39 cs) ++ (39 ∷ [])) (lead c).2 ∙ simp append_assoc

  pub is_one : (b n : ℕ) (rest : List ℕ) → inside ≡ escaped_byte 39 b ++ rest → n ≡ 1 + continuation_len b → IsOneCharacter leaf (length rest == n)
  is_one b n rest front is = record {
    one = elim [
      | [] ↦ λ scalars whole. absurd (quote_ends 39 (inr refl) [] b rest (cc))
      | c ∷ cs ↦ λ scalars whole.
          let after = escaped_all 39 cs ++ (39 ∷ []) in
          let first = spelled_once 39 (inr refl) b (lead c).0 rest ((lead c).1 ++ after) (sym front ∙ led c cs whole) in
          counted c cs
          (omega (arith, is, ap length first.1, length-append (lead c).1 after, length-append (escaped_all 39 cs) (39 ∷ []), (lead c).3, ap continuation_len first.0))
          (omega (arith, length-le-encodes cs, length-escaped_bytes 39 (encode_utf8_all cs), ap length (escaped_all-bytes 39 (omega arith) cs)))
    ];
  }
    where
      counted : (c : ℕ) (cs : List ℕ) → length rest + 1 ≡ n + (length (escaped_all 39 cs) + 1) → length cs ≤ length (escaped_all 39 cs) → (length rest == n) ≡ (length (c ∷ cs) == 1)
      counted c [] long more = grind (arith, nat_tests)
      counted c (d ∷ cs) long more = grind (arith, nat_tests)

  pub none_written : ((b : ℕ) (rest : List ℕ) → inside ≢ escaped_byte 39 b ++ rest) → IsOneCharacter leaf false
  none_written ends = record {
    one = elim [
      | [] ↦ λ scalars whole. refl
      | c ∷ cs ↦ λ scalars whole. absurd (ends (lead c).0 ((lead c).1 ++ (escaped_all 39 cs ++ (39 ∷ []))) (led c cs whole))
    ];
  }

-- unescaped bytes are ASCII, and each is written as itself
abbrev IsPlain : List ℕ → ℕ → Type 0
IsPlain t n = (escaped_bytes 34 (take n t) ≡ take n t) × IsAscii (take n t)

plain_front : (t : List ℕ) → IsPlain t (marked_len Unescaped t)
plain_front [] = (refl, IsAscii-nil)
plain_front (c ∷ t) = elim (cases_Bool (is_unescaped c)) [
  | inl is ↦
      let more = plain_front t in
      let itself : escape 34 c ≡ None = grind (arith, nat_tests) in
      rw is (rw itself (ap (λ v. c ∷ v) more.0), IsAscii-cons c (take (marked_len Unescaped t) t) (grind (arith, nat_tests)) more.1)
  | inr is ↦ rw is (refl, IsAscii-nil)
]

-- so unescaped bytes between quotation marks are a leaf
module _ (t u end rest leaf : List ℕ) (opening : Some u ≡ strip (34 ∷ []) t) (past : end ≡ drop (marked_len Unescaped u) u) (closing : Some rest ≡ strip (34 ∷ []) end)
    (front : leaf ≡ take (length t - length rest) t) where
  opens : t ≡ 34 ∷ u
  opens = strip_found (34 ∷ []) t u (sym opening)

  abbrev closes : Closes 34 u rest
  closes =
      let stretch = take (marked_len Unescaped u) u in
      let ends : u ≡ stretch ++ (34 ∷ rest) = sym (take-append-drop (marked_len Unescaped u) u) ∙ ap (λ v. stretch ++ v) (sym past ∙ strip_found (34 ∷ []) end rest (sym closing)) in
      record { is_quote = inl refl; bytes = stretch; is = ends ∙ ap (λ v. v ++ (34 ∷ rest)) (sym (plain_front u).0) }

  pub plain_ascii : IsAscii leaf
  plain_ascii = subst IsAscii (sym (leaf_is t u 34 opens rest closes leaf front ∙ ap (λ v. 34 ∷ (v ++ (34 ∷ []))) (plain_front u).0))
      (IsAscii-cons 34 _ (omega arith) (IsAscii-append (take (marked_len Unescaped u) u) (34 ∷ []) (plain_front u).1 (IsAscii-cons 34 [] (omega arith) IsAscii-nil)))

  pub plain_read : (text : List ℕ) → text ≡ leaf → read_quoted t ≡ Some (text, rest)
  plain_read text same = sym (is_read t u 34 opens rest closes leaf front text same (IsUtf8-from_ascii leaf plain_ascii) (λ no. absurd (omega (arith, no))))

-- what the proof of `split_any` cites
pub ruleset any_leaf = (none_read, no_quote, not_closed, no_character, rest_within)
