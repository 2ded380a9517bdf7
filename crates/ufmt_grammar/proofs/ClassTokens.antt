-- Each token document is a debug document.
use Rattle.std.proofs.Common.{◌≡◌, ◌⊎◌, inl, inr, refl, ap, sym, ◌∙◌, subst, ℕ, ◌/◌, ◌%◌, ◌<◌, ◌==◌, ◌||◌, ◌&&◌, nat_lt, nat_le, Bool, true, false, not, List, [], ◌∷◌, ◌++◌, Some, codes, append_assoc, arith}
use borrow.Author.Tests.{ltb-true}
use Rattle.std.specs.Char.{digit_char}
use Rattle.std.specs.Str.{IsAscii, IsUtf8, encode_utf8_all, all_scalars}
use Rattle.std.proofs.lemmas.Bool.{agree_below_at}
use Rattle.std.proofs.lemmas.Bool.Decides.{nat_tests}
use Rattle.std.proofs.lemmas.Str.{IsUtf8-from_ascii, is_utf8-from_IsUtf8}
use Rattle.std.proofs.lemmas.Str.Ascii.{IsAscii-cons, IsAscii-nil}
use Rattle.ufmt_core.specs.Bytes.{apostrophe, backslash, closing_brace, colon, opening_brace, quotation_mark}
use Rattle.ufmt_core.specs.Quoted.{IsQuote, escaped_byte, escaped_bytes, hex_digits, quoted}
use Rattle.ufmt_core.specs.Document.{Document, leaf, joined, list_of, set_of, map_of, struct_of, non_exhaustive_of, tuple_of, pretty_part, Documents, no_documents, first_document, Pairs, no_pairs, first_pair, Fields, no_fields, first_field}
use Rattle.ufmt_grammar.specs.Token.{Token, Debug, IsWord, IsWordOrEmpty, OrEmpty, IsName, IsLeaf, IsBuilt, AreBuilt, PairsAreBuilt, FieldsAreBuilt}
use Rattle.ufmt_grammar.specs.Leaves.{is_word_byte, is_debug_byte, is_control, is_in_word, has_name_bytes, ends_in_colon, opens_quotes, beginning, outside, after_quotes, between, after_backslash, place_after, EndsLeaf, IsTokenLeaf, IsDebugLeaf, IsDebugWord}
use Rattle.ufmt_grammar.specs.ReadingLaws.{TokensAreDebug}
use Rattle.ufmt_grammar.proofs.CharactersClose.{bytes_close}
use Rattle.ufmt_grammar.proofs.ClassLeaves.{unit_leaf}
use Rattle.ufmt_grammar.proofs.DebugLeaves.{at_beginning, from_beginning, step_outside}
use Rattle.ufmt_grammar.proofs.QuotedComplete.{quoted-bytes}
use Rattle.ufmt_grammar.proofs.QuotedDecoded.{each_row}
use Rattle.ufmt_grammar.proofs.QuotedUtf8.{quoted-utf8}
use Rattle.ufmt_grammar.proofs.ReadingWords.{word_bytes}

-- a word byte is a byte of a debug document's words, in ASCII, and no backslash and no colon
pub record IsPlainByte (c : ℕ) : Type 0 where
  pub word : is_debug_byte c ≡ true
  pub ascii : c < 128
  pub no_backslash : (c == backslash) ≡ false
  pub no_colon : (c == colon) ≡ false

word_byte_below : (c : ℕ) → is_word_byte c ≡ true → c < 128
word_byte_below c h = grind (arith, nat_tests)

-- whether each word byte is so
is_plain : ℕ → Bool
is_plain c = not (is_word_byte c) || is_debug_byte c && not (c == backslash) && not (c == colon)

pub word_byte_is_plain : (c : ℕ) → is_word_byte c ≡ true → IsPlainByte c
unfolding is_plain
word_byte_is_plain c h =
    let low = word_byte_below c h in
    let checked = agree_below_at is_plain (λ b. true) 128 c refl low in
    parts (is_debug_byte c) (c == backslash) (c == colon) refl refl refl (sym (ap (λ b. not b || is_debug_byte c && not (c == backslash) && not (c == colon)) h) ∙ checked) low
  where
    parts : (word escapes ends : Bool) → is_debug_byte c ≡ word → (c == backslash) ≡ escapes → (c == colon) ≡ ends → word && not escapes && not ends ≡ true → c < 128 → IsPlainByte c
    parts true true ends e f g k low = absurd (cc)
    parts true false true e f g k low = absurd (cc)
    parts true false false e f g k low = record { word = e; ascii = low; no_backslash = f; no_colon = g }
    parts false escapes ends e f g k low = absurd (cc)

-- such a byte is in a word, whatever follows
pub plain_byte_in_word : (c : ℕ) (t : List ℕ) → IsPlainByte c → is_in_word c t ≡ true
plain_byte_in_word c t h = rw (h.word, h.no_colon, h.no_backslash) refl

-- ---- words

word_ends : (w : List ℕ) → IsWordOrEmpty w → EndsLeaf outside w
word_ends [] h = refl
word_ends (c ∷ w) h = (outside, rw (plain_byte_in_word c w (word_byte_is_plain c h.0)) refl, word_ends w h.1)

word_has_name_bytes : (w : List ℕ) → IsWordOrEmpty w → has_name_bytes w ≡ true
word_has_name_bytes [] h = refl
word_has_name_bytes (c ∷ w) h = rw ((word_byte_is_plain c h.0).word, word_has_name_bytes w h.1) refl

word_ends_in_no_colon : (w : List ℕ) → IsWordOrEmpty w → ends_in_colon w ≡ false
word_ends_in_no_colon [] h = refl
word_ends_in_no_colon (c ∷ []) h = (word_byte_is_plain c h.0).no_colon
word_ends_in_no_colon (c ∷ b ∷ w) h = word_ends_in_no_colon (b ∷ w) h.1

word_is_ascii : (w : List ℕ) → IsWordOrEmpty w → IsAscii w
word_is_ascii [] h = IsAscii-nil
word_is_ascii (c ∷ w) h = IsAscii-cons c w (word_byte_is_plain c h.0).ascii (word_is_ascii w h.1)

word_is_text : (w : List ℕ) → IsWord w → IsDebugLeaf w
word_is_text w h = record {
  some = λ none. absurd (subst IsWord none h);
  pieces = from_beginning w (word_ends w (word_bytes w h));
  utf8 = is_utf8-from_IsUtf8 w (IsUtf8-from_ascii w (word_is_ascii w (word_bytes w h)));
}

word_is_name : (w : List ℕ) → IsWord w → IsDebugWord w
word_is_name w h = record { whole = word_is_text w h; bytes = word_has_name_bytes w (word_bytes w h); ends = word_ends_in_no_colon w (word_bytes w h) }

-- ---- texts and characters in quotes

module _ (q : ℕ) (quote : IsQuote q) where
  -- a byte that stays between the quotes: no control, no backslash, and not the quote
  pub record StaysInside (b : ℕ) : Type 0 where
    pub no_control : is_control b ≡ false
    pub no_quote : (b == q) ≡ false
    pub no_backslash : (b == backslash) ≡ false

  stays : (b : ℕ) (t : List ℕ) → StaysInside b → EndsLeaf (between q) t → EndsLeaf (between q) (b ∷ t)
  stays b t h rest = (between q, rw (h.no_control, h.no_quote, h.no_backslash) refl, rest)

  -- a backslash takes the next byte with it
  escape_ends : (x : ℕ) (t : List ℕ) → (is_control x || nat_le 128 x) ≡ false → EndsLeaf (between q) t → EndsLeaf (between q) (backslash ∷ x ∷ t)
  escape_ends x t plain rest = (after_backslash q, elim quote [ inl e ↦ rw e refl | inr e ↦ rw e refl ], (between q, rw plain refl, rest))

  -- a property of each quote holds of this one
  of_quote : (P : ℕ → Type 0) → P quotation_mark → P apostrophe → P q
  of_quote P mark apostrophe = elim quote [ inl e ↦ subst P (sym e) mark | inr e ↦ subst P (sym e) apostrophe ]

  itself_plain : (b : ℕ) → (b ≡ backslash) ⊎ (b ≡ q) → (is_control b || nat_le 128 b) ≡ false
  itself_plain b (inl e) = rw e refl
  itself_plain b (inr e) = rw e (of_quote (λ c. (is_control c || nat_le 128 c) ≡ false) refl refl)

  digit_stays : (d : ℕ) → d < 16 → StaysInside (digit_char d)
  digit_stays d low = record {
    no_control = grind (arith, nat_tests);
    no_quote = of_quote (λ c. (digit_char d == c) ≡ false) (grind (arith, nat_tests)) (grind (arith, nat_tests));
    no_backslash = grind (arith, nat_tests);
  }

  digits_stay : (b : ℕ) (short : Bool) (t : List ℕ) → nat_lt b 16 ≡ short → b < 128 → EndsLeaf (between q) t → EndsLeaf (between q) (hex_digits b ++ t)
  digits_stay b true t e low rest = rw e (stays (digit_char b) t (digit_stays b (ltb-true b 16 e)) rest)
  digits_stay b false t e low rest = rw e (stays (digit_char (b / 16)) (digit_char (b % 16) ∷ t) (digit_stays (b / 16) (omega arith))
      (stays (digit_char (b % 16)) t (digit_stays (b % 16) (omega arith)) rest))

  brace_stays : (b : ℕ) → (b ≡ opening_brace) ⊎ (b ≡ closing_brace) → StaysInside b
  brace_stays b (inl e) = rw e (record { no_control = refl; no_quote = of_quote (λ c. (opening_brace == c) ≡ false) refl refl; no_backslash = refl })
  brace_stays b (inr e) = rw e (record { no_control = refl; no_quote = of_quote (λ c. (closing_brace == c) ≡ false) refl refl; no_backslash = refl })

  plain_stays : (b : ℕ) → is_control b ≡ false → (b == backslash || b == q) ≡ false → StaysInside b
  plain_stays b no_control itself = parts (b == backslash) (b == q) refl refl itself
    where
      parts : (escapes same : Bool) → (b == backslash) ≡ escapes → (b == q) ≡ same → escapes || same ≡ false → StaysInside b
      parts true same e f h = absurd (cc)
      parts false true e f h = absurd (cc)
      parts false false e f h = record { no_control = no_control; no_quote = f; no_backslash = e }

  -- the spelling of a byte stays between the quotes
  byte_inside : (b : ℕ) (t : List ℕ) → EndsLeaf (between q) t → EndsLeaf (between q) (escaped_byte q b ++ t)
  byte_inside b t rest =
      each_row q b (λ n e. EndsLeaf (between q) (e ++ t)) (escape_ends 48 t refl rest) (escape_ends 116 t refl rest)
      (escape_ends 110 t refl rest) (escape_ends 114 t refl rest) (λ itself. escape_ends b t (itself_plain b itself) rest)
      (λ low. escape_ends 117 (opening_brace ∷ ((hex_digits b ++ codes "}") ++ t)) refl (stays opening_brace ((hex_digits b ++ codes "}") ++ t) (brace_stays opening_brace (inl refl)) (rw (append_assoc (hex_digits b) (codes "}") t)
      (digits_stay b (nat_lt b 16) (closing_brace ∷ t) refl low (stays closing_brace t (brace_stays closing_brace (inr refl)) rest)))))
      (λ no_control itself. stays b t (plain_stays b no_control itself) rest)

  bytes_inside : (bs : List ℕ) → EndsLeaf (between q) (escaped_bytes q bs ++ (q ∷ []))
  bytes_inside [] = (after_quotes, of_quote (λ c. place_after (between c) c [] ≡ Some after_quotes) refl refl, refl)
  bytes_inside (b ∷ bs) = rw (append_assoc (escaped_byte q b) (escaped_bytes q bs) (q ∷ [])) (byte_inside b (escaped_bytes q bs ++ (q ∷ [])) (bytes_inside bs))

  -- characters in quotes are the text of a leaf, if the quotes open
  quoted_is_text : (cs : List ℕ) → all_scalars cs ≡ true → opens_quotes q (escaped_bytes q (encode_utf8_all cs) ++ (q ∷ [])) ≡ true → IsDebugLeaf (quoted q cs)
  quoted_is_text cs scalars opens = record {
    some = λ none. absurd (cc);
    pieces = subst (EndsLeaf beginning) (sym (quoted-bytes q cs quote)) (between q, opened, bytes_inside bytes);
    utf8 = is_utf8-from_IsUtf8 (quoted q cs) (subst IsUtf8 (sym (quoted-bytes q cs quote)) ((quoted-utf8 q quote bytes).1 (cs, (scalars, refl))));
  }
    where
      bytes : List ℕ
      bytes = encode_utf8_all cs

      opened : place_after beginning q (escaped_bytes q bytes ++ (q ∷ [])) ≡ Some (between q)
      opened = at_beginning q (escaped_bytes q bytes ++ (q ∷ [])) (between q) (step_outside q (escaped_bytes q bytes ++ (q ∷ [])) (between q) (inr (inl (opens, refl))))

-- ---- documents

leaf_is_debug : (text : List ℕ) → IsTokenLeaf text → IsLeaf Debug text
leaf_is_debug text h = elim h.shape [
  | inl w ↦ word_is_text text w
  | inr (inl unit) ↦ subst IsDebugLeaf (sym unit) (unit_leaf Debug)
  | inr (inr (inl of_text)) ↦ subst IsDebugLeaf (sym of_text.2) (quoted_is_text quotation_mark (inl refl) of_text.0 of_text.1 refl)
  | inr (inr (inr of_char)) ↦ subst IsDebugLeaf (sym of_char.2) (quoted_is_text apostrophe (inr refl) (of_char.0 ∷ []) (rw of_char.1 refl) (bytes_close of_char.0))
]

name_is_debug : (w : List ℕ) → OrEmpty (IsName Token) w → OrEmpty (IsName Debug) w
name_is_debug [] h = tt
name_is_debug (c ∷ w) h = word_is_name (c ∷ w) h

mutual
  built : (d : Document) → IsBuilt Token d → IsBuilt Debug d
  built (leaf text) h = leaf_is_debug text h
  built (joined ds) h = absurd h
  built (list_of ds) h = built_all ds h
  built (set_of ds) h = built_all ds h
  built (map_of ps) h = built_pairs ps h
  built (struct_of w fs) h = (word_is_name w h.0, built_fields fs h.1)
  built (tuple_of w no_documents) h = word_is_name w h
  built (tuple_of w (first_document d ds)) h = (name_is_debug w h.0, built d h.1, built_all ds h.2)
  built (non_exhaustive_of name fs) h = absurd h.0
  built (pretty_part d) h = absurd h

  built_all : (ds : Documents) → AreBuilt Token ds → AreBuilt Debug ds
  built_all no_documents h = tt
  built_all (first_document d ds) h = (built d h.0, built_all ds h.1)

  built_pairs : (ps : Pairs) → PairsAreBuilt Token ps → PairsAreBuilt Debug ps
  built_pairs no_pairs h = tt
  built_pairs (first_pair key value ps) h = (built key h.0, built value h.1, built_pairs ps h.2)

  built_fields : (fs : Fields) → FieldsAreBuilt Token fs → FieldsAreBuilt Debug fs
  built_fields no_fields h = tt
  built_fields (first_field w value fs) h = (word_is_name w h.0, built value h.1, built_fields fs h.2)

pub tokens_are_debug : TokensAreDebug
tokens_are_debug = λ d h. (built d h.0, h.1)
