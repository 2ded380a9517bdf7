-- Leaves of debug documents that are words in ASCII, and texts in quotes.
use Rattle.std.proofs.Common.{◌≡◌, inl, inr, refl, ap, sym, ◌∙◌, ℕ, suc, ◌<◌, ◌≤◌, ◌==◌, ◌&&◌, not, nat_lt, true, false, cond, List, [], ◌∷◌, ◌++◌, length, length-drop, take, drop, Some, arith, ◌||◌}
use Rattle.std.proofs.lemmas.Bool.{cases_Bool}
use Rattle.std.specs.Prelude.{◌≢◌, ◌-◌}
use Rattle.std.specs.Str.{IsAscii, encode_utf8_all}
use Rattle.std.proofs.lemmas.Bool.Decides.{nat_tests}
use Rattle.std.proofs.lemmas.Str.{IsUtf8-from_ascii}
use Rattle.std.proofs.lemmas.Str.Ascii.{IsAscii-cons, IsAscii-nil}
use borrow.Author.Tests.{ltb-true}
use Rattle.ufmt_grammar.specs.Leaves.{beginning, outside, is_plain_byte, is_spaced, is_debug_byte, has_name_bytes, ends_in_colon, IsDebugLeaf}
use Rattle.ufmt_grammar.specs.Reading.{leaf_from, after_leaf}
use Rattle.ufmt_core.specs.Document.{leaf}
use Rattle.ufmt_core.specs.Quoted.{IsQuote, IsQuoted, escaped_bytes, quoted}
use Rattle.ufmt_grammar.specs.ReadingQuoted.{read_quoted}
use Rattle.ufmt_grammar.proofs.ClassTokens.{tokens_are_debug}
use Rattle.ufmt_grammar.proofs.DebugLeaves.{after_leaf-append, some_begun, last_is_outside, leaf_from-append, both}
use Rattle.ufmt_grammar.proofs.QuotedComplete.{quoted-bytes}
use Rattle.ufmt_grammar.proofs.QuotedSound.{read_quoted-sound}
use Rattle.ufmt_grammar.specs.declared.class.Class.TheVariants.{Debug}
use Rattle.ufmt_scan.specs.declared.front.Front.{Front}
use Rattle.ufmt_scan.specs.Private.Fronts.{EndsAt, IsSplit, Passes, is_started}
use Rattle.ufmt_scan.specs.Private.MarkedBytes.{marked_len}
use Rattle.ufmt_grammar.specs.Bytes.{is_in}
use Rattle.ufmt_grammar.specs.declared.bytes.ByteClass.TheVariants.{PlainAscii}
use Rattle.ufmt_scan.proofs.DebugFronts.{NoneNext, ends_leaf, leaf_splits, not_started}
use Rattle.ufmt_scan.proofs.PassedBytes.{passes_none, passes_then, plain_is, word_passes}

-- a word byte in ASCII
record IsAsciiByte (c : ℕ) : Type 0 where
  word : is_plain_byte c ≡ true
  low : c < 128

marked_in_ascii : (c : ℕ) → is_in PlainAscii c ≡ true → IsAsciiByte c
marked_in_ascii c h = let parts = both (is_plain_byte c) (nat_lt c 128) h in record { word = parts.0; low = ltb-true c 128 parts.1 }

-- bytes at the front, and what is left after them
record PassesAscii (t : List ℕ) (n : ℕ) : Type 0 where
  passes : Passes outside t outside (drop n t) true
  ascii : IsAscii (take n t)
  no_colon : ends_in_colon (take n t) ≡ false

plain_no_colon : (c : ℕ) → is_plain_byte c ≡ true → (c == 58) ≡ false
plain_no_colon c h = let word = (plain_is c h).word in grind (arith, nat_tests)

no_colon_before : (c : ℕ) (w : List ℕ) → (c == 58) ≡ false → ends_in_colon w ≡ false → ends_in_colon (c ∷ w) ≡ false
no_colon_before c [] first last = first
no_colon_before c (b ∷ w) first last = last

ascii_run : (t : List ℕ) → PassesAscii t (marked_len PlainAscii t)
ascii_run [] = record { passes = passes_none outside []; ascii = IsAscii-nil; no_colon = refl }
ascii_run (c ∷ t) = elim (cases_Bool (is_in PlainAscii c)) [
  | inl is ↦
      let byte = marked_in_ascii c is in
      let more = ascii_run t in
      rw is (record {
        passes = passes_then (word_passes c t byte.word) more.passes;
        ascii = IsAscii-cons c (take (marked_len PlainAscii t) t) byte.low more.ascii;
        no_colon = no_colon_before c (take (marked_len PlainAscii t) t) (plain_no_colon c byte.word) more.no_colon;
      })
  | inr is ↦ rw is (record { passes = passes_none outside (c ∷ t); ascii = IsAscii-nil; no_colon = refl })
]

none_at : (t : List ℕ) → EndsAt t → NoneNext t
none_at [] h = tt
none_at (c ∷ t) h = h.0

module _ (t word : List ℕ) (n : ℕ) (len : n ≡ marked_len PlainAscii t) (front : word ≡ take n t) where
  pub word_is_ascii : IsAscii word
  word_is_ascii = rw (front, len) (ascii_run t).ascii

  -- a word in ASCII at the front is the leaf, if the leaf ends after it
  pub word_splits : (rest : List ℕ) → n ≤ length t → rest ≡ drop n t → EndsAt rest → is_started t ≡ false
      → (found : Front) → found.text.now ≡ word → found.rest.now ≡ rest → found.is_name ≡ true → IsSplit Debug t found
  word_splits rest within is ends bare found text after named =
      let count : length t - length rest ≡ n = omega (arith, within, ap length is, length-drop n t) in
      let passes : Passes outside t outside rest true = rw (is, len) (ascii_run t).passes in
      let no_colon : ends_in_colon word ≡ false = rw (front, len) (ascii_run t).no_colon in
      leaf_splits t rest word true (ends_leaf t t rest true (not_started t bare) passes (none_at rest ends)) (front ∙ sym (ap (λ k. take k t) count)) found text after
      (named ∙ sym (ap not no_colon)) (IsUtf8-from_ascii word word_is_ascii)

-- a leaf with a start begins with no word
pub started_by_bracket : (t : List ℕ) (n : ℕ) → n ≡ marked_len PlainAscii t → n ≢ 0 → is_started t ≡ false
started_by_bracket [] n len some = refl
started_by_bracket (c ∷ t) n len some = elim (cases_Bool (is_in PlainAscii c)) [
  | inl e ↦ bare (marked_in_ascii c e).word
  | inr e ↦ absurd (some (len ∙ ap (λ b. cond b (suc (marked_len PlainAscii t)) 0) e))
]
  where
    bare : is_plain_byte c ≡ true → is_started (c ∷ t) ≡ false
    bare word =
        let no_parenthesis : (c == 40) ≡ false = grind (arith, nat_tests) in
        let no_bracket : (c == 91) ≡ false = grind (arith, nat_tests) in
        rw (no_parenthesis, no_bracket) refl

-- a text whose last byte is no colon
ends_otherwise : (w : List ℕ) (c : ℕ) → (c == 58) ≡ false → ends_in_colon (w ++ c ∷ []) ≡ false
ends_otherwise [] c h = h
ends_otherwise (b ∷ []) c h = h
ends_otherwise (b ∷ d ∷ w) c h = ends_otherwise (d ∷ w) c h

-- a text in quotes at the front, as a token document has it, is the leaf if the leaf ends after it
module _ (t text rest : List ℕ) (reads : read_quoted t ≡ Some (text, rest)) where
  is_quoted : IsQuoted text
  is_quoted = (read_quoted-sound t text rest reads).0

  whole_text : t ≡ text ++ rest
  whole_text = (read_quoted-sound t text rest reads).1

  -- its first byte is no name's, and its last is no colon
  record IsUnnamed (w : List ℕ) : Type 0 where
    bytes : has_name_bytes w ≡ false
    ends : ends_in_colon w ≡ false

  quotes_unnamed : (q : ℕ) (cs : List ℕ) → IsQuote q → text ≡ quoted q cs → is_debug_byte q || q == 58 ≡ false → IsUnnamed text
  quotes_unnamed q cs quote is unnamed =
      let spelled = is ∙ quoted-bytes q cs quote in
      record { bytes = rw (spelled, unnamed) refl; ends = ap ends_in_colon spelled ∙ ends_otherwise (q ∷ escaped_bytes q (encode_utf8_all cs)) q (no_colon quote) }
    where
      no_colon : IsQuote q → (q == 58) ≡ false
      no_colon (inl e) = rw e refl
      no_colon (inr e) = rw e refl

  unnamed : IsUnnamed text
  unnamed = elim is_quoted [
    | inl of_text ↦ quotes_unnamed 34 of_text.0 (inl refl) of_text.2 refl
    | inr of_char ↦ quotes_unnamed 39 (of_char.0 ∷ []) (inr refl) of_char.2 refl
  ]

  is_debug_leaf : IsDebugLeaf text
  is_debug_leaf = (tokens_are_debug (leaf text) (record { shape = inr (inr is_quoted) }, omega arith)).0

  pub quotes_some : text ≢ []
  quotes_some = is_debug_leaf.some

  pub quotes_split : EndsAt rest → (found : Front) → found.text.now ≡ text → found.rest.now ≡ rest → found.is_name ≡ false → IsSplit Debug t found
  quotes_split stops found same after named =
      let pieces = is_debug_leaf.pieces in
      let seam : ends_in_colon text ≡ true → is_spaced rest ≡ false = λ ends. absurd (cc (ends, unnamed.ends)) in
      let front : leaf_from beginning t ≡ text = ap (leaf_from beginning) whole_text ∙ leaf_from-append beginning text rest (some_begun beginning text is_debug_leaf.some) pieces stops seam in
      record {
        text = same ∙ sym front;
        rest = after ∙ sym (ap (after_leaf beginning) whole_text ∙ after_leaf-append beginning text rest (some_begun beginning text is_debug_leaf.some) pieces stops seam);
        name = named ∙ sym (ap (λ w. has_name_bytes w && not (ends_in_colon w)) front ∙ rw unnamed.bytes refl);
        whole = rw (front, last_is_outside beginning text pieces, is_debug_leaf.utf8) refl;
      }
