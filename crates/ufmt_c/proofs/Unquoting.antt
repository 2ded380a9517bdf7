-- What is decoded between quotation marks, and how much of an input some text in quotation marks begins with.
use Rattle.std.proofs.Common.{◌≡◌, inl, inr, refl, sym, ap, subst, ◌∙◌, ℕ, suc, ◌+◌, ◌<◌, ◌≤◌, List, [], ◌∷◌, ◌++◌, length, take, drop, get_or, append_assoc, append-nil, length-append, Option, Some, None, arith}
use Rattle.std.specs.Prelude.{◌≢◌, unwrap_or}
use Rattle.std.specs.Str.{IsUtf8, chars}
use Rattle.std.proofs.Math.Seq.{get_or-append_seam, take-append_seam}
use Rattle.std.proofs.lemmas.Bool.{cases_lt}
use Rattle.std.proofs.lemmas.List.{length-take-le, take-append-drop, take-append-le, take_all}
use Rattle.std.proofs.lemmas.Str.{IsCharBoundary-before_ascii, IsUtf8-append, IsUtf8-from_ascii, IsUtf8-nil, IsUtf8-take, encodes-chars}
use Rattle.std.proofs.lemmas.Str.Ascii.{IsAscii-cons, IsAscii-nil}
use Rattle.ufmt_core.proofs.QuotedBytes.{escape-past_ascii}
use Rattle.ufmt.specs.Quoted.{escaped_byte, escaped_bytes, quoted_text}
use Rattle.ufmt.specs.Reading.{strip}
use Rattle.ufmt_grammar.proofs.Parsing.{strip_joined}
use Rattle.ufmt_grammar.proofs.QuotedComplete.{quoted-bytes}
use Rattle.ufmt_grammar.proofs.QuotedUtf8.{quoted-utf8}
use Rattle.ufmt_scan.proofs.Spelled.{escaped_bytes-append, quote_ends, same_bytes, spelled_once}
use Rattle.ufmt_c.specs.Quotes.{IsFront, StopsAt}
use Rattle.ufmt_c.specs.Private.Front.{IsTextAtFront}
use Rattle.ufmt_c.proofs.TextFronts.{length_front, parts, same_front}

-- one byte more is decoded
pub decoded_more : (b : ℕ) (bytes t rest after : List ℕ) → t ≡ escaped_bytes 34 bytes ++ rest → rest ≡ escaped_byte 34 b ++ after
    → t ≡ escaped_bytes 34 (bytes ++ (b ∷ [])) ++ after
decoded_more b bytes t rest after is turn =
    let one = escaped_bytes-append 34 bytes (b ∷ []) ∙ ap (λ e. escaped_bytes 34 bytes ++ e) (append-nil (escaped_byte 34 b)) in
    is ∙ ap (λ e. escaped_bytes 34 bytes ++ e) turn ∙ sym (append_assoc (escaped_bytes 34 bytes) (escaped_byte 34 b) after) ∙ ap (λ e. e ++ after) (sym one)

-- a text in quotation marks, byte by byte
pub marks : (bytes : List ℕ) → IsUtf8 bytes → quoted_text (chars bytes) ≡ 34 ∷ (escaped_bytes 34 bytes ++ (34 ∷ []))
marks bytes utf8 = quoted-bytes 34 (chars bytes) (inl refl) ∙ ap (λ b. 34 ∷ (escaped_bytes 34 b ++ (34 ∷ []))) (encodes-chars bytes utf8)

-- a text from which the mark isn't split begins with none
pub no_front : (t : List ℕ) → None ≡ strip (34 ∷ []) t → (rest : List ℕ) → t ≢ 34 ∷ rest
no_front t none rest is =
    let some : ◌≡◌ {A = Option (List ℕ)} None (Some rest) = none ∙ ap (strip (34 ∷ [])) is ∙ strip_joined (34 ∷ []) rest in absurd (cc)

-- ---- UTF-8

-- the bytes before an ASCII byte of a text are a text
before_ascii : (xs rest : List ℕ) (c : ℕ) → c < 128 → IsUtf8 (xs ++ (c ∷ rest)) → IsUtf8 xs
before_ascii xs rest c low utf8 =
    let whole = xs ++ (c ∷ rest) in
    let within : length xs < length whole = omega (arith, length-append xs (c ∷ rest)) in
    let ascii : get_or whole (length xs) 0 < 128 = subst (λ b. b < 128) (sym (get_or-append_seam xs c rest 0)) low in
    subst IsUtf8 (take-append_seam xs (c ∷ rest)) (IsUtf8-take whole (length xs) utf8 (IsCharBoundary-before_ascii whole (length xs) within ascii))

one_mark : IsUtf8 (34 ∷ [])
one_mark = IsUtf8-from_ascii (34 ∷ []) (IsAscii-cons 34 [] (omega arith) IsAscii-nil)

-- the spelling of bytes after the mark is a text exactly if they are
open_utf8 : (bytes : List ℕ) → IsUtf8 bytes → IsUtf8 (34 ∷ escaped_bytes 34 bytes)
open_utf8 bytes utf8 = before_ascii (34 ∷ escaped_bytes 34 bytes) [] 34 (omega arith) ((quoted-utf8 34 (inl refl) bytes).1 utf8)

spelled_utf8 : (bytes : List ℕ) → IsUtf8 (34 ∷ escaped_bytes 34 bytes) → IsUtf8 bytes
spelled_utf8 bytes utf8 = (quoted-utf8 34 (inl refl) bytes).0 (IsUtf8-append (34 ∷ escaped_bytes 34 bytes) (34 ∷ []) utf8 one_mark)

front_utf8 : (t : List ℕ) → IsFront t → IsUtf8 t
front_utf8 t (IsFront.nothing is) = subst IsUtf8 (sym is) IsUtf8-nil
front_utf8 t (IsFront.opened bytes utf8 is) = subst IsUtf8 (sym is) (open_utf8 bytes utf8)
front_utf8 t (IsFront.whole bytes utf8 is) = subst IsUtf8 (sym (is ∙ marks bytes utf8)) ((quoted-utf8 34 (inl refl) bytes).1 utf8)

-- ---- spelled bytes

-- no spelling begins here
abbrev Ends : List ℕ → Type 0
Ends t = (b : ℕ) (u : List ℕ) → t ≢ escaped_byte 34 b ++ u

-- other bytes that are spelled at the same front are no longer, where no spelling follows the first
no_longer : (bs cs t u : List ℕ) → Ends t → escaped_bytes 34 bs ++ t ≡ escaped_bytes 34 cs ++ u → length (escaped_bytes 34 cs) ≤ length (escaped_bytes 34 bs)
no_longer bs [] t u ends same = omega arith
no_longer [] (c ∷ cs) t u ends same = absurd (ends c _ (same ∙ append_assoc (escaped_byte 34 c) (escaped_bytes 34 cs) u))
no_longer (b ∷ bs) (c ∷ cs) t u ends same =
    let first = spelled_once 34 (inl refl) b c _ _ (sym (append_assoc (escaped_byte 34 b) (escaped_bytes 34 bs) t) ∙ same ∙ append_assoc (escaped_byte 34 c) (escaped_bytes 34 cs) u) in
    let more = no_longer bs cs t u ends first.1 in
    omega (
      arith,
      more,
      ap (λ n. length (escaped_byte 34 n)) first.0,
      length-append (escaped_byte 34 b) (escaped_bytes 34 bs),
      length-append (escaped_byte 34 c) (escaped_bytes 34 cs),
    )

-- where no spelling begins, the text ends or an ASCII byte comes
ends_ascii : (t : List ℕ) → Ends t → (xs : List ℕ) → IsUtf8 (xs ++ t) → IsUtf8 xs
ends_ascii [] ends xs utf8 = subst IsUtf8 (append-nil xs) utf8
ends_ascii (b ∷ t) ends xs utf8 = elim (cases_lt b 128) [
  | inl low ↦ before_ascii xs t b low utf8
  | inr high ↦ absurd (ends b t (ap (λ e. e ++ t) (sym (ap (λ o. unwrap_or o (b ∷ [])) (escape-past_ascii 34 b (omega arith) high)))))
]

-- ---- an input, whose front is a text

module _ (input front : List ℕ) (h : IsTextAtFront input front) where
  -- a text in quotation marks is a front of itself
  all_of_it : (bytes : List ℕ) → IsUtf8 bytes → input ≡ quoted_text (chars bytes) → IsFront (take (length input) input)
  all_of_it bytes utf8 same = subst IsFront (sym (take_all (length input) input (omega arith))) (IsFront.whole bytes utf8 same)

  -- the text doesn't begin with the mark
  module _ (none : (rest : List ℕ) → front ≢ 34 ∷ rest) where
    no_mark : (n : ℕ) → 0 < n → n ≤ length input → IsFront (take n input) → ⊥
    no_mark n some within is = go (take n input) refl is
      where
        go : (t : List ℕ) → t ≡ take n input → IsFront t → ⊥
        go t same (IsFront.nothing empty) = omega (arith, ap length (sym same ∙ empty), length-take-le n input within)
        go t same (IsFront.opened bytes utf8 begins) = none _ (parts input front h IsFront front_utf8 n within is ∙ ap (λ s. s ++ drop n front) (sym same ∙ begins))
        go t same (IsFront.whole bytes utf8 begins) = none _ (parts input front h IsFront front_utf8 n within is ∙ ap (λ s. s ++ drop n front) (sym same ∙ begins ∙ marks bytes utf8))

    pub not_quoted-no_mark : (bytes : List ℕ) → IsUtf8 bytes → input ≢ quoted_text (chars bytes)
    not_quoted-no_mark bytes utf8 same = no_mark (length input) (omega (arith, ap length (same ∙ marks bytes utf8))) (omega arith) (all_of_it bytes utf8 same)

    pub stops-no_mark : StopsAt IsFront input 0
    stops-no_mark = record { within = omega arith; front = IsFront.nothing refl; longest = no_mark }

  -- after the mark bytes were decoded, up to where no byte is spelled
  module _ (done rest : List ℕ) (spelled : front ≡ 34 ∷ (escaped_bytes 34 done ++ rest)) (ends : Ends rest) where
    pub done_utf8 : IsUtf8 done
    done_utf8 = spelled_utf8 done (ends_ascii rest ends (34 ∷ escaped_bytes 34 done) (subst IsUtf8 spelled h.utf8))

    -- how long the text is
    counted : length front ≡ 1 + (length (escaped_bytes 34 done) + length rest)
    counted = omega (arith, ap length spelled, length-append (escaped_bytes 34 done) rest)

    -- characters after the mark are at most those
    not_more : (n : ℕ) → n ≤ length input → IsFront (take n input) → (bytes : List ℕ) → take n input ≡ 34 ∷ escaped_bytes 34 bytes → n ≤ 1 + length (escaped_bytes 34 done)
    not_more n within is bytes begins =
        let same : escaped_bytes 34 done ++ rest ≡ escaped_bytes 34 bytes ++ drop n front = ap (drop 1) (sym spelled ∙ parts input front h IsFront front_utf8 n within is ∙ ap (λ t. t ++ drop n front) begins) in
        omega (arith, no_longer done bytes rest (drop n front) ends same, ap length begins, length-take-le n input within)

    -- a whole text in quotation marks is those, and the mark
    whole_rest : (n : ℕ) → n ≤ length input → IsFront (take n input) → (bytes : List ℕ) → IsUtf8 bytes → take n input ≡ quoted_text (chars bytes) → rest ≡ 34 ∷ drop n front
    whole_rest n within is bytes utf8 begins =
        let same : escaped_bytes 34 done ++ rest ≡ (escaped_bytes 34 bytes ++ (34 ∷ [])) ++ drop n front
        = ap (drop 1) (sym spelled ∙ parts input front h IsFront front_utf8 n within is ∙ ap (λ t. t ++ drop n front) (begins ∙ marks bytes utf8)) in
        (same_bytes 34 (inl refl) done bytes rest (34 ∷ drop n front) ends (quote_ends 34 (inl refl) (drop n front))
        (same ∙ append_assoc (escaped_bytes 34 bytes) (34 ∷ []) (drop n front))).1

    whole_of_input : (bytes : List ℕ) → IsUtf8 bytes → input ≡ quoted_text (chars bytes) → rest ≡ 34 ∷ drop (length input) front
    whole_of_input bytes utf8 same =
        whole_rest (length input) (omega arith) (all_of_it bytes utf8 same) bytes utf8 (take_all (length input) input (omega arith) ∙ same)

    -- no mark follows them
    module _ (no_last : (after : List ℕ) → rest ≢ 34 ∷ after) (place : ℕ) (at : place ≡ 1 + length (escaped_bytes 34 done)) where
      pub not_quoted-misspelled : (bytes : List ℕ) → IsUtf8 bytes → input ≢ quoted_text (chars bytes)
      not_quoted-misspelled bytes utf8 same = no_last _ (whole_of_input bytes utf8 same)

      longest : (n : ℕ) → place < n → n ≤ length input → IsFront (take n input) → ⊥
      longest n more within is = go (take n input) refl is
        where
          go : (t : List ℕ) → t ≡ take n input → IsFront t → ⊥
          go t same (IsFront.nothing empty) = omega (arith, more, ap length (sym same ∙ empty), length-take-le n input within)
          go t same (IsFront.opened bytes utf8 begins) = omega (arith, more, at, not_more n within is bytes (sym same ∙ begins))
          go t same (IsFront.whole bytes utf8 begins) = no_last _ (whole_rest n within is bytes utf8 (sym same ∙ begins))

      pub stops-misspelled : StopsAt IsFront input place
      stops-misspelled =
          let is_length : place ≡ length (34 ∷ escaped_bytes 34 done) = omega (arith, at) in
          let begins : take place input ≡ 34 ∷ escaped_bytes 34 done
          = same_front input front h place (omega (arith, at, counted)) ∙ ap (take place) spelled ∙ ap (λ n. take n (34 ∷ (escaped_bytes 34 done ++ rest))) is_length
          ∙ take-append_seam (34 ∷ escaped_bytes 34 done) rest in
          record {
            within = omega (arith, at, counted, length_front input front h);
            front = IsFront.opened done done_utf8 begins;
            longest = longest;
          }

    -- the mark follows them, and then the rest of the text
    module _ (after : List ℕ) (last : rest ≡ 34 ∷ after) where
      -- up to and with that mark
      closed : front ≡ (34 ∷ (escaped_bytes 34 done ++ (34 ∷ []))) ++ after
      closed = spelled ∙ ap (λ r. 34 ∷ (escaped_bytes 34 done ++ r)) last ∙ ap (λ t. 34 ∷ t) (sym (append_assoc (escaped_bytes 34 done) (34 ∷ []) after))

      length_closed : length (34 ∷ (escaped_bytes 34 done ++ (34 ∷ []))) ≡ 2 + length (escaped_bytes 34 done)
      length_closed = ap suc (length-append (escaped_bytes 34 done) (34 ∷ [])) ∙ omega arith

      module _ (place : ℕ) (at : place ≡ 2 + length (escaped_bytes 34 done)) where
        begins : take place input ≡ quoted_text (chars done)
        begins =
            same_front input front h place (omega (arith, at, counted, ap length last)) ∙ ap (take place) closed
            ∙ ap (λ n. take n ((34 ∷ (escaped_bytes 34 done ++ (34 ∷ []))) ++ after)) (at ∙ sym length_closed)
            ∙ take-append_seam (34 ∷ (escaped_bytes 34 done ++ (34 ∷ []))) after ∙ sym (marks done done_utf8)

        longer : (n : ℕ) → place < n → n ≤ length input → IsFront (take n input) → ⊥
        longer n more within is = go (take n input) refl is
          where
            go : (t : List ℕ) → t ≡ take n input → IsFront t → ⊥
            go t same (IsFront.nothing empty) = omega (arith, more, ap length (sym same ∙ empty), length-take-le n input within)
            go t same (IsFront.opened bytes utf8 is_open) = omega (arith, more, at, not_more n within is bytes (sym same ∙ is_open))
            go t same (IsFront.whole bytes utf8 is_whole) =
                let left = ap length (parts input front h IsFront front_utf8 n within is) ∙ length-append (take n input) (drop n front) in
                omega (
                  arith,
                  more,
                  at,
                  counted,
                  ap length (whole_rest n within is bytes utf8 (sym same ∙ is_whole)),
                  left,
                  length-take-le n input within,
                )

        pub stops-longer : StopsAt IsFront input place
        stops-longer = record { within = omega (arith, at, counted, ap length last, length_front input front h); front = IsFront.whole done done_utf8 begins; longest = longer }

        -- if more follows, the input is none
        pub not_quoted-longer : place < length input → (bytes : List ℕ) → IsUtf8 bytes → input ≢ quoted_text (chars bytes)
        not_quoted-longer more bytes utf8 same = longer (length input) more (omega arith) (all_of_it bytes utf8 same)

        -- if none does, it is one
        pub quoted_is : length input ≤ place → input ≡ quoted_text (chars done)
        quoted_is all = sym (take_all place input all) ∙ begins
