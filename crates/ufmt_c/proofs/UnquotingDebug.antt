-- What is decoded of a text in quotation marks that Rust printed, and how much of an input some such text begins with.
use Rattle.std.proofs.Common.{◌≡◌, ◌⊎◌, inl, inr, refl, sym, ap, subst, ◌∙◌, ℕ, suc, ◌+◌, ◌%◌, ◌/◌, ◌<◌, ◌≤◌, ◌&&◌, nat_lt, Bool, true, false, cond, List, [], ◌∷◌, ◌++◌, codes, length, take, drop, get_or, append_assoc, append-nil, length-append, arith}
use Rattle.std.specs.Prelude.{◌≢◌}
use Rattle.std.specs.Char.{IsScalar, digit_char}
use Rattle.std.specs.Char.Escape.{escape_unicode, hex_digit_at}
use Rattle.std.specs.Str.{IsAscii, IsUtf8}
use Rattle.std.proofs.Math.Seq.{drop-append_seam, take-append_seam}
use Rattle.std.proofs.lemmas.Bool.Decides.{nat_tests}
use Rattle.std.proofs.lemmas.List.{append_cancel_left, length-take-le, take_all}
use Rattle.std.proofs.lemmas.Str.{IsAscii-append, IsUtf8-append, IsUtf8-encode, IsUtf8-from_ascii, IsUtf8-nil}
use Rattle.std.proofs.lemmas.Str.Ascii.{IsAscii-cons, IsAscii-nil}
use Rattle.ufmt_core.specs.Quoted.{escaped, escaped_byte}
use Rattle.ufmt_grammar.proofs.QuotedUtf8.{spelling}
use Rattle.ufmt_scan.proofs.Characters.{Written, ascii, past_ascii, is_written}
use Rattle.ufmt_scan.proofs.Spelled.{quote_ends}
use Rattle.ufmt_c.specs.DebugQuotes.{AreQuoted, AreSpelled, IsDebugFront, IsSpelled}
use Rattle.ufmt_c.specs.Quotes.{StopsAt}
use Rattle.ufmt_c.specs.Private.CharacterNumbers.{digit_at, high_digits, low_digits}
use Rattle.ufmt_c.specs.Private.Front.{IsTextAtFront}
use Rattle.ufmt_c.proofs.CharacterNumbers.{number_parts}
use Rattle.ufmt_c.proofs.Spellings.{opens, same_spelling}
use Rattle.ufmt_c.proofs.TextFronts.{length_front, parts, same_front}

-- ---- UTF-8

one_ascii : (b : ℕ) → b < 128 → IsAscii (b ∷ [])
one_ascii b low = IsAscii-cons b [] low IsAscii-nil

digit_ascii : (worth n : ℕ) → IsAscii (digit_at worth n)
digit_ascii worth n = go (nat_lt 1 worth && nat_lt n worth)
  where
    low : (d : ℕ) → d < 16 → digit_char d < 128
    low d small = grind (arith, nat_tests)

    go : (none : Bool) → IsAscii (cond none [] (hex_digit_at worth n ∷ []))
    go true = IsAscii-nil
    go false = one_ascii (hex_digit_at worth n) (low (n / worth % 16) (omega arith))

three_ascii : (a b c : List ℕ) → IsAscii a → IsAscii b → IsAscii c → IsAscii (a ++ (b ++ c))
three_ascii a b c first second third = IsAscii-append a (b ++ c) first (IsAscii-append b c second third)

number_ascii : (n : ℕ) → IsAscii (escape_unicode n)
number_ascii n =
    let high = three_ascii (digit_at 0x10_0000 n) (digit_at 0x1_0000 n) (digit_at 0x1000 n) (digit_ascii 0x10_0000 n) (digit_ascii 0x1_0000 n) (digit_ascii 0x1000 n) in
    let low = three_ascii (digit_at 0x100 n) (digit_at 0x10 n) (digit_at 1 n) (digit_ascii 0x100 n) (digit_ascii 0x10 n) (digit_ascii 1 n) in
    let opening = IsAscii-cons 92 (117 ∷ 123 ∷ []) (omega arith) (IsAscii-cons 117 (123 ∷ []) (omega arith) (one_ascii 123 (omega arith))) in
    subst IsAscii (sym (number_parts n)) (IsAscii-append (codes "\\u{") (high_digits n ++ (low_digits n ++ (125 ∷ []))) opening
    (three_ascii (high_digits n) (low_digits n) (125 ∷ []) high low (one_ascii 125 (omega arith))))

spelling_utf8 : (c : ℕ) (s : List ℕ) → IsScalar c → IsSpelled c s → IsUtf8 s
spelling_utf8 c s scalar (inr is) = subst IsUtf8 (sym is) (IsUtf8-from_ascii (escape_unicode c) (number_ascii c))
spelling_utf8 c s scalar (inl is) = by (is_written 34 (inl refl) c)
  where
    by : Written 34 c → IsUtf8 s
    by (past_ascii high itself b past more written) = subst IsUtf8 (sym (is ∙ itself)) (IsUtf8-encode c scalar)
    by (ascii low written) = subst IsUtf8 (sym (is ∙ written)) (IsUtf8-from_ascii (escaped_byte 34 c) (elim (spelling 34 c (inl refl)) [
      | inl plain ↦ subst IsAscii (sym plain) (one_ascii c low)
      | inr escape ↦ subst IsAscii (sym escape.1) (IsAscii-cons 92 escape.0 (omega arith) escape.2)
    ]))

spellings_utf8 : (cs t : List ℕ) → AreSpelled cs t → IsUtf8 t
unfolding AreSpelled
spellings_utf8 [] t none = subst IsUtf8 (sym none) IsUtf8-nil
spellings_utf8 (c ∷ cs) t (front, rest, is, scalar, first, more) =
    subst IsUtf8 (sym is) (IsUtf8-append front rest (spelling_utf8 c front scalar first) (spellings_utf8 cs rest more))

mark_utf8 : IsUtf8 (34 ∷ [])
mark_utf8 = IsUtf8-from_ascii (34 ∷ []) (one_ascii 34 (omega arith))

front_utf8 : (t : List ℕ) → IsDebugFront t → IsUtf8 t
front_utf8 t (IsDebugFront.nothing is) = subst IsUtf8 (sym is) IsUtf8-nil
front_utf8 t (IsDebugFront.opened cs inside is spelled) = subst IsUtf8 (sym is) (IsUtf8-append (34 ∷ []) inside mark_utf8 (spellings_utf8 cs inside spelled))
front_utf8 t (IsDebugFront.whole cs (inside, is, spelled)) = subst IsUtf8 (sym is)
    (IsUtf8-append (34 ∷ []) (inside ++ (34 ∷ [])) mark_utf8 (IsUtf8-append inside (34 ∷ []) (spellings_utf8 cs inside spelled) mark_utf8))

-- ---- where no character is written

abbrev Ends : List ℕ → Type 0
Ends t = (c : ℕ) (front after : List ℕ) → IsScalar c → IsSpelled c front → t ≢ front ++ after

-- none is at the mark
mark_ends : (t : List ℕ) → Ends (34 ∷ t)
mark_ends t c front after scalar (inr is) same = omega (arith, ap (λ l. get_or l 0 0) (same ∙ ap (λ f. f ++ after) is), (opens c after).first)
mark_ends t c front after scalar (inl is) same = by (is_written 34 (inl refl) c)
  where
    by : Written 34 c → ⊥
    by (ascii low written) = quote_ends 34 (inl refl) t c after (same ∙ ap (λ f. f ++ after) (is ∙ written))
    by (past_ascii high itself b past more written) =
        quote_ends 34 (inl refl) t b (more ++ after) (same ∙ ap (λ f. f ++ after) (is ∙ written) ∙ append_assoc (escaped_byte 34 b) more after)

-- the first character is the same, and what follows it
module _ (c d : ℕ) (front end rest last t u : List ℕ) (scalar : IsScalar c) (other : IsScalar d) (one : IsSpelled c front) (two : IsSpelled d end)
    (same : (front ++ rest) ++ t ≡ (end ++ last) ++ u) where
  first_same : front ≡ end
  first_same = (same_spelling c d front end (rest ++ t) (last ++ u) scalar other one two (sym (append_assoc front rest t) ∙ same ∙ append_assoc end last u)).1

  rest_same : rest ++ t ≡ last ++ u
  rest_same = append_cancel_left front (rest ++ t) (last ++ u) (sym (append_assoc front rest t) ∙ same ∙ append_assoc end last u ∙ ap (λ f. f ++ (last ++ u)) (sym first_same))

-- other characters at the same front aren't longer, where no character follows the first
no_longer : (cs ds s r t u : List ℕ) → AreSpelled cs s → AreSpelled ds r → Ends t → s ++ t ≡ r ++ u → length r ≤ length s
unfolding AreSpelled
no_longer cs [] s r t u spelled none ends same = omega (arith, ap length none)
no_longer [] (d ∷ ds) s r t u nothing (end, last, is, other, two, more) ends same =
    absurd (ends d end (last ++ u) other two (ap (λ l. l ++ t) (sym nothing) ∙ same ∙ ap (λ l. l ++ u) is ∙ append_assoc end last u))
no_longer (c ∷ cs) (d ∷ ds) s r t u (front, rest, are, scalar, one, others) (end, last, is, other, two, more) ends same =
    let whole = ap (λ l. l ++ t) (sym are) ∙ same ∙ ap (λ l. l ++ u) is in
    let first = first_same c d front end rest last t u scalar other one two whole in
    let later = no_longer cs ds rest last t u others more ends (rest_same c d front end rest last t u scalar other one two whole) in
    omega (arith, ap length are, ap length is, length-append front rest, length-append end last, ap length first, later)

-- equal texts in two parts have the same parts, if the first ones are as long
append_same_length : (s r t u : List ℕ) → length s ≡ length r → s ++ t ≡ r ++ u → (s ≡ r) × (t ≡ u)
append_same_length s r t u long same = (
  sym (take-append_seam s t) ∙ ap (take (length s)) same ∙ ap (λ n. take n (r ++ u)) long ∙ take-append_seam r u,
  sym (drop-append_seam s t) ∙ ap (drop (length s)) same ∙ ap (λ n. drop n (r ++ u)) long ∙ drop-append_seam r u,
)

-- the characters end at one place, where none follows them
same_all : (cs ds s r t u : List ℕ) → AreSpelled cs s → AreSpelled ds r → Ends t → Ends u → s ++ t ≡ r ++ u → (s ≡ r) × (t ≡ u)
same_all cs ds s r t u one two ends last same =
    let longer = no_longer cs ds s r t u one two ends same in
    let shorter = no_longer ds cs r s u t two one last (sym same) in
    append_same_length s r t u (omega (arith, longer, shorter)) same

-- ---- an input, whose front is a text

module _ (input front : List ℕ) (h : IsTextAtFront input front) where
  after_front : (n : ℕ) → n ≤ length input → IsDebugFront (take n input) → front ≡ take n input ++ drop n front
  after_front = parts input front h IsDebugFront front_utf8

  -- a text in quotation marks is a front of itself
  all_of_it : (cs : List ℕ) → AreQuoted cs input → IsDebugFront (take (length input) input)
  all_of_it cs quoted = subst IsDebugFront (sym (take_all (length input) input (omega arith))) (IsDebugFront.whole cs quoted)

  some_input : (cs : List ℕ) → AreQuoted cs input → 0 < length input
  some_input cs (inside, is, spelled) = omega (arith, ap length is)

  -- the text doesn't begin with the mark
  module _ (none : (rest : List ℕ) → front ≢ 34 ∷ rest) where
    no_mark : (n : ℕ) → 0 < n → n ≤ length input → IsDebugFront (take n input) → ⊥
    no_mark n some within is = go (take n input) refl is
      where
        go : (t : List ℕ) → t ≡ take n input → IsDebugFront t → ⊥
        go t same (IsDebugFront.nothing empty) = omega (arith, some, ap length (sym same ∙ empty), length-take-le n input within)
        go t same (IsDebugFront.opened cs inside begins spelled) = none _ (after_front n within is ∙ ap (λ s. s ++ drop n front) (sym same ∙ begins))
        go t same (IsDebugFront.whole cs (inside, begins, spelled)) = none _ (after_front n within is ∙ ap (λ s. s ++ drop n front) (sym same ∙ begins))

    pub not_quoted-no_mark : (cs : List ℕ) → ¬ (AreQuoted cs input)
    not_quoted-no_mark cs quoted = no_mark (length input) (some_input cs quoted) (omega arith) (all_of_it cs quoted)

    pub stops-no_mark : StopsAt IsDebugFront input 0
    stops-no_mark = record { within = omega arith; front = IsDebugFront.nothing refl; longest = no_mark }

  -- after the mark characters were decoded, up to where none is written
  module _ (cs done rest : List ℕ) (begun : front ≡ 34 ∷ (done ++ rest)) (spelled : AreSpelled cs done) (ends : Ends rest) where
    -- how long the text is
    counted : length front ≡ 1 + (length done + length rest)
    counted = omega (arith, ap length begun, length-append done rest)

    -- characters after the mark are at most those
    not_more : (n : ℕ) → n ≤ length input → IsDebugFront (take n input) → (ds inside : List ℕ) → take n input ≡ 34 ∷ inside → AreSpelled ds inside → n ≤ 1 + length done
    not_more n within is ds inside begins others =
        let same : done ++ rest ≡ inside ++ drop n front = ap (drop 1) (sym begun ∙ after_front n within is ∙ ap (λ t. t ++ drop n front) begins) in
        omega (arith, no_longer cs ds done inside rest (drop n front) spelled others ends same, ap length begins, length-take-le n input within)

    -- a whole text in quotation marks is those, and the mark
    whole_rest : (n : ℕ) → n ≤ length input → IsDebugFront (take n input) → (ds inside : List ℕ) → take n input ≡ 34 ∷ (inside ++ (34 ∷ [])) → AreSpelled ds inside
        → rest ≡ 34 ∷ drop n front
    whole_rest n within is ds inside begins others =
        let same : done ++ rest ≡ (inside ++ (34 ∷ [])) ++ drop n front = ap (drop 1) (sym begun ∙ after_front n within is ∙ ap (λ t. t ++ drop n front) begins) in
        (same_all cs ds done inside rest (34 ∷ drop n front) spelled others ends (mark_ends (drop n front)) (same ∙ append_assoc inside (34 ∷ []) (drop n front))).1

    whole_of_input : (ds : List ℕ) → AreQuoted ds input → rest ≡ 34 ∷ drop (length input) front
    whole_of_input ds quoted = let (inside, is, others) = quoted in
        whole_rest (length input) (omega arith) (all_of_it ds quoted) ds inside (take_all (length input) input (omega arith) ∙ is) others

    -- no mark follows them
    module _ (no_last : (after : List ℕ) → rest ≢ 34 ∷ after) (place : ℕ) (at : place ≡ 1 + length done) where
      pub not_quoted-misspelled : (ds : List ℕ) → ¬ (AreQuoted ds input)
      not_quoted-misspelled ds quoted = no_last _ (whole_of_input ds quoted)

      longest : (n : ℕ) → place < n → n ≤ length input → IsDebugFront (take n input) → ⊥
      longest n more within is = go (take n input) refl is
        where
          go : (t : List ℕ) → t ≡ take n input → IsDebugFront t → ⊥
          go t same (IsDebugFront.nothing empty) = omega (arith, more, ap length (sym same ∙ empty), length-take-le n input within)
          go t same (IsDebugFront.opened ds inside begins others) = omega (arith, more, at, not_more n within is ds inside (sym same ∙ begins) others)
          go t same (IsDebugFront.whole ds (inside, begins, others)) = no_last _ (whole_rest n within is ds inside (sym same ∙ begins) others)

      pub stops-misspelled : StopsAt IsDebugFront input place
      stops-misspelled =
          let is_length : place ≡ length (34 ∷ done) = omega (arith, at) in
          let begins : take place input ≡ 34 ∷ done =
          same_front input front h place (omega (arith, at, counted)) ∙ ap (take place) begun ∙ ap (λ n. take n (34 ∷ (done ++ rest))) is_length ∙ take-append_seam (34 ∷ done) rest in
          record {
            within = omega (arith, at, counted, length_front input front h);
            front = IsDebugFront.opened cs done begins spelled;
            longest = longest;
          }

    -- the mark follows them, and then the rest of the text
    module _ (after : List ℕ) (last : rest ≡ 34 ∷ after) where
      -- up to and with that mark
      closed : front ≡ (34 ∷ (done ++ (34 ∷ []))) ++ after
      closed = begun ∙ ap (λ r. 34 ∷ (done ++ r)) last ∙ ap (λ t. 34 ∷ t) (sym (append_assoc done (34 ∷ []) after))

      length_closed : length (34 ∷ (done ++ (34 ∷ []))) ≡ 2 + length done
      length_closed = ap suc (length-append done (34 ∷ [])) ∙ omega arith

      module _ (place : ℕ) (at : place ≡ 2 + length done) where
        begins : take place input ≡ 34 ∷ (done ++ (34 ∷ []))
        begins =
            same_front input front h place (omega (arith, at, counted, ap length last)) ∙ ap (take place) closed
            ∙ ap (λ n. take n ((34 ∷ (done ++ (34 ∷ []))) ++ after)) (at ∙ sym length_closed) ∙ take-append_seam (34 ∷ (done ++ (34 ∷ []))) after

        longer : (n : ℕ) → place < n → n ≤ length input → IsDebugFront (take n input) → ⊥
        longer n more within is = go (take n input) refl is
          where
            go : (t : List ℕ) → t ≡ take n input → IsDebugFront t → ⊥
            go t same (IsDebugFront.nothing empty) = omega (arith, more, ap length (sym same ∙ empty), length-take-le n input within)
            go t same (IsDebugFront.opened ds inside opens others) = omega (arith, more, at, not_more n within is ds inside (sym same ∙ opens) others)
            go t same (IsDebugFront.whole ds (inside, opens, others)) =
                let left = ap length (after_front n within is) ∙ length-append (take n input) (drop n front) in
                omega (arith, more, at, counted, ap length (whole_rest n within is ds inside (sym same ∙ opens) others), left, length-take-le n input within)

        pub stops-longer : StopsAt IsDebugFront input place
        stops-longer = record { within = omega (arith, at, counted, ap length last, length_front input front h); front = IsDebugFront.whole cs (done, begins, spelled); longest = longer }

        -- if more follows, the input is none
        pub not_quoted-longer : place < length input → (ds : List ℕ) → ¬ (AreQuoted ds input)
        not_quoted-longer more ds quoted = longer (length input) more (omega arith) (all_of_it ds quoted)

        -- if none does, it is one
        pub quoted_is : length input ≤ place → AreQuoted cs input
        quoted_is all = (done, sym (take_all place input all) ∙ begins, spelled)
