-- The place after one byte more.
use Rattle.std.proofs.Common.{◌≡◌, ◌≢◌, ℕ, ◌+◌, ◌<◌, ◌==◌, Bool, true, false, cond, List, [], ◌∷◌, ◌++◌, length, take, get_or, refl, sym, ap, ◌∙◌, arith, length-append, if◌then◌else◌}
use Rattle.std.specs.Fmt.{char_count, is_char_start}
use Rattle.std.specs.List.{onto_first}
use Rattle.std.proofs.lemmas.Bool.Decides.{nat_tests}
use Rattle.std.proofs.lemmas.List.{take_more}
use Rattle.ufmt.specs.Bytes.{line_feed}
use Rattle.ufmt.specs.Lines.{lines_of}
use Rattle.ufmt.proofs.Columns.{char_count-append, char_count-nil}
use Rattle.ufmt_parse.specs.Places.{IsPlaceAfter}

-- the byte at the end of the last line
abbrev pub onto_last : ℕ → List (List ℕ) → List (List ℕ)
onto_last c [] = (c ∷ []) ∷ []
onto_last c (line ∷ []) = (line ++ c ∷ []) ∷ []
onto_last c (line ∷ next ∷ lines) = line ∷ onto_last c (next ∷ lines)

onto_last-of : (c : ℕ) (earlier : List (List ℕ)) (last : List ℕ) → onto_last c (earlier ++ last ∷ []) ≡ earlier ++ (last ++ c ∷ []) ∷ []
onto_last-of c [] last = refl
onto_last-of c (line ∷ []) last = refl
onto_last-of c (line ∷ next ∷ lines) last = ap (λ ls. line ∷ ls) (onto_last-of c (next ∷ lines) last)

-- a text has at least one line
record HasSome (lines : List (List ℕ)) : Type 0 where
  pub first : List ℕ
  pub others : List (List ℕ)
  pub is : lines ≡ first ∷ others

one_more : (feed : Bool) (b : ℕ) (lines : List (List ℕ)) → HasSome (cond feed ([] ∷ lines) (onto_first b lines))
one_more true b lines = record { first = []; others = lines; is = refl }
one_more false b [] = record { first = b ∷ []; others = []; is = refl }
one_more false b (line ∷ lines) = record { first = b ∷ line; others = lines; is = refl }

some_lines : (text : List ℕ) → HasSome (lines_of text)
some_lines [] = record { first = []; others = []; is = refl }
some_lines (b ∷ text) = one_more (b == line_feed) b (lines_of text)

-- ---- a byte before the first line, and one after the last

onto_both : (feed : Bool) (b c : ℕ) (line : List ℕ) (lines : List (List ℕ))
    → cond feed ([] ∷ onto_last c (line ∷ lines)) (onto_first b (onto_last c (line ∷ lines))) ≡ onto_last c (cond feed ([] ∷ line ∷ lines) (onto_first b (line ∷ lines)))
onto_both true b c line lines = refl
onto_both false b c line [] = refl
onto_both false b c line (next ∷ lines) = refl

feed_after : (feed : Bool) (b : ℕ) (line : List ℕ) (lines : List (List ℕ))
    → cond feed ([] ∷ ((line ∷ lines) ++ [] ∷ [])) (onto_first b ((line ∷ lines) ++ [] ∷ [])) ≡ cond feed ([] ∷ line ∷ lines) (onto_first b (line ∷ lines)) ++ [] ∷ []
feed_after true b line lines = refl
feed_after false b line lines = refl

-- a byte of a line goes to the end of the last line
lines-more : (c : ℕ) → (c == line_feed) ≡ false → (text : List ℕ) → lines_of (text ++ c ∷ []) ≡ onto_last c (lines_of text)
lines-more c other [] = rw other refl
lines-more c other (b ∷ text) =
    let some = some_lines text in
    ap (λ ls. cond (b == line_feed) ([] ∷ ls) (onto_first b ls)) (lines-more c other text ∙ ap (onto_last c) some.is)
    ∙ onto_both (b == line_feed) b c some.first some.others
    ∙ ap (λ ls. onto_last c (cond (b == line_feed) ([] ∷ ls) (onto_first b ls))) (sym some.is)

-- a line feed begins a line
lines-feed : (text : List ℕ) → lines_of (text ++ line_feed ∷ []) ≡ lines_of text ++ [] ∷ []
lines-feed [] = refl
lines-feed (b ∷ text) =
    let some = some_lines text in
    ap (λ ls. cond (b == line_feed) ([] ∷ ls) (onto_first b ls)) (lines-feed text ∙ ap (λ ls. ls ++ [] ∷ []) some.is)
    ∙ feed_after (b == line_feed) b some.first some.others
    ∙ ap (λ ls. cond (b == line_feed) ([] ∷ ls) (onto_first b ls) ++ [] ∷ []) (sym some.is)

-- ---- places

pub place-none : IsPlaceAfter [] 1 1
place-none = record { earlier = []; last = []; lines = refl; line_is = refl; column_is = omega (arith, char_count-nil) }

char_count-byte : (c : ℕ) → char_count (c ∷ []) ≡ (if is_char_start c then 1 else 0) + 0
unfolding char_count
char_count-byte c = refl

is_other : (c : ℕ) → c ≢ line_feed → (c == line_feed) ≡ false
is_other c other = grind (arith, nat_tests)

module _ (text : List ℕ) (i : ℕ) (within : i < length text) (line column : ℕ) (place : IsPlaceAfter (take i text) line column) where
  -- a line feed is on the line before
  pub place-feed : get_or text i 0 ≡ line_feed → IsPlaceAfter (take (i + 1) text) (line + 1) 1
  place-feed is = record {
    earlier = place.earlier ++ place.last ∷ [];
    last = [];
    lines = ap lines_of (take_more text i 0 within ∙ ap (λ c. take i text ++ c ∷ []) is) ∙ lines-feed (take i text) ∙ ap (λ ls. ls ++ [] ∷ []) place.lines;
    line_is = omega (arith, place.line_is, length-append place.earlier (place.last ∷ []));
    column_is = omega (arith, char_count-nil);
  }

  module _ (other : get_or text i 0 ≢ line_feed) where
    place-more : IsPlaceAfter (take (i + 1) text) line (column + (if is_char_start (get_or text i 0) then 1 else 0))
    place-more = let c = get_or text i 0 in record {
      earlier = place.earlier;
      last = place.last ++ c ∷ [];
      lines = ap lines_of (take_more text i 0 within) ∙ lines-more c (is_other c other) (take i text) ∙ ap (onto_last c) place.lines ∙ onto_last-of c place.earlier place.last;
      line_is = place.line_is;
      column_is = omega (arith, place.column_is, char_count-append place.last (c ∷ []), char_count-byte c);
    }

    -- another byte counts if it begins a character
    pub place-character : is_char_start (get_or text i 0) ≡ true → IsPlaceAfter (take (i + 1) text) line (column + 1)
    place-character begins = rw begins at place-more

    pub place-within_character : is_char_start (get_or text i 0) ≡ false → IsPlaceAfter (take (i + 1) text) line column
    place-within_character begins = let same : column + 0 ≡ column = omega arith in rw (begins, same) at place-more
