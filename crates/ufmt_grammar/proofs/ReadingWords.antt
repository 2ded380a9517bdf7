-- Words and what follows them: word bytes, closers, and the longest word at the front of a text.
use Rattle.std.proofs.Common.{◌≡◌, inl, inr, refl, ap, ℕ, Bool, true, false, cond, List, [], ◌∷◌, ◌++◌, arith}
use Rattle.std.proofs.lemmas.Bool.Decides.{nat_tests}
use Rattle.std.proofs.lemmas.Bool.{cases_Bool, false_from_ne_true}
use Rattle.std.specs.Prelude.{⊤}
use Rattle.ufmt_core.specs.Bytes.{closing_brace, closing_bracket, closing_parenthesis, colon, comma}
use Rattle.ufmt_grammar.specs.Leaves.{is_word_byte, IsWordOrEmpty, IsWord, is_closer, is_ender, IsFollower}
use Rattle.ufmt_grammar.specs.Reading.{word_of, after_word}

-- a property of each of the five closers holds of every closer
pub each_closer : (P : ℕ → Type 0) → P comma → P colon → P closing_bracket → P closing_parenthesis → P closing_brace → (c : ℕ) → is_closer c ≡ true → P c
each_closer P of_comma of_colon of_bracket of_parenthesis of_brace c h = grind (arith, nat_tests)

-- a property of a comma and of each closing bracket holds of every ender
pub each_ender : (P : ℕ → Type 0) → P comma → P closing_bracket → P closing_parenthesis → P closing_brace → (c : ℕ) → is_ender c ≡ true → P c
each_ender P of_comma of_bracket of_parenthesis of_brace c h = grind (arith, nat_tests)

-- a byte with a property that no ender has is no ender
pub no_ender : (f : ℕ → Bool) → f comma ≡ false → f closing_bracket ≡ false → f closing_parenthesis ≡ false → f closing_brace ≡ false → (c : ℕ) → f c ≡ true → is_ender c ≡ false
no_ender f comma bracket parenthesis brace c h = false_from_ne_true (is_ender c) (λ e. let none = each_ender (λ b. f b ≡ false) comma bracket parenthesis brace c e in cc (none, h))

pub ender_closes : (c : ℕ) → is_ender c ≡ true → is_closer c ≡ true
ender_closes c h = each_ender (λ b. is_closer b ≡ true) refl refl refl refl c h

pub is_closer-is_word_byte : (c : ℕ) → is_closer c ≡ true → is_word_byte c ≡ false
is_closer-is_word_byte c h = each_closer (λ b. is_word_byte b ≡ false) refl refl refl refl refl c h

-- the text does not begin with a word byte
abbrev pub StopsWord : List ℕ → Type 0
StopsWord [] = ⊤
StopsWord (c ∷ t) = is_word_byte c ≡ false

pub follower_stops : (u : List ℕ) → IsFollower u → StopsWord u
follower_stops [] h = tt
follower_stops (c ∷ []) h = is_closer-is_word_byte c h
follower_stops (c ∷ b ∷ u) (inl h) = is_closer-is_word_byte c h
follower_stops (c ∷ b ∷ u) (inr h) = rw h.0 refl

pub words_whole : (t : List ℕ) → t ≡ word_of t ++ after_word t
words_whole [] = refl
words_whole (c ∷ t) = elim (is_word_byte c) as (λ b. c ∷ t ≡ cond b (c ∷ word_of t) [] ++ cond b (after_word t) (c ∷ t)) [ true ↦ ap (λ u. c ∷ u) (words_whole t) | false ↦ refl ]

pub word_of_bytes : (t : List ℕ) → IsWordOrEmpty (word_of t)
word_of_bytes [] = tt
word_of_bytes (c ∷ t) = elim (cases_Bool (is_word_byte c)) [ inl e ↦ rw e (e, word_of_bytes t) | inr e ↦ rw e tt ]

pub word_of-append : (w u : List ℕ) → IsWordOrEmpty w → StopsWord u → word_of (w ++ u) ≡ w
word_of-append [] [] h stops = refl
word_of-append [] (c ∷ u) h stops = rw stops refl
word_of-append (c ∷ w) u h stops = rw h.0 (ap (λ t. c ∷ t) (word_of-append w u h.1 stops))

pub after_word-append : (w u : List ℕ) → IsWordOrEmpty w → StopsWord u → after_word (w ++ u) ≡ u
after_word-append [] [] h stops = refl
after_word-append [] (c ∷ u) h stops = rw stops refl
after_word-append (c ∷ w) u h stops = rw h.0 (after_word-append w u h.1 stops)

pub word_bytes : (w : List ℕ) → IsWord w → IsWordOrEmpty w
word_bytes [] h = absurd h
word_bytes (c ∷ w) h = h
