-- The decimal text of a whole number is a word, so its leaf can be read again.
use Rattle.std.proofs.Common.{◌≡◌, ℕ, ◌+◌, ◌<◌, List, [], ◌∷◌, map, length, true, refl, sym, subst, inl, arith, ℤ, pos, negsuc}
use Rattle.std.specs.List.{All}
use Rattle.std.proofs.lemmas.Bool.{le-leb}
use Rattle.std.proofs.lemmas.List.Elements.{All-head, All-tail}
use Rattle.ufmt_core.specs.Decimal.{decimal, decimal_byte, DenotesDecimal, DenotesMagnitude}
use Rattle.ufmt_core.specs.ValueDocuments.{integer}
use Rattle.ufmt_core.proofs.DecimalTexts.{decimal-denotes}
use Rattle.ufmt_grammar.specs.Token.{is_word_byte, IsWordOrEmpty, IsWord, Token, IsBuilt}

pub decimal_byte_is_word : (digit : ℕ) → digit < 10 → is_word_byte (decimal_byte digit) ≡ true
decimal_byte_is_word digit below = rw (le-leb 48 (48 + digit) (omega arith), le-leb (48 + digit) 57 (omega arith)) refl

digit_bytes : (digits : List ℕ) → All (λ digit. digit < 10) digits → IsWordOrEmpty (map decimal_byte digits)
digit_bytes [] below = tt
digit_bytes (digit ∷ digits) below = (
  decimal_byte_is_word digit (All-head (λ d. d < 10) digit digits below),
  digit_bytes digits (All-tail (λ d. d < 10) digit digits below),
)

digits_are_word : (digits : List ℕ) → 0 < length digits → All (λ digit. digit < 10) digits → IsWord (map decimal_byte digits)
digits_are_word [] some below = absurd (omega arith)
digits_are_word (digit ∷ digits) some below = digit_bytes (digit ∷ digits) below

magnitude_is_word : (text : List ℕ) (n : ℕ) → DenotesMagnitude text n → IsWord text
magnitude_is_word text n denotes = subst IsWord (sym denotes.bytes) (digits_are_word denotes.digits denotes.denotes.some_digit denotes.denotes.below_base)

IsWord-minus : (text : List ℕ) → IsWord text → IsWord (45 ∷ text)
IsWord-minus [] word = absurd word
IsWord-minus (c ∷ text) word = (refl, word)

denoted_is_word : (z : ℤ) (text : List ℕ) → DenotesDecimal text z → IsWord text
denoted_is_word (pos n) text denotes = subst IsWord (sym denotes.signed) (magnitude_is_word denotes.magnitude n denotes.denotes)
denoted_is_word (negsuc n) text denotes = subst IsWord (sym denotes.signed) (IsWord-minus denotes.magnitude (magnitude_is_word denotes.magnitude _ denotes.denotes))

pub decimal_is_word : (z : ℤ) → IsWord (decimal z)
decimal_is_word z = denoted_is_word z (decimal z) (decimal-denotes z)

pub IsBuilt-integer : (z : ℤ) → IsBuilt Token (integer z)
IsBuilt-integer z = record { shape = inl (decimal_is_word z) }
