-- Words of a text, byte by byte.
use Rattle.std.proofs.Common.{◌≡◌, refl, ap, ℕ, List, [], ◌∷◌, drop, take, arith, inl, inr}
use Rattle.std.proofs.lemmas.Bool.{cases_Bool}
use Rattle.std.specs.Str.{IsAscii}
use Rattle.std.proofs.lemmas.Bool.Decides.{nat_tests}
use Rattle.std.proofs.lemmas.Str.Ascii.{IsAscii-cons, IsAscii-nil}
use Rattle.ufmt_grammar.specs.declared.bytes.ByteClass.TheVariants.{TokenWord}
use Rattle.ufmt_grammar.specs.Reading.{after_word, word_of}
use Rattle.ufmt_grammar.specs.Token.{is_word_byte, IsWordOrEmpty}
use Rattle.ufmt_scan.specs.Private.MarkedBytes.{marked_len}

pub word_bytes_are_ascii : (w : List ℕ) → IsWordOrEmpty w → IsAscii w
word_bytes_are_ascii [] h = IsAscii-nil
word_bytes_are_ascii (c ∷ w) h = let first = h.0 in IsAscii-cons c w (grind (arith, nat_tests)) (word_bytes_are_ascii w h.1)

-- the bytes at the front that are of the class are the word
abbrev IsWordOf : List ℕ → ℕ → Type 0
IsWordOf t n = (take n t ≡ word_of t) × (drop n t ≡ after_word t)

pub words_are_marked : (t : List ℕ) → IsWordOf t (marked_len TokenWord t)
words_are_marked [] = (refl, refl)
words_are_marked (c ∷ t) = elim (cases_Bool (is_word_byte c)) [
  | inl is ↦ let more = words_are_marked t in rw is (ap (λ w. c ∷ w) more.0, more.1)
  | inr is ↦ rw is (refl, refl)
]
