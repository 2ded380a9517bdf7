-- The text of a float is a leaf of a debug document, and without a point a word.
use Rattle.std.proofs.Common.{refl, sym, subst, inl, inr, ◌≡◌, ◌≢◌, ◌⊎◌, ℕ, ◌+◌, ◌-◌, List, [], ◌∷◌, true, codes, arith}
use Rattle.std.specs.List.{All}
use Rattle.std.proofs.lemmas.List.Elements.{All-head, All-tail}
use Rattle.std.specs.Float.Numeral.{dot}
use Rattle.ufmt_float.proofs.NumberBytes.{IsNumberByte, AreNumberBytes, IsNumber, number_or_word}
use Rattle.ufmt_grammar.specs.Leaves.{is_word_byte, IsWord, IsWordOrEmpty, IsDebugLeaf}
use Rattle.ufmt_grammar.proofs.ClassTokens.{IsPlainByte, word_byte_is_plain}
use Rattle.ufmt_grammar.proofs.NumbersAreWords.{decimal_byte_is_word}
use Rattle.ufmt_grammar.specs.FloatLaws.{FloatTextsAreLeaves, FloatTextsWithoutPointAreWords}
use Rattle.ufmt_grammar.proofs.PlainLeaves.{ArePlain, plain_is_text, point_is_plain}

-- each byte but the point is one of a word
word_or_point : (c : ℕ) → IsNumberByte c → (is_word_byte c ≡ true) ⊎ (c ≡ dot)
word_or_point c (inl d) = let same : 48 + (c - 48) ≡ c = omega (arith, d.0) in inl (subst (λ b. is_word_byte b ≡ true) same (decimal_byte_is_word (c - 48) (omega (arith, d.1))))
word_or_point c (inr (inl e)) = inl (subst (λ b. is_word_byte b ≡ true) (sym e) refl)
word_or_point c (inr (inr (inl e))) = inr e
word_or_point c (inr (inr (inr e))) = inl (subst (λ b. is_word_byte b ≡ true) (sym e) refl)

plain : (c : ℕ) → (is_word_byte c ≡ true) ⊎ (c ≡ dot) → IsPlainByte c
plain c (inl w) = word_byte_is_plain c w
plain c (inr e) = subst IsPlainByte (sym e) point_is_plain

all_plain : (text : List ℕ) → AreNumberBytes text → ArePlain text
all_plain [] h = tt
all_plain (c ∷ text) h = (plain c (word_or_point c h.0), all_plain text h.1)

number_is_leaf : (text : List ℕ) → IsNumber text → IsDebugLeaf text
number_is_leaf [] n = absurd (omega (arith, n.0))
number_is_leaf (c ∷ text) n = plain_is_text c text (all_plain (c ∷ text) n.1)

word_is_plain : (text : List ℕ) → IsWordOrEmpty text → ArePlain text
word_is_plain [] h = tt
word_is_plain (c ∷ text) h = (word_byte_is_plain c h.0, word_is_plain text h.1)

word_is_leaf : (text : List ℕ) → IsWord text → IsDebugLeaf text
word_is_leaf [] h = absurd h
word_is_leaf (c ∷ text) h = plain_is_text c text (word_is_plain (c ∷ text) h)

-- the three words
are_words : IsWord (codes "NaN") × IsWord (codes "inf") × IsWord (codes "-inf")
are_words = ((refl, (refl, (refl, tt))), (refl, (refl, (refl, tt))), (refl, (refl, (refl, (refl, tt)))))

number_or_is_word : (text : List ℕ) → IsNumber text ⊎ (text ≡ codes "NaN") ⊎ (text ≡ codes "inf") ⊎ (text ≡ codes "-inf") → IsNumber text ⊎ IsWord text
number_or_is_word text (inl n) = inl n
number_or_is_word text (inr (inl e)) = inr (subst IsWord (sym e) are_words.0)
number_or_is_word text (inr (inr (inl e))) = inr (subst IsWord (sym e) are_words.1)
number_or_is_word text (inr (inr (inr e))) = inr (subst IsWord (sym e) are_words.2)

pub float_is_leaf : FloatTextsAreLeaves
float_is_leaf f debug x text float is =
    elim (number_or_is_word text (number_or_word f debug x text float is)) [ inl n ↦ number_is_leaf text n | inr w ↦ word_is_leaf text w ]

no_points : (text : List ℕ) → AreNumberBytes text → All (λ c. c ≢ dot) text → IsWordOrEmpty text
no_points [] h none = tt
no_points (c ∷ text) h none = (elim (word_or_point c h.0) [ inl w ↦ w | inr e ↦ absurd (All-head (λ d. d ≢ dot) c text none e) ], no_points text h.1 (All-tail (λ d. d ≢ dot) c text none))

number_is_word : (text : List ℕ) → IsNumber text → All (λ c. c ≢ dot) text → IsWord text
number_is_word [] n none = absurd (omega (arith, n.0))
number_is_word (c ∷ text) n none = no_points (c ∷ text) n.1 none

pub float_is_word : FloatTextsWithoutPointAreWords
float_is_word f debug x text float is none =
    elim (number_or_is_word text (number_or_word f debug x text float is)) [ inl n ↦ number_is_word text n none | inr w ↦ w ]
