-- Examples of words, token documents, normal forms and followers, computed.
use Rattle.std.proofs.Common.{◌≡◌, ℕ, zero, suc, map, true, false, codes, refl, inl, inr, arith}
use Rattle.std.proofs.lemmas.Bool.{false≢true, true≢false}
use Rattle.ufmt_core.specs.Document.{Document, leaf, joined, list_of, set_of, map_of, struct_of, tuple_of, pretty_part, Documents, no_documents, first_document, no_pairs, first_pair, no_fields, first_field, nest}
use Rattle.ufmt_grammar.specs.Leaves.{is_debug_byte}
use Rattle.ufmt_grammar.specs.Token.{is_word_byte, IsWord, Token, Debug, IsBuilt, IsTokenDocument, normal, is_closer, IsFollower, MayFollow}
use Rattle.ufmt_grammar.proofs.ClassLeaves.{leaf_begins, unit_leaf}
use Rattle.ufmt_grammar.proofs.ClassLines.{IsBuilt-HasNoLineFeed}

-- ---- words

-- the first and last digits and letters, `_` and `-`
word-bytes : map is_word_byte (codes "09AZaz_-") ≡ map (λ c. true) (codes "09AZaz_-")
word-bytes = refl

-- the bytes next to those, and some others
other-bytes : map is_word_byte (codes "/:@[`{,.\n \u{7f}") ≡ map (λ c. false) (codes "/:@[`{,.\n \u{7f}")
other-bytes = refl

other-byte-128 : is_word_byte 128 ≡ false
other-byte-128 = refl

IsWord-name : IsWord (codes "a_1")
IsWord-name = (refl, (refl, (refl, tt)))

IsWord-number : IsWord (codes "-7")
IsWord-number = (refl, (refl, tt))

IsWord-not-empty : IsWord (codes "") → ⊥
IsWord-not-empty h = h

IsWord-not-spaced : IsWord (codes "a b") → ⊥
IsWord-not-spaced h = false≢true h.1.0

-- ---- token documents

abbrev one : Document
one = leaf (codes "1")

abbrev lone : Document → Documents
lone d = first_document d no_documents

IsBuilt-one : IsBuilt Token one
IsBuilt-one = record { shape = inl (refl, tt) }

IsTokenDocument-unit : IsTokenDocument (leaf (codes "()"))
IsTokenDocument-unit = (unit_leaf Token, omega arith)

IsTokenDocument-not-empty_leaf : IsTokenDocument (leaf (codes "")) → ⊥
IsTokenDocument-not-empty_leaf h = let begins = leaf_begins Token (codes "") h.0 in let none = begins.is in absurd (cc)

IsTokenDocument-not-line_feed : IsTokenDocument (leaf (codes "\n")) → ⊥
IsTokenDocument-not-line_feed h = let line = IsBuilt-HasNoLineFeed Token (leaf (codes "\n")) h.0 in line.0 refl

-- a struct with an empty set and a tuple without a name
IsTokenDocument-settings : IsTokenDocument (struct_of (codes "S") (first_field (codes "m") (set_of no_documents) (first_field (codes "n") (tuple_of (codes "") (lone one)) no_fields)))
IsTokenDocument-settings = (((refl, tt), ((refl, tt), tt, ((refl, tt), (tt, IsBuilt-one, tt), tt))), omega arith)

IsTokenDocument-map : IsTokenDocument (map_of (first_pair one one no_pairs))
IsTokenDocument-map = ((IsBuilt-one, IsBuilt-one, tt), omega arith)

-- only a tuple with fields may have an empty name
IsTokenDocument-not-empty_tuple : IsTokenDocument (tuple_of (codes "") no_documents) → ⊥
IsTokenDocument-not-empty_tuple h = h.0

IsTokenDocument-not-empty_struct : IsTokenDocument (struct_of (codes "") (first_field (codes "n") one no_fields)) → ⊥
IsTokenDocument-not-empty_struct h = h.0.0

IsTokenDocument-not-empty_field_name : IsTokenDocument (struct_of (codes "S") (first_field (codes "") one no_fields)) → ⊥
IsTokenDocument-not-empty_field_name h = h.0.1.0

IsTokenDocument-not-joined : IsTokenDocument (list_of (lone (joined no_documents))) → ⊥
IsTokenDocument-not-joined h = h.0.0

IsTokenDocument-not-pretty_part : IsTokenDocument (pretty_part one) → ⊥
IsTokenDocument-not-pretty_part h = h.0

-- an empty list in k lists
abbrev nested : ℕ → Document
nested zero = list_of no_documents
nested (suc k) = list_of (lone (nested k))

nest-nested : (k : ℕ) → nest (nested k) ≡ k
nest-nested zero = refl
nest-nested (suc k) = omega (arith, nest-nested k)

IsBuilt-nested : (k : ℕ) → IsBuilt Token (nested k)
IsBuilt-nested zero = tt
IsBuilt-nested (suc k) = (IsBuilt-nested k, tt)

-- 255 blocks with entries may be nested around an empty one
IsTokenDocument-nested : IsTokenDocument (nested 255)
IsTokenDocument-nested = (IsBuilt-nested 255, omega (arith, nest-nested 255))

IsTokenDocument-not-nested : IsTokenDocument (nested 256) → ⊥
IsTokenDocument-not-nested h = omega (arith, nest-nested 256, h.1)

-- ---- normal forms

normal-struct : normal (struct_of (codes "A") no_fields) ≡ leaf (codes "A")
normal-struct = refl

normal-tuple : normal (tuple_of (codes "A") no_documents) ≡ leaf (codes "A")
normal-tuple = refl

normal-set : normal (set_of no_documents) ≡ map_of no_pairs
normal-set = refl

normal-list : normal (list_of no_documents) ≡ list_of no_documents
normal-list = refl

-- the normal form is taken at every level
normal-inside : normal (struct_of (codes "S")
    (first_field (codes "a") (map_of (first_pair (tuple_of (codes "K") no_documents) (set_of no_documents) no_pairs))
    (first_field (codes "b") (set_of (lone (struct_of (codes "B") no_fields))) no_fields)))
    ≡ struct_of (codes "S") (first_field (codes "a") (map_of (first_pair (leaf (codes "K")) (map_of no_pairs) no_pairs))
    (first_field (codes "b") (set_of (lone (leaf (codes "B")))) no_fields))
normal-inside = refl

normal-parts : normal (joined (lone (pretty_part (tuple_of (codes "T") (lone (set_of no_documents))))))
    ≡ joined (lone (pretty_part (tuple_of (codes "T") (lone (map_of no_pairs)))))
normal-parts = refl

-- ---- followers

closers : map is_closer (codes ",:])}") ≡ map (λ c. true) (codes ",:])}")
closers = refl

other-closers : map is_closer (codes "[({ \n;a") ≡ map (λ c. false) (codes "[({ \n;a")
other-closers = refl

IsFollower-empty : IsFollower (codes "")
IsFollower-empty = tt

IsFollower-comma : IsFollower (codes ",")
IsFollower-comma = refl

IsFollower-colon : IsFollower (codes ": 1")
IsFollower-colon = inl refl

IsFollower-brace : IsFollower (codes " }")
IsFollower-brace = inr (refl, refl)

IsFollower-not-space : IsFollower (codes " ") → ⊥
IsFollower-not-space h = false≢true h

IsFollower-not-opening : IsFollower (codes " {") → ⊥
IsFollower-not-opening h = elim h [ inl e ↦ false≢true e | inr e ↦ omega (arith, e.1) ]

IsFollower-not-word : IsFollower (codes "a,") → ⊥
IsFollower-not-word h = elim h [ inl e ↦ false≢true e | inr e ↦ omega (arith, e.0) ]

-- ---- words, leaves and followers of debug documents

-- the bytes that no word of a debug document has: controls, space, quotes, brackets, comma and colon
debug-bytes : map is_debug_byte (codes "!#$%&*+-./09;<=>?@AZ\\^_`az|~") ≡ map (λ c. true) (codes "!#$%&*+-./09;<=>?@AZ\\^_`az|~")
debug-bytes = refl

other-debug-bytes : map is_debug_byte (codes "\0\n\u{1f}\u{7f} \"'(),:[]{}") ≡ map (λ c. false) (codes "\0\n\u{1f}\u{7f} \"'(),:[]{}")
other-debug-bytes = refl

MayFollow-colon : MayFollow Debug (codes ": 1")
MayFollow-colon = inr (inl (refl, refl, refl))

MayFollow-not-colon : MayFollow Debug (codes ":1") → ⊥
MayFollow-not-colon h = elim h [ inl e ↦ false≢true e | inr k ↦ elim k [ inl e ↦ omega (arith, e.1) | inr e ↦ omega (arith, e.0) ] ]

-- the colon of `a:` in `S { n: a: }` belongs to the leaf
MayFollow-not-brace : MayFollow Debug (codes ": }") → ⊥
MayFollow-not-brace h = elim h [ inl e ↦ false≢true e | inr k ↦ elim k [ inl e ↦ true≢false e.2 | inr e ↦ omega (arith, e.0) ] ]
