-- A text of bytes that are in a word whatever follows is a debug leaf.
use Rattle.std.proofs.Common.{refl, ℕ, List, [], ◌∷◌, arith}
use Rattle.std.specs.Prelude.{⊤}
use Rattle.std.specs.Str.{IsAscii}
use Rattle.std.proofs.lemmas.Str.{IsUtf8-from_ascii, is_utf8-from_IsUtf8}
use Rattle.std.proofs.lemmas.Str.Ascii.{IsAscii-cons, IsAscii-nil}
use Rattle.ufmt_grammar.specs.Leaves.{EndsLeaf, IsDebugLeaf, outside}
use Rattle.ufmt_grammar.proofs.ClassTokens.{IsPlainByte, plain_byte_in_word}
use Rattle.ufmt_grammar.proofs.DebugLeaves.{from_beginning}

abbrev pub ArePlain : List ℕ → Type 0
ArePlain [] = ⊤
ArePlain (c ∷ text) = IsPlainByte c × ArePlain text

plain_ends : (text : List ℕ) → ArePlain text → EndsLeaf outside text
plain_ends [] plain = refl
plain_ends (c ∷ text) plain = (outside, rw (plain_byte_in_word c text plain.0) refl, plain_ends text plain.1)

pub plain_is_ascii : (text : List ℕ) → ArePlain text → IsAscii text
plain_is_ascii [] plain = IsAscii-nil
plain_is_ascii (c ∷ text) plain = IsAscii-cons c text plain.0.ascii (plain_is_ascii text plain.1)

pub plain_is_text : (c : ℕ) (text : List ℕ) → ArePlain (c ∷ text) → IsDebugLeaf (c ∷ text)
plain_is_text c text plain = record {
  some = λ none. absurd (cc);
  pieces = from_beginning (c ∷ text) (plain_ends (c ∷ text) plain);
  utf8 = is_utf8-from_IsUtf8 (c ∷ text) (IsUtf8-from_ascii (c ∷ text) (plain_is_ascii (c ∷ text) plain));
}

pub point_is_plain : IsPlainByte 46
point_is_plain = record { word = refl; ascii = omega arith; no_backslash = refl; no_colon = refl }
