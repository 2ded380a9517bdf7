-- The table has the bit of a class at each byte of the class.
use Rattle.std.proofs.Common.{◌≡◌, ◌∙◌, inl, inr, refl, sym, ap, ℕ, ◌≤◌, ◌==◌, not, Bool, true, false, arith}
use Rattle.std.specs.Prelude.{bit_and, slice_index_or}
use Rattle.std.proofs.lemmas.Bool.Decides.{nat_tests}
use Rattle.std.proofs.lemmas.Bool.{agree_below, agree_below_at, cases_lt}
use Rattle.std.proofs.lemmas.List.{get_or_past}
use Rattle.ufmt_grammar.specs.Leaves.{is_continuation, is_debug_byte, is_escape_byte, is_name_byte, is_plain_byte, is_word_byte}
use Rattle.ufmt_grammar.specs.Bytes.{bit_of, ends_name, is_in, is_ending, is_plain_ascii, is_quoted_byte, is_run_byte, is_unescaped}
use Rattle.ufmt_grammar.specs.declared.bytes.ByteClass.{ByteClass}
use Rattle.ufmt_grammar.specs.declared.bytes.ByteClass.TheVariants.{TokenWord, Word, Plain, PlainAscii, Run, Name, Ending, Quoted, Unescaped, Continuation, Escape, AfterName}
use Rattle.ufmt_grammar.specs.declared.bytes.TheConstants.{CLASSES}

abbrev has_bit : ℕ → ℕ → Bool
has_bit mask c = not (bit_and (slice_index_or CLASSES c 0) mask == 0)

-- a bit says what a test does, if it does so for each byte, and nothing past 255 passes
agrees : (mask : ℕ) (test : ℕ → Bool) → agree_below (has_bit mask) test 256 ≡ true → ((c : ℕ) → 256 ≤ c → test c ≡ false) → (c : ℕ) → has_bit mask c ≡ test c
agrees mask test agree past c = elim (cases_lt c 256) [
  | inl low ↦ agree_below_at (has_bit mask) test 256 c agree low
  | inr high ↦ ap (λ b. not (bit_and b mask == 0)) (get_or_past CLASSES c 0 high) ∙ sym (past c high)
]

-- so the table says of each byte and each class whether the byte is of the class
pub table_says : (class : ByteClass) (c bit : ℕ) → bit ≡ bit_of class → not (bit_and (slice_index_or CLASSES c 0) bit == 0) ≡ is_in class c
table_says class c bit is = ap (λ b. has_bit b c) is ∙ elim class as (λ class. has_bit (bit_of class) c ≡ is_in class c) [
  | TokenWord ↦ agrees 1 is_word_byte refl (λ c past. grind (arith, nat_tests)) c
  | Word ↦ agrees 2 is_debug_byte refl (λ c past. grind (arith, nat_tests)) c
  | Plain ↦ agrees 4 is_plain_byte refl (λ c past. grind (arith, nat_tests)) c
  | PlainAscii ↦ agrees 8 is_plain_ascii refl (λ c past. grind (arith, nat_tests)) c
  | Run ↦ agrees 16 is_run_byte refl (λ c past. grind (arith, nat_tests)) c
  | Name ↦ agrees 32 is_name_byte refl (λ c past. grind (arith, nat_tests)) c
  | Ending ↦ agrees 64 is_ending refl (λ c past. grind (arith, nat_tests)) c
  | Quoted ↦ agrees 128 is_quoted_byte refl (λ c past. grind (arith, nat_tests)) c
  | Unescaped ↦ agrees 256 is_unescaped refl (λ c past. grind (arith, nat_tests)) c
  | Continuation ↦ agrees 512 is_continuation refl (λ c past. grind (arith, nat_tests)) c
  | Escape ↦ agrees 1024 is_escape_byte refl (λ c past. grind (arith, nat_tests)) c
  | AfterName ↦ agrees 2048 ends_name refl (λ c past. grind (arith, nat_tests)) c
]
