-- Bytes that are ASCII and written as themselves.
use Rattle.std.proofs.Common.{◌≡◌, ap, ◌∙◌, refl, sym, ℕ, zero, suc, ◌+◌, ◌<◌, ◌&&◌, true, List, [], ◌∷◌, ◌++◌, length, take, drop, slice_index, None, arith}
use Rattle.std.specs.Prelude.{unwrap_or}
use Rattle.std.specs.Str.{IsAscii}
use Rattle.std.proofs.Math.Bool.{and-true, and_assoc}
use Rattle.std.proofs.lemmas.Bool.{and_parts}
use Rattle.std.proofs.lemmas.Bool.Decides.{nat_tests}
use Rattle.std.proofs.lemmas.Str.Ascii.{IsAscii-cons, IsAscii-nil}
use Rattle.ufmt_core.specs.Quoted.{escape, escaped_bytes}
use Rattle.ufmt_parse_leaves.specs.Spelling.{all_plain, is_plain}

-- one byte more
pub plain_next : (i : ℕ) (t : List ℕ) → i < length t → all_plain (take (i + 1) t) ≡ all_plain (take i t) && is_plain (slice_index t i)
plain_next i [] less = absurd (omega (arith, less))
plain_next zero (b ∷ t) less = and-true (is_plain b)
plain_next (suc i) (b ∷ t) less = let more : suc i + 1 ≡ suc (i + 1) = omega arith in rw more (ap (λ rest. is_plain b && rest) (plain_next i t (omega (arith, less))) ∙ sym (and_assoc (is_plain b) (all_plain (take i t)) (is_plain (slice_index t i))))

-- some bytes more
pub plain_more : (i n : ℕ) (t : List ℕ) → all_plain (take i t) ≡ true → all_plain (take n (drop i t)) ≡ true → all_plain (take (i + n) t) ≡ true
plain_more zero n t front more = let same : 0 + n ≡ n = omega arith in rw same more
plain_more (suc i) n [] front more = let less : suc i + n ≡ suc (i + n) = omega arith in rw less refl
plain_more (suc i) n (b ∷ t) front more =
    let both = and_parts (is_plain b) (all_plain (take i t)) front in
    let less : suc i + n ≡ suc (i + n) = omega arith in
    rw less (ap (λ rest. is_plain b && rest) (plain_more i n t both.1 more) ∙ and-true (is_plain b) ∙ both.0)

plain_low : (b : ℕ) → is_plain b ≡ true → b < 128
plain_low b plain = grind (arith, nat_tests)

-- plain bytes are ASCII
pub plain_ascii : (t : List ℕ) → all_plain t ≡ true → IsAscii t
plain_ascii [] plain = IsAscii-nil
plain_ascii (b ∷ t) plain = let both = and_parts (is_plain b) (all_plain t) plain in IsAscii-cons b t (plain_low b both.0) (plain_ascii t both.1)

plain_unescaped : (b : ℕ) → is_plain b ≡ true → escape 34 b ≡ None
plain_unescaped b plain = grind (arith, nat_tests)

-- and are written as themselves
pub plain_itself : (t : List ℕ) → all_plain t ≡ true → escaped_bytes 34 t ≡ t
plain_itself [] plain = refl
plain_itself (b ∷ t) plain =
    let both = and_parts (is_plain b) (all_plain t) plain in
    ap (λ e. unwrap_or e (b ∷ []) ++ escaped_bytes 34 t) (plain_unescaped b both.0) ∙ ap (λ rest. b ∷ rest) (plain_itself t both.1)

pub ruleset plain_bytes = (plain_next, plain_more, plain_ascii)
