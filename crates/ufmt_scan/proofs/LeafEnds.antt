-- Where a leaf of a debug document ends, and its last byte.
use Rattle.std.proofs.Common.{◌≡◌, refl, ap, sym, subst, ◌∙◌, ℕ, ◌==◌, not, nat_le, Bool, true, false, List, [], ◌∷◌, ◌++◌, length, None, arith, ◌||◌}
use Rattle.ufmt_grammar.proofs.DebugLeaves.{both}
use Rattle.std.proofs.lemmas.Bool.{not-true}
use Rattle.ufmt_grammar.specs.Leaves.{place_outside, begins_with, is_in_word, is_spaced, is_quote, is_debug_byte, ends_in_colon}
use Rattle.ufmt_grammar.specs.Bytes.{is_ending}
use Rattle.ufmt_scan.specs.Private.Fronts.{EndsAt}
use Rattle.ufmt_scan.proofs.DebugFronts.{NoneNext}
use Rattle.ufmt_scan.proofs.PassedBytes.{other_stops}

pub nothing_stops : (t : List ℕ) → length t ≡ 0 → NoneNext t
nothing_stops [] h = tt
nothing_stops (c ∷ t) h = absurd (omega (arith, h))

-- such a byte is in no word, opens no quotes and no `()`
ending_is : (c : ℕ) (t : List ℕ) → is_ending c ≡ true → (place_outside c t ≡ None) × (is_quote c ≡ false)
ending_is c t h =
    let others = both (nat_le c 255) (not (is_debug_byte c || is_quote c || c == 58 || c == 40)) h in
    let none = each_false (is_debug_byte c) (is_quote c) (c == 58) (c == 40) (not-true (is_debug_byte c || is_quote c || c == 58 || c == 40) others.1) in
    let no_word : is_in_word c t ≡ false = rw (none.0, none.2) refl in
    (other_stops c t no_word none.1 (rw none.3 refl), none.1)
  where
    each_false : (word quote colon opens : Bool) → word || quote || colon || opens ≡ false → (word ≡ false) × (quote ≡ false) × (colon ≡ false) × (opens ≡ false)
    each_false word quote colon opens h = grind arith

pub ends_at_end : (t : List ℕ) → length t ≡ 0 → EndsAt t
ends_at_end [] h = tt
ends_at_end (c ∷ t) h = absurd (omega (arith, h))

pub ends_at_byte : (t : List ℕ) (c : ℕ) (u : List ℕ) → t ≡ c ∷ u → is_ending c ≡ true → EndsAt t
ends_at_byte t c u first h = subst EndsAt (sym first) (ending_is c u h)

pub ends_at_colon : (t : List ℕ) (c : ℕ) (u : List ℕ) → t ≡ c ∷ u → c ≡ 58 → is_spaced u ≡ true → EndsAt t
ends_at_colon t c u first colon spaced = subst EndsAt (sym first) (rw (colon, spaced) (refl, refl))

pub ends_at_parenthesis : (t : List ℕ) (c : ℕ) (u : List ℕ) → t ≡ c ∷ u → c ≡ 40 → begins_with 41 u ≡ false → EndsAt t
ends_at_parenthesis t c u first opens none = subst EndsAt (sym first) (rw (opens, none) (refl, refl))

-- the last byte of a text
pub no_last_colon : (t : List ℕ) → length t ≡ 0 → ends_in_colon t ≡ false
no_last_colon [] h = refl
no_last_colon (c ∷ t) h = absurd (omega (arith, h))

pub last_is_colon : (t w : List ℕ) (c : ℕ) → t ≡ w ++ c ∷ [] → ends_in_colon t ≡ (c == 58)
last_is_colon t w c is = ap ends_in_colon is ∙ last w
  where
    last : (w : List ℕ) → ends_in_colon (w ++ c ∷ []) ≡ (c == 58)
    last [] = refl
    last (b ∷ []) = refl
    last (b ∷ d ∷ w) = last (d ∷ w)
