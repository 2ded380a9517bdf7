-- No byte of a name is a bracket or a comma.
use Rattle.std.proofs.Common.{◌≡◌, inl, inr, refl, sym, subst, ℕ, ◌==◌, ◌||◌, Bool, true, false, List, [], ◌∷◌, ◌++◌, eqb-true}
use Rattle.std.proofs.lemmas.Bool.{both_ways, false_from_ne_true, or_cases}
use Rattle.ufmt.specs.Bytes.{opening_brace, opening_bracket, opening_parenthesis, space}
use Rattle.ufmt.specs.Leaves.{IsDebugWord, has_name_bytes, is_ender, is_name_byte, is_opening}
use Rattle.ufmt_grammar.proofs.DebugLeaves.{both}
use Rattle.ufmt_grammar.proofs.ReadingWords.{each_ender}
use Rattle.ufmt_values.proofs.FirstBrackets.{Without, without_append}

-- what holds for each of the three opening brackets holds for every one
pub each_opening : (P : ℕ → Type 0) → P opening_parenthesis → P opening_bracket → P opening_brace → (c : ℕ) → is_opening c ≡ true → P c
each_opening P parenthesis bracket brace c h = elim (or_cases (c == opening_parenthesis || c == opening_bracket) (c == opening_brace) h) [
  | inl other ↦ elim (or_cases (c == opening_parenthesis) (c == opening_bracket) other) [
    | inl is ↦ subst P (sym (eqb-true c opening_parenthesis is)) parenthesis
    | inr is ↦ subst P (sym (eqb-true c opening_bracket is)) bracket
  ]
  | inr is ↦ subst P (sym (eqb-true c opening_brace is)) brace
]

-- an opening bracket isn't a byte of a name, nor a space
pub opening_no_name : (c : ℕ) → is_opening c ≡ true → is_name_byte c ≡ false
opening_no_name c h = each_opening (λ b. is_name_byte b ≡ false) refl refl refl c h

pub opening_no_space : (c : ℕ) → is_opening c ≡ true → (c == space) ≡ false
opening_no_space c h = each_opening (λ b. (b == space) ≡ false) refl refl refl c h

-- nor a byte that ends a leaf
pub opening_no_ender : (c : ℕ) → is_opening c ≡ true → is_ender c ≡ false
opening_no_ender c h = each_opening (λ b. is_ender b ≡ false) refl refl refl c h

-- a byte of a name isn't an opening bracket
pub name_no_opening : (c : ℕ) → is_name_byte c ≡ true → is_opening c ≡ false
name_no_opening c h = false_from_ne_true (is_opening c) (λ is. both_ways (is_name_byte c) (opening_no_name c is) h)

-- nor a byte that ends a leaf
pub name_no_ender : (c : ℕ) → is_name_byte c ≡ true → is_ender c ≡ false
name_no_ender c h = false_from_ne_true (is_ender c) (λ is. both_ways (is_name_byte c) (each_ender (λ b. is_name_byte b ≡ false) refl refl refl refl c is) h)

name_bytes_without : (test : ℕ → Bool) → ((c : ℕ) → is_name_byte c ≡ true → test c ≡ false) → (w : List ℕ) → has_name_bytes w ≡ true → Without test w
name_bytes_without test none [] h = tt
name_bytes_without test none (c ∷ w) h = let parts = both (is_name_byte c) (has_name_bytes w) h in (none c parts.0, name_bytes_without test none w parts.1)

pub name_without_openings : (w : List ℕ) → IsDebugWord w → Without is_opening w
name_without_openings w h = name_bytes_without is_opening name_no_opening w h.bytes

pub name_without_enders : (w : List ℕ) → IsDebugWord w → Without is_ender w
name_without_enders w h = name_bytes_without is_ender name_no_ender w h.bytes

-- a name with a space after it has no such byte either
pub named_without_openings : (w : List ℕ) → IsDebugWord w → Without is_opening (w ++ space ∷ [])
named_without_openings w h = without_append is_opening w (space ∷ []) (name_without_openings w h) (refl, tt)

pub named_without_enders : (w : List ℕ) → IsDebugWord w → Without is_ender (w ++ space ∷ [])
named_without_enders w h = without_append is_ender w (space ∷ []) (name_without_enders w h) (refl, tt)
