-- A text up to its first opening bracket.
use Rattle.std.proofs.Common.{◌≡◌, ◌⊎◌, inl, inr, ◌∙◌, refl, ap, sym, ℕ, zero, suc, Bool, true, false, cond, List, [], ◌∷◌, ◌++◌, append_assoc, drop, length, get_or}
use Rattle.std.proofs.lemmas.Bool.{cases_Bool, true≢false}
use Rattle.std.specs.Prelude.{⊤}
use Rattle.ufmt.specs.Leaves.{is_opening}
use Rattle.ufmt_values.specs.Values.{before_bracket}

-- no byte of the text passes the test
abbrev pub Without : (ℕ → Bool) → List ℕ → Type 0
Without test [] = ⊤
Without test (c ∷ t) = (test c ≡ false) × Without test t

pub without_append : (test : ℕ → Bool) (a b : List ℕ) → Without test a → Without test b → Without test (a ++ b)
without_append test [] b first second = second
without_append test (c ∷ a) b first second = (first.0, without_append test a b first.1 second)

pub without_drop : (test : ℕ → Bool) (n : ℕ) (a : List ℕ) → Without test a → Without test (drop n a)
without_drop test zero a none = none
without_drop test (suc n) [] none = tt
without_drop test (suc n) (c ∷ a) none = without_drop test n a none.1

pub without_after : (test : ℕ → Bool) (a b : List ℕ) → Without test (a ++ b) → Without test b
without_after test [] b none = none
without_after test (c ∷ a) b none = without_after test a b none.1

-- the first bracket of a text
pub record FirstBracket (text : List ℕ) : Type 0 where
  pub before : List ℕ
  pub bracket : ℕ
  pub after : List ℕ
  pub none : Without is_opening before
  pub opens : is_opening bracket ≡ true
  pub is : text ≡ before ++ bracket ∷ after

-- each text has a first bracket, or none
pub first_bracket : (text : List ℕ) → Without is_opening text ⊎ FirstBracket text
first_bracket [] = inl tt
first_bracket (c ∷ t) = elim (cases_Bool (is_opening c)) [
  | inl is ↦ inr (record { before = []; bracket = c; after = t; none = tt; opens = is; is = refl })
  | inr is ↦ elim (first_bracket t) [
    | inl none ↦ inl (is, none)
    | inr found ↦ inr (record {
      before = c ∷ found.before;
      bracket = found.bracket;
      after = found.after;
      none = (is, found.none);
      opens = found.opens;
      is = ap (λ u. c ∷ u) found.is;
    })
  ]
]

-- it is the first of a longer text too
pub with_more : {a : List ℕ} → FirstBracket a → (b : List ℕ) → FirstBracket (a ++ b)
with_more h b = record {
  before = h.before;
  bracket = h.bracket;
  after = h.after ++ b;
  none = h.none;
  opens = h.opens;
  is = ap (λ t. t ++ b) h.is ∙ append_assoc h.before (h.bracket ∷ h.after) b;
}

-- a byte that passes isn't one that doesn't
pub passes_not : (test : ℕ → Bool) (j c : ℕ) → test j ≡ true → test c ≡ false → j ≡ c → ⊥
passes_not test j c passes other same = true≢false (sym passes ∙ ap test same ∙ other)

-- it is at one place only
pub one_first : (y z : List ℕ) (j k : ℕ) (u v : List ℕ) → Without is_opening y → Without is_opening z → is_opening j ≡ true → is_opening k ≡ true
    → y ++ j ∷ u ≡ z ++ k ∷ v → (y ≡ z) × (j ≡ k) × (u ≡ v)
one_first [] [] j k u v ny nz oj ok is = (refl, ap (λ l. get_or l 0 0) is, ap (drop 1) is)
one_first [] (c ∷ z) j k u v ny nz oj ok is = absurd (passes_not is_opening j c oj nz.0 (ap (λ l. get_or l 0 0) is))
one_first (b ∷ y) [] j k u v ny nz oj ok is = absurd (passes_not is_opening k b ok ny.0 (sym (ap (λ l. get_or l 0 0) is)))
one_first (b ∷ y) (c ∷ z) j k u v ny nz oj ok is =
    let head : b ≡ c = ap (λ l. get_or l 0 0) is in
    let inner = one_first y z j k u v ny.1 nz.1 oj ok (ap (drop 1) is) in
    (ap (λ x. x ∷ y) head ∙ ap (λ t. c ∷ t) inner.0, inner.1, inner.2)

-- a front without such a byte is before the byte
pub front_before : (test : ℕ → Bool) (p u z : List ℕ) (k : ℕ) (r : List ℕ) → Without test p → test k ≡ true → p ++ u ≡ z ++ k ∷ r → (y : List ℕ) × (z ≡ p ++ y) × (u ≡ y ++ k ∷ r)
front_before test [] u z k r none passes is = (z, refl, is)
front_before test (c ∷ p) u [] k r none passes is = absurd (passes_not test k c passes none.0 (sym (ap (λ l. get_or l 0 0) is)))
front_before test (c ∷ p) u (b ∷ z) k r none passes is =
    let head : c ≡ b = ap (λ l. get_or l 0 0) is in
    let inner = front_before test p u z k r none.1 passes (ap (drop 1) is) in
    (inner.0, ap (λ x. x ∷ z) (sym head) ∙ ap (λ t. c ∷ t) inner.1, inner.2)

-- without a bracket, all bytes come before one
pub before_none : (z : List ℕ) → Without is_opening z → before_bracket z ≡ length z
before_none [] none = refl
before_none (c ∷ z) none = ap (λ b. cond b 0 (suc (before_bracket z))) none.0 ∙ ap suc (before_none z none.1)

-- else those before the first
pub before_first : (z : List ℕ) (k : ℕ) (r : List ℕ) → Without is_opening z → is_opening k ≡ true → before_bracket (z ++ k ∷ r) ≡ length z
before_first [] k r none opens = ap (λ b. cond b 0 (suc (before_bracket r))) opens
before_first (c ∷ z) k r none opens = ap (λ b. cond b 0 (suc (before_bracket (z ++ k ∷ r)))) none.0 ∙ ap suc (before_first z k r none.1 opens)
