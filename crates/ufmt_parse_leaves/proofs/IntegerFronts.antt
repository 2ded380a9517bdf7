-- Integers taken from the front of a text: the sign, and then the digits.
use Rattle.std.proofs.Common.{◌≡◌, inl, inr, refl, sym, ap, ◌∙◌, subst, ℕ, ◌≤◌, ◌==◌, Bool, true, false, List, [], ◌∷◌, ◌++◌, ℤ, pos, negsuc, nat_abs, arith, eqb-true, Ok, Err, None}
use Rattle.std.proofs.lemmas.Bool.{cases_Bool}
use Rattle.std.specs.Char.{is_ascii_digit}
use Rattle.ufmt_core.specs.Decimal.{decimal, sign_of}
use Rattle.ufmt_core.specs.Document.{leaf}
use Rattle.ufmt_core.specs.ValueDocuments.{integer}
use Rattle.ufmt_core.proofs.DecimalTexts.{decimal-negative}
use Rattle.ufmt_grammar.specs.Leaves.{IsDebugFollower}
use Rattle.ufmt_grammar.proofs.ClassTokens.{tokens_are_debug}
use Rattle.ufmt_grammar.proofs.NumbersAreWords.{IsBuilt-integer}
use Rattle.ufmt_grammar.proofs.ReadingWords.{each_ender}
use Rattle.ufmt_parse_leaves.specs.Private.Digits.{after_digits, after_minus, begins_digit, begins_minus, begins_number, sign, value_after, FrontMagnitude, IsFront, IsSigned, SplitsSign}
use Rattle.ufmt_parser.specs.Taking.{Fits, Takes}
use Rattle.ufmt_parser.specs.declared.parser.Fault.TheVariants.{NotText}
use Rattle.ufmt_parse_leaves.proofs.DecimalFronts.{begins_with}

-- what may follow a value begins with no digit
pub follower_no_digit : (u : List ℕ) → IsDebugFollower u → begins_digit u ≡ false
follower_no_digit [] h = refl
follower_no_digit (c ∷ []) h = each_ender (λ b. is_ascii_digit b ≡ false) refl refl refl refl c h
follower_no_digit (c ∷ b ∷ u) (inl h) = each_ender (λ b. is_ascii_digit b ≡ false) refl refl refl refl c h
follower_no_digit (c ∷ b ∷ u) (inr (inl h)) = rw h.0 refl
follower_no_digit (c ∷ b ∷ u) (inr (inr h)) = rw h.0 refl

-- ---- the sign

no_minus : (t : List ℕ) → begins_number t ≡ true → begins_minus t ≡ false
no_minus [] begins = refl
no_minus (c ∷ t) begins = elim (cases_Bool (c == 45)) [
  | inl e ↦ let no : false ≡ true = ap (λ b. begins_number (b ∷ t)) (sym (eqb-true c 45 e)) ∙ begins in absurd (cc)
  | inr e ↦ e
]

without_minus : (t : List ℕ) → begins_minus t ≡ false → after_minus t ≡ t
without_minus [] none = refl
without_minus (c ∷ t) none = rw none refl

with_minus : (t : List ℕ) → begins_minus t ≡ true → t ≡ 45 ∷ after_minus t
with_minus [] minus = absurd (cc)
with_minus (c ∷ t) minus = rw minus (ap (λ b. b ∷ t) (eqb-true c 45 minus))

-- a sign before digits is what is cut
pub sign_before : (z : ℤ) (t : List ℕ) → begins_number t ≡ true → IsSigned (begins_minus (sign_of z ++ t)) (nat_abs z) z × (after_minus (sign_of z ++ t) ≡ t)
sign_before (pos n) t begins = let none = no_minus t begins in ((none, refl), without_minus t none)
sign_before (negsuc n) t begins = ((refl, refl), refl)

sign_of_front : (z : ℤ) (u : List ℕ) → begins_digit u ≡ false
    → IsSigned (begins_minus (decimal z ++ u)) (nat_abs z) z × (after_minus (decimal z ++ u) ≡ decimal (pos (nat_abs z)) ++ u)
sign_of_front (pos n) u ends = sign_before (pos n) (decimal (pos n) ++ u) (begins_with n u ends).begins
sign_of_front (negsuc n) u ends = rw (decimal-negative (negsuc n) refl) ((refl, refl), refl)

pub minus_text : (t : List ℕ) → t ≡ sign (begins_minus t) ++ after_minus t
minus_text t = elim (cases_Bool (begins_minus t)) [ inl e ↦ rw e (with_minus t e) | inr e ↦ rw e (sym (without_minus t e)) ]

-- the sign is cut off if it is there
pub splits_minus : {T : Type 0} (int : T → ℤ) (old : List ℕ) → SplitsSign int old (begins_minus old) (after_minus old)
splits_minus int old = record {
  text = minus_text old;
  only = λ v u ends same. subst (λ t. IsSigned (begins_minus t) (nat_abs (int v)) (int v) × (after_minus t ≡ decimal (pos (nat_abs (int v))) ++ u)) (sym same) (sign_of_front (int v) u ends);
}

-- natural numbers have none
pub splits_none : {T : Type 0} (int : T → ℤ) (old : List ℕ) → ((v : T) → int v ≡ pos (nat_abs (int v))) → SplitsSign int old false old
splits_none int old natural = record {
  text = refl;
  only = λ v u ends same. (unsigned (int v) (natural v), same ∙ ap (λ z. decimal z ++ u) (natural v));
}
  where
    unsigned : (z : ℤ) → z ≡ pos (nat_abs z) → IsSigned false (nat_abs z) z
    unsigned (pos n) e = (refl, refl)
    unsigned (negsuc n) e = absurd (cc)

-- ---- the number

decimal_fits : (z : ℤ) (blocks : ℕ) → blocks ≤ 255 → Fits blocks (leaf (decimal z))
decimal_fits z blocks most = ((tokens_are_debug (integer z) (IsBuilt-integer z, omega arith)).0, omega arith)

-- two numbers at the front are one
pub record OneFront (m n : ℕ) (u new : List ℕ) : Type 0 where
  pub value : m ≡ n
  pub after : u ≡ new

pub one_front : (t : List ℕ) (m n : ℕ) (u new : List ℕ) → begins_digit u ≡ false → t ≡ decimal (pos m) ++ u → IsFront t (pos n) new → OneFront m n u new
one_front t m n u new ends is front =
    let here = begins_with n new front.ends in
    let other = begins_with m u ends in
    let both : decimal (pos m) ++ u ≡ decimal (pos n) ++ new = sym is ∙ front.is in record {
      value = sym other.value ∙ ap (value_after 0) both ∙ here.value;
      after = sym other.after ∙ ap after_digits both ∙ here.after;
    }

-- the number with this sign and magnitude is at the front
signed_front : (old after : List ℕ) (negative : Bool) (n : ℕ) (new : List ℕ) (z : ℤ) → old ≡ sign negative ++ after → IsFront after (pos n) new → IsSigned negative n z
    → old ≡ decimal z ++ new
signed_front old after negative n new (pos m) text front signed =
    text ∙ ap (λ minus. sign minus ++ after) signed.0 ∙ front.is ∙ ap (λ k. decimal (pos k) ++ new) signed.1
signed_front old after negative n new (negsuc m) text front signed =
    text ∙ ap (λ minus. sign minus ++ after) signed.0 ∙ ap (λ t. 45 ∷ t) (front.is ∙ ap (λ k. decimal (pos k) ++ new) signed.1)
    ∙ ap (λ t. t ++ new) (sym (decimal-negative (negsuc m) refl))

module _ {T : Type 0} (is_value : T → Type 0) (int : T → ℤ) (blocks : ℕ) (old after : List ℕ) (negative : Bool) (splits : SplitsSign int old negative after) where
  abbrev IsIn : T → Type 0
  IsIn v = is_value v × Fits blocks (leaf (decimal (int v)))

  abbrev text_of : T → List ℕ
  text_of v = decimal (int v)

  pub integer_taken : (n : ℕ) (v : T) (new : List ℕ) → blocks ≤ 255 → IsFront after (pos n) new → is_value v → IsSigned negative n (int v)
      → Takes IsIn text_of old (Ok v) new
  integer_taken n v new most front is signed = record {
    cases = (
      signed_front old after negative n new (int v) splits.text front signed,
      (is, decimal_fits (int v) blocks most),
      λ w u is_w may same. let ends = follower_no_digit u may in (one_front after (nat_abs (int w)) n u new ends (splits.only w u ends same).1 front).after,
    );
  }

  pub integer_refused : (n : ℕ) (rest new : List ℕ) → IsFront after (pos n) rest → ((v : T) → is_value v → IsSigned negative n (int v) → ⊥)
      → Takes IsIn text_of old (Err NotText) new
  integer_refused n rest new front none = record {
    cases = λ w u is_w may same.
        let ends = follower_no_digit u may in
        let found = splits.only w u ends same in
        none w is_w.0 (subst (λ m. IsSigned negative m (int w)) (one_front after (nat_abs (int w)) n u rest ends found.1 front).value found.0);
  }

  pub magnitude_refused : (fits : ℕ → Type 0) (new : List ℕ) → FrontMagnitude fits after None → ((v : T) → is_value v → fits (nat_abs (int v)))
      → Takes IsIn text_of old (Err NotText) new
  magnitude_refused fits new none each = record {
    cases = λ w u is_w may same.
        let ends = follower_no_digit u may in
        none (nat_abs (int w)) u (each w is_w.0) ends (splits.only w u ends same).1;
  }
