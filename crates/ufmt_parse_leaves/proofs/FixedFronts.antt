-- Fixed-point numbers taken from the front of a text: the sign, the digits of the whole number, and those after the point.
use Rattle.std.proofs.Common.{◌≡◌, inl, inr, refl, sym, ap, ◌∙◌, subst, ℕ, zero, suc, ◌/◌, ◌^◌, ◌<◌, Bool, false, List, [], ◌∷◌, ◌++◌, append_assoc, ℤ, pos, negsuc, nat_abs, div-le_self, arith, None}
use Rattle.ufmt_core.specs.Decimal.{decimal, sign_of}
use Rattle.ufmt_fixed.specs.Text.{fixed_digits, point_and_last}
use Rattle.ufmt_grammar.specs.Leaves.{IsDebugFollower}
use Rattle.ufmt_grammar.proofs.ReadingWords.{each_ender}
use Rattle.ufmt_parse_leaves.specs.FixedPoint.{fixed_number, is_fixed}
use Rattle.ufmt_parse_leaves.specs.Private.Digits.{after_minus, begins_digit, begins_minus, sign, FrontMagnitude, IsFront, IsSigned}
use Rattle.ufmt_parse_leaves.specs.Private.Places.{begins_point, Completes, CompletesNone, CompletesOne, EndsFixed}
use Rattle.ufmt_parse_leaves.specs.Values.{is_i64}
use Rattle.ufmt_parse_leaves.proofs.DecimalFronts.{begins_with}
use Rattle.ufmt_parse_leaves.proofs.IntegerFronts.{follower_no_digit, minus_text, one_front, sign_before}
use Rattle.ufmt_parser.specs.Taking.{BeginsWithNone, LeavesOnly}

-- what may follow a value begins with no point
follower_no_point : (u : List ℕ) → IsDebugFollower u → begins_point u ≡ false
follower_no_point [] h = refl
follower_no_point (c ∷ []) h = each_ender (λ b. begins_point (b ∷ []) ≡ false) refl refl refl refl c h
follower_no_point (c ∷ b ∷ u) (inl h) = each_ender (λ e. begins_point (e ∷ b ∷ u) ≡ false) refl refl refl refl c h
follower_no_point (c ∷ b ∷ u) (inr (inl h)) = rw h.0 refl
follower_no_point (c ∷ b ∷ u) (inr (inr h)) = rw h.0 refl

follower_ends : (u : List ℕ) → IsDebugFollower u → EndsFixed u
follower_ends u may = record { no_digit = follower_no_digit u may; no_point = follower_no_point u may }

-- what follows the digits of the whole number begins with no digit
places_no_digit : (places n : ℕ) (u : List ℕ) → begins_digit u ≡ false → begins_digit (point_and_last places n ++ u) ≡ false
places_no_digit zero n u ends = ends
places_no_digit (suc places) n u ends = refl

-- a magnitude of 64 bits and its whole part
magnitude_fits : (z : ℤ) → is_i64 z → nat_abs z < 2 ^ 64
magnitude_fits (pos n) fits = omega arith
magnitude_fits (negsuc n) fits = omega arith

-- the whole part of a number
abbrev whole_of : ℤ × ℕ → ℕ
whole_of x = nat_abs x.0 / 10 ^ x.1

-- what a number has after its whole part, and then u
abbrev after_whole : ℤ × ℕ → List ℕ → List ℕ
after_whole x u = point_and_last x.1 (nat_abs x.0) ++ u

-- the parts of a number's text and what follows it
parts : (x : ℤ × ℕ) (u : List ℕ) → fixed_number x ++ u ≡ sign_of x.0 ++ (decimal (pos (whole_of x)) ++ after_whole x u)
parts x u =
    append_assoc (sign_of x.0) (fixed_digits x.1 (nat_abs x.0)) u
    ∙ ap (λ text. sign_of x.0 ++ text) (append_assoc (decimal (pos (whole_of x))) (point_and_last x.1 (nat_abs x.0)) u)

-- a number's text is cut after its sign
record IsCut (x : ℤ × ℕ) (u old : List ℕ) : Type 0 where
  ends : begins_digit (after_whole x u) ≡ false
  signed : IsSigned (begins_minus old) (nat_abs x.0) x.0
  digits : after_minus old ≡ decimal (pos (whole_of x)) ++ after_whole x u

cut_at : (x : ℤ × ℕ) (u old : List ℕ) → IsDebugFollower u → old ≡ fixed_number x ++ u → IsCut x u old
cut_at x u old may same =
    let digits = decimal (pos (whole_of x)) ++ after_whole x u in
    let ends = places_no_digit x.1 (nat_abs x.0) u (follower_no_digit u may) in
    let cut = sign_before x.0 digits (begins_with (whole_of x) (after_whole x u) ends).begins in
    let is : sign_of x.0 ++ digits ≡ old = sym (same ∙ parts x u) in record {
      ends = ends;
      signed = subst (λ text. IsSigned (begins_minus text) (nat_abs x.0) x.0) is cut.0;
      digits = ap after_minus (sym is) ∙ cut.1;
    }

-- the sign that was cut is that of the number
sign_is : (negative : Bool) (n : ℕ) (z : ℤ) → IsSigned negative n z → (sign negative ≡ sign_of z) × (n ≡ nat_abs z)
sign_is negative n (pos m) signed = (ap sign signed.0, signed.1)
sign_is negative n (negsuc m) signed = (ap sign signed.0, signed.1)

module _ (old : List ℕ) where
  -- where no magnitude is at the front, there is no number
  pub no_whole : FrontMagnitude (λ n. n < 2 ^ 64) (after_minus old) None → BeginsWithNone is_fixed fixed_number old
  no_whole none x u fits may same =
      let cut = cut_at x u old may same in
      none (whole_of x) (after_whole x u) (omega (arith, magnitude_fits x.0 fits.0, div-le_self (nat_abs x.0) (10 ^ x.1))) cut.ends cut.digits

  module _ (whole : ℕ) (after : List ℕ) (front : IsFront (after_minus old) (pos whole) after) where
    -- a number at the front has this whole part, and its places complete it
    completed : (x : ℤ × ℕ) (u : List ℕ) → IsDebugFollower u → old ≡ fixed_number x ++ u → Completes whole (nat_abs x.0) x.1 after u
    completed x u may same =
        let cut = cut_at x u old may same in
        let one = one_front (after_minus old) (whole_of x) whole (after_whole x u) after cut.ends cut.digits front in
        record { whole_is = one.value; is = sym one.after }

    pub no_number : CompletesNone whole after → BeginsWithNone is_fixed fixed_number old
    no_number none x u fits may same =
        none (nat_abs x.0) x.1 u (magnitude_fits x.0 fits.0) fits.1 (follower_ends u may) (completed x u may same)

    module _ (n count : ℕ) (new : List ℕ) (one : CompletesOne whole n count after new) where
      -- where no value of 64 bits has this sign and magnitude
      pub no_value : ((v : ℤ) → is_i64 v → IsSigned (begins_minus old) n v → ⊥) → BeginsWithNone is_fixed fixed_number old
      no_value none x u fits may same =
          let is = one.only (nat_abs x.0) x.1 u (follower_ends u may) (completed x u may same) in
          none x.0 fits.0 (subst (λ m. IsSigned (begins_minus old) m x.0) is.0 (cut_at x u old may same).signed)

      -- else the number is at the front
      is_front : (v : ℤ) → IsSigned (begins_minus old) n v → old ≡ fixed_number (v, count) ++ new
      is_front v signed =
          let is = sign_is (begins_minus old) n v signed in
          let whole_is : decimal (pos whole) ≡ decimal (pos (nat_abs v / 10 ^ count)) = ap (λ m. decimal (pos m)) (sym one.completes.whole_is ∙ ap (λ m. m / 10 ^ count) is.1) in
          let places : after ≡ after_whole (v, count) new = one.completes.is ∙ ap (λ m. point_and_last count m ++ new) is.1 in
          minus_text old ∙ ap (λ text. text ++ after_minus old) is.0
          ∙ ap (λ text. sign_of v ++ text) (front.is ∙ (λ i. whole_is i ++ places i)) ∙ sym (parts (v, count) new)

      -- and no other
      leaves_only : LeavesOnly is_fixed fixed_number old new
      leaves_only x u fits may same = (one.only (nat_abs x.0) x.1 u (follower_ends u may) (completed x u may same)).2

      pub number_found : (v : ℤ) → is_i64 v → IsSigned (begins_minus old) n v
          → is_fixed (v, count) × (old ≡ fixed_number (v, count) ++ new) × LeavesOnly is_fixed fixed_number old new
      number_found v fits signed = ((fits, one.in_range.1), is_front v signed, leaves_only)
