-- The digits after the point of a fixed-point number.
use Rattle.std.specs.Prelude.{◌≡◌, ℕ, ◌^◌, ◌/◌, ◌==◌, Bool, false, List, [], ◌∷◌, ◌++◌}
use Rattle.ufmt_fixed.specs.Text.{point_and_last}
use Rattle.ufmt_parse_leaves.specs.Private.Digits.{begins_digit}
use Rattle.ufmt_parse_leaves.specs.Values.{is_u64, is_u8}

abbrev pub begins_point : List ℕ → Bool
begins_point [] = false
begins_point (c ∷ t) = c == 46

-- a text that begins with no digit and no point: what may follow a fixed-point number is such a text
pub record EndsFixed (u : List ℕ) : Type 0 where
  pub no_digit : begins_digit u ≡ false
  pub no_point : begins_point u ≡ false

-- after the digits of the whole number the text completes those of n, with so many places, and then u follows
pub record Completes (whole n places : ℕ) (old u : List ℕ) : Type 0 where
  pub whole_is : n / 10 ^ places ≡ whole
  pub is : old ≡ point_and_last places n ++ u

-- no number is completed there
abbrev pub CompletesNone : ℕ → List ℕ → Type 0
CompletesNone whole old = (n places : ℕ) (u : List ℕ) → is_u64 n → is_u8 places → EndsFixed u → Completes whole n places old u → ⊥

-- one number is, and no other
pub record CompletesOne (whole n places : ℕ) (old new : List ℕ) : Type 0 where
  pub in_range : is_u64 n × is_u8 places
  pub completes : Completes whole n places old new
  pub only : (m count : ℕ) (u : List ℕ) → EndsFixed u → Completes whole m count old u → (m ≡ n) × (count ≡ places) × (u ≡ new)
