-- What the calls that read a number return to C, and what they leave.
use Rattle.std.specs.Prelude.{◌≡◌, ◌≢◌, ℕ, ◌≤◌, ℤ, pos, List, ◌++◌, length}
use Rattle.ufmt_grammar.specs.declared.class.Class.TheVariants.{Debug}
use Rattle.ufmt_grammar.specs.Leaves.{MayFollow}
use Rattle.ufmt_c.specs.Calls.{no_text}

module _ {T : Type 0} (is_number : T → Type 0) (text_of : T → List ℕ) where
  -- where an input stops being a number: after a number and a text that may follow a leaf, where the number ends
  pub record StopsBeingNumber (input : List ℕ) (place : ℕ) : Type 0 where
    pub within : place ≤ length input
    pub after_number : (n : T) (rest : List ℕ) → is_number n → MayFollow Debug rest → input ≡ text_of n ++ rest → place ≡ length (text_of n)

  -- either the input is the text of a number, which is left; or it is that of none, and `no_text` is returned
  pub data ReadsNumber (input : List ℕ) (old : T) (before : ℕ) (result : ℤ) (new : T) (detail : ℕ) : Type 0 where
    number : input ≡ text_of new → result ≡ pos 0 → detail ≡ before → ReadsNumber input old before result new detail
    none : ((n : T) → is_number n → input ≢ text_of n) → result ≡ no_text → new ≡ old → StopsBeingNumber input detail
        → ReadsNumber input old before result new detail
