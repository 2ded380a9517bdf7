-- The longest front of some bytes that is a text.
use Rattle.std.specs.Prelude.{◌≡◌, ℕ, ◌<◌, ◌≤◌, List, ◌++◌, length, take}
use Rattle.std.specs.Str.{IsUtf8}

-- the front is UTF-8, and no longer one is
pub record IsTextAtFront (bytes front : List ℕ) : Type 0 where
  pub after : List ℕ
  pub is : bytes ≡ front ++ after
  pub utf8 : IsUtf8 front
  pub longest : (n : ℕ) → length front < n → n ≤ length bytes → ¬ (IsUtf8 (take n bytes))
