-- Texts that are written from the right.
use Rattle.core.specs.Prelude.{◌≡◌, ℕ, ◌+◌, List, ◌++◌, length, drop}

-- the text was written before `end`, and begins at `start`
pub record IsPut (text : List ℕ) (end : ℕ) (old : List ℕ) (start : ℕ) (new : List ℕ) : Type 0 where
  pub place : start + length text ≡ end
  pub written : drop start new ≡ text ++ drop end old
  pub same : length new ≡ length old
