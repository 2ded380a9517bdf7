-- A caller's buffer before and after a text is written to it.
use Rattle.std.specs.Prelude.{◌≡◌, ℕ, ◌≤◌, List, length, take, drop, Result, IfOk, IsOk, OnErr}
use Rattle.ufmt_core.specs.Writes.{HasPrefix}

-- a text, or a prefix of it, was written to the front of a buffer: `old` and `new` are the bytes before and after
pub record Fronts {E : Type 0} (old text : List ℕ) (result : Result ℕ E) (new : List ℕ) : Type 0 where
  pub same_length : length new ≡ length old
  -- the call succeeds if the text fits
  pub fits : length text ≤ length old → IsOk result
  pub within : IfOk result (λ n. n ≤ length new)
  -- on `Ok n` the first n bytes are the text, and the other bytes are as before
  pub whole : IfOk result (λ n. (take n new ≡ text) × (drop n new ≡ drop n old))
  -- on `Err` the buffer begins with a prefix of the text, and the other bytes are as before
  pub prefix : OnErr result ((part : List ℕ) × HasPrefix text part × (take (length part) new ≡ part) × (drop (length part) new ≡ drop (length part) old))
