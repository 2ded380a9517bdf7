-- A text that is cut where a buffer ends.
use Rattle.std.specs.Prelude.{◌≡◌, ◌↔◌, ℕ, ◌+◌, ◌<◌, ◌≤◌, List, length, take, drop, IsTrue}
use Rattle.std.specs.Str.Lossy.{utf8_valid_len}
use Rattle.ufmt.specs.declared.cut.Cut.{Cut}

-- the longest prefix of the text that has at most `room` bytes and is UTF-8, that is, ends between two characters
abbrev pub fitting_part : ℕ → List ℕ → List ℕ
fitting_part room text = take (utf8_valid_len (take room text)) text

-- as much of the text as fits was written to the front of a buffer: `old` and `new` are the bytes before and after
pub record FrontsCut (old text : List ℕ) (cut : Cut) (new : List ℕ) : Type 0 where
  pub front : take cut.length new ≡ fitting_part (length old) text
  pub exact : cut.length ≡ length (fitting_part (length old) text)
  -- the other bytes are as before
  pub untouched : drop cut.length new ≡ drop cut.length old
  pub same_length : length new ≡ length old
  -- all of the text was written exactly if it fits
  pub fits : IsTrue cut.is_whole ↔ (length text ≤ length old)
  pub whole : IsTrue cut.is_whole → take cut.length new ≡ text
  -- a cut leaves fewer bytes than one character has
  pub filled : length old < length text → length old < cut.length + 4
