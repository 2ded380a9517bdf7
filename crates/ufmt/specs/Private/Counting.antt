-- A writer that counts the characters of its text, up to a width.
use Rattle.std.specs.Prelude.{◌≡◌, ℕ, ◌<◌, ◌≤◌, ◌-◌, List, [], ◌∷◌, ◌++◌, length, Bool, true, false, IsTrue, ⊤}
use Rattle.std.specs.Fmt.{char_count}
use Rattle.ufmt_core.specs.Writes.{Seen}
use Rattle.ufmt.specs.declared.column.counter.CharacterCounter.{CharacterCounter}

-- as a writer: its text is each piece that it was passed, and it fails only where that has the width
abbrev pub counter_seen : Seen CharacterCounter
counter_seen = record {
  known = λ c. ⊤;
  text = λ c. c.written.bytes;
  room = λ c. 0;
  failed = λ c. c.width ≤ char_count c.written.bytes;
  identity = λ c. c.width ∷ [];
  whole_buffer = λ c. [];
}

-- how many characters are missing after a print to a counter: none if it failed
abbrev pub left_after : Bool → CharacterCounter → ℕ
left_after true c = c.width - char_count c.written.bytes
left_after false c = 0

-- the whole piece is counted, and a call fails exactly if it passed some byte and the text then has the width
pub record Counts (old : CharacterCounter) (piece : List ℕ) (ok : Bool) (new : CharacterCounter) : Type 0 where
  pub same_width : new.width ≡ old.width
  pub whole : new.written.bytes ≡ old.written.bytes ++ piece
  pub reached : ok ≡ false → (0 < length piece) × (new.width ≤ char_count new.written.bytes)
  pub below : IsTrue ok → 0 < length piece → char_count new.written.bytes < new.width
