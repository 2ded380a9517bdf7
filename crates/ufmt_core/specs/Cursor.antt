-- What contracts see of a cursor: the written and the unwritten bytes of its buffer.
use Rattle.std.specs.Prelude.{◌≡◌, ◌↔◌, ℕ, ◌≤◌, List, [], ◌∷◌, ◌++◌, length, take, drop, Bool, false, IsTrue, ⊤}
use Rattle.ufmt_core.specs.Writes.{Seen}
use Rattle.ufmt_core.specs.declared.cursor.Cursor.{Cursor}

-- the bytes that were written: the first `count` of the buffer
abbrev pub written_bytes : Cursor → List ℕ
written_bytes c = take c.count c.buffer.now

-- the bytes of the buffer after the written ones
abbrev pub unwritten_bytes : Cursor → List ℕ
unwritten_bytes c = drop c.count c.buffer.now

-- how many more bytes fit
abbrev pub remaining_count : Cursor → ℕ
remaining_count c = length (unwritten_bytes c)

abbrev pub buffer_length : Cursor → ℕ
buffer_length c = length c.buffer.now

-- the identity of its buffer: the ghost name of the `&mut`
abbrev pub buffer_name : Cursor → ℕ
buffer_name c = c.buffer.ghost_name

-- a cursor as a writer: its text is always known, it has room for as many bytes as are unwritten, and its buffer's name and length identify it
abbrev pub cursor_seen : Seen Cursor
cursor_seen = record {
  known = λ c. ⊤;
  text = written_bytes;
  room = remaining_count;
  failed = λ c. ⊤;
  identity = λ c. buffer_name c ∷ buffer_length c ∷ [];
  whole_buffer = λ c. c.buffer.now;
}

-- a piece that fits is appended, and the bytes after it stay; with any other piece the call fails and changes nothing
pub record Fills (old : Cursor) (piece : List ℕ) (ok : Bool) (new : Cursor) : Type 0 where
  pub fits : IsTrue ok ↔ (length piece ≤ remaining_count old)
  pub written : IsTrue ok → written_bytes new ≡ written_bytes old ++ piece
  pub unwritten : IsTrue ok → unwritten_bytes new ≡ drop (length piece) (unwritten_bytes old)
  pub same_length : buffer_length new ≡ buffer_length old
  pub refused : ok ≡ false → new ≡ old
