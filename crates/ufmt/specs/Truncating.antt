-- What contracts see of a writer that cuts its text: the written and the unwritten bytes of its buffer, and whether it has cut.
use Rattle.std.specs.Prelude.{◌≡◌, ◌↔◌, ℕ, ◌≤◌, List, ◌∷◌, ◌++◌, length, take, drop, Bool, not, ◌||◌, if◌then◌else◌, true, IsTrue, ⊤}
use Rattle.ufmt_core.specs.Writes.{Seen}
use Rattle.ufmt.specs.Cut.{fitting_part}
use Rattle.ufmt.specs.declared.truncating.Truncating.{Truncating}

-- the bytes that were written: the first `count` of the buffer
abbrev pub written_bytes : Truncating → List ℕ
written_bytes w = take w.count w.buffer.now

-- the bytes of the buffer after the written ones
abbrev pub unwritten_bytes : Truncating → List ℕ
unwritten_bytes w = drop w.count w.buffer.now

-- whether it has cut a piece
abbrev pub has_cut : Truncating → Bool
has_cut w = w.is_cut

-- how many more bytes it takes: after a cut none
abbrev pub remaining_count : Truncating → ℕ
remaining_count w = if has_cut w then 0 else length (unwritten_bytes w)

abbrev pub buffer_length : Truncating → ℕ
buffer_length w = length w.buffer.now

-- the identity of its buffer: the ghost name of the `&mut`
abbrev pub buffer_name : Truncating → ℕ
buffer_name w = w.buffer.ghost_name

-- the pieces that it was offered, in a row, up to the first that it cut, and with all of that
abbrev pub offered_text : Truncating → List ℕ
offered_text w = w.offered.bytes

-- the bytes of the buffer before anything was written
abbrev pub bytes_before : Truncating → List ℕ
bytes_before w = w.before.bytes

-- as a writer: its text is what it was offered, which is always known, it has room for what remains, it fails where it cuts, and its buffer's name, length and first bytes identify it
abbrev pub truncating_seen : Seen Truncating
truncating_seen = record {
  known = λ w. ⊤;
  text = offered_text;
  room = remaining_count;
  failed = λ w. has_cut w ≡ true;
  identity = λ w. buffer_name w ∷ buffer_length w ∷ bytes_before w;
  whole_buffer = λ w. w.buffer.now;
}

-- as much of the piece as fits was appended, and the bytes after it stay; after a cut no piece fits
pub record Cuts (old : Truncating) (piece : List ℕ) (ok : Bool) (new : Truncating) : Type 0 where
  pub fits : IsTrue ok ↔ (length piece ≤ remaining_count old)
  pub whole : IsTrue ok → fitting_part (remaining_count old) piece ≡ piece
  pub written : written_bytes new ≡ written_bytes old ++ fitting_part (remaining_count old) piece
  pub unwritten : unwritten_bytes new ≡ drop (length (fitting_part (remaining_count old) piece)) (unwritten_bytes old)
  pub same_length : buffer_length new ≡ buffer_length old
  pub cut : has_cut new ≡ (has_cut old || not ok)
