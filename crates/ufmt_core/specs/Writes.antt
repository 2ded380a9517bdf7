-- A lawful writer: what a call does to its text, its room and the bytes past its text.
use Rattle.std.specs.Prelude.{◌≡◌, ℕ, ◌+◌, ◌≤◌, List, [], ◌++◌, length, drop, Bool, true, false, IsTrue, String, Vec, ⊤, string_bytes}

-- what contracts see of a writer
pub record Seen (W : Type 0) : Type 1 where
  -- whether the text is known
  pub known : W → Type 0
  -- the bytes so far
  pub text : W → List ℕ
  -- how many bytes it surely takes
  pub room : W → ℕ
  -- what holds of it after a call that failed
  pub failed : W → Type 0
  -- which writer it is: the ghost names of each `&mut` on the way to its text, and the length of a buffer that it was lent
  pub identity : W → List ℕ
  -- the whole buffer that it was lent, if it was: its text so far, and then the rest, which stays as it is
  --     | text | rest |
  pub whole_buffer : W → List ℕ

-- `whole` begins with `part`, which may be empty or the whole
pub record HasPrefix (whole part : List ℕ) : Type 0 where
  pub remainder : List ℕ
  pub joined : whole ≡ part ++ remainder

-- all of the piece was appended, or a prefix of it
abbrev pub Appended : Bool → List ℕ → List ℕ → List ℕ → Type 0
Appended true old piece new = new ≡ old ++ piece
Appended false old piece new = (part : List ℕ) × HasPrefix piece part × (new ≡ old ++ part)

-- what a lawful writer does with a piece; `ok` says whether the call returned `Ok`
pub record Writes {W : Type 0} (seen : Seen W) (old : W) (piece : List ℕ) (ok : Bool) (new : W) : Type 0 where
  pub stays_known : seen.known old → seen.known new
  pub appended : seen.known old → Appended ok (seen.text old) piece (seen.text new)
  pub fits : length piece ≤ seen.room old → IsTrue ok
  pub room_left : length piece ≤ seen.room old → seen.room old ≤ seen.room new + length piece
  pub has_failed : ok ≡ false → seen.failed new
  pub same_identity : seen.identity new ≡ seen.identity old
  -- the bytes past the text are as before
  pub untouched : seen.known old → drop (length (seen.text new)) (seen.whole_buffer new) ≡ drop (length (seen.text new)) (seen.whole_buffer old)

-- a `String` as a writer: its text is always known, any growth may be refused, and it was lent no buffer
abbrev pub string_seen : {A : Type 0} → Seen (String A)
string_seen = record { known = λ s. ⊤; text = string_bytes; room = λ s. 0; failed = λ s. ⊤; identity = λ s. []; whole_buffer = λ s. [] }

-- a vector of bytes as a writer, likewise
abbrev pub bytes_seen : {A : Type 0} → Seen (Vec ℕ A)
bytes_seen = record { known = λ v. ⊤; text = λ v. v.items; room = λ v. 0; failed = λ v. ⊤; identity = λ v. []; whole_buffer = λ v. [] }
