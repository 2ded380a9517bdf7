-- A cursor that fills its buffer is a lawful writer.
use Rattle.std.proofs.Common.{◌≡◌, ℕ, ◌+◌, List, [], ◌∷◌, length, drop, true, refl, sym, ap, ap₂, ◌∙◌, length-append, length-drop, drop-drop, true≢false, arith}
use Rattle.std.proofs.lemmas.List.{length-take-le}
use Rattle.ufmt_core.specs.Writes.{Writes}
use Rattle.ufmt_core.specs.declared.cursor.Cursor.{Cursor}
use Rattle.ufmt_core.specs.Cursor.{Fills, buffer_name, cursor_seen, unwritten_bytes, written_bytes}

length-written_bytes : (c : Cursor) → length (written_bytes c) ≡ c.count
length-written_bytes c = length-take-le c.count c.buffer.now c.within

-- a piece that was taken is written, and the bytes after it stay
pub Writes-filled : (old new : Cursor) (piece : List ℕ) → Fills old piece true new → buffer_name new ≡ buffer_name old → Writes cursor_seen old piece true new
Writes-filled old new piece f name =
    let written = f.written refl in
    let unwritten = f.unwritten refl in
    let count : new.count ≡ old.count + length piece = omega (arith, length-written_bytes new, length-written_bytes old, ap length written, length-append (written_bytes old) piece) in record {
      stays_known = λ t. t;
      appended = λ _. written;
      fits = λ _. refl;
      room_left = λ _. omega (arith, ap length unwritten, length-drop (length piece) (unwritten_bytes old));
      has_failed = λ no. absurd (true≢false no);
      same_identity = ap₂ (λ n l. n ∷ l ∷ []) name f.same_length;
      untouched = λ _. rw (length-written_bytes new)
          (unwritten ∙ drop-drop (length piece) old.count old.buffer.now ∙ ap (λ k. drop k old.buffer.now) (sym count));
    }
