use Rattle.std.proofs.Common.{◌≡◌, ◌∙◌, ap, sym, refl, ℕ, ◌<◌, ◌≤◌, Bool, true, false, if◌then◌else◌, List, [], ◌∷◌, ◌++◌, append-nil, length, slice_index_or, String, string_bytes, arith}
use Rattle.ufmt_core.specs.Writes.{Writes, string_seen}
use Rattle.ufmt_core.proofs.write.StringuWrite.write_str.Goals as goal

-- the text was appended, or nothing was
string_writes : {A : Type 0} (old new : String A) (text bytes : List ℕ) (ok : Bool) → text ≡ bytes → 0 < length bytes
    → string_bytes new ≡ (if ok then string_bytes old ++ bytes else string_bytes old) → Writes string_seen old text ok new
string_writes old new text bytes true is some h = record {
  stays_known = λ known. known;
  appended = λ known. h ∙ ap (λ b. string_bytes old ++ b) (sym is);
  fits = λ fits. refl;
  room_left = λ fits. omega arith;
  has_failed = λ _. tt;
  same_identity = refl;
  untouched = λ known. refl;
}
string_writes old new text bytes false is some h = record {
  stays_known = λ known. known;
  appended = λ known. ([], record { remainder = text; joined = refl }, h ∙ sym (append-nil (string_bytes old)));
  fits = λ fits. absurd (omega (arith, some, fits, ap length is));
  room_left = λ fits. omega arith;
  has_failed = λ _. tt;
  same_identity = refl;
  untouched = λ known. refl;
}

-- a text of one byte, and a text of two
one : (t : List ℕ) → 1 ≤ length t → length t < 2 → t ≡ slice_index_or t 0 0 ∷ []
one [] some few = absurd (omega arith)
one (a ∷ []) some few = refl
one (a ∷ b ∷ t) some few = absurd (omega arith)

two : (t : List ℕ) → 2 ≤ length t → length t < 3 → t ≡ slice_index_or t 0 0 ∷ slice_index_or t 1 0 ∷ []
two [] some few = absurd (omega arith)
two (a ∷ []) some few = absurd (omega arith)
two (a ∷ b ∷ []) some few = refl
two (a ∷ b ∷ d ∷ t) some few = absurd (omega arith)

pub returns-in-len1-clause-writes : goal.returns-in-len1-clause-writes
returns-in-len1-clause-writes g c = string_writes c.args.self.now c.push_one.new.text c.args.s.now _ _
    (sym c.as_bytes.ensures.value ∙ one c.as_bytes.result.now c.in-len1.len_at_least c.in-len1.len_below) (omega arith) c.push_one.ensures

pub returns-in-len2-clause-writes : goal.returns-in-len2-clause-writes
returns-in-len2-clause-writes g c = string_writes c.args.self.now c.push_two.new.text c.args.s.now _ _
    (sym c.as_bytes.ensures.value ∙ two c.as_bytes.result.now c.in-len2.len_at_least c.in-len2.len_below) (omega arith) c.push_two.ensures
