-- A text that is written part by part: what is left of it.
use Rattle.std.proofs.Common.{◌≡◌, List, [], ◌++◌, ℕ, Bool, true, false, is_ok, Result, sym, subst}
use Rattle.std.specs.Prelude.{IsErr}
use Rattle.ufmt_core.specs.Writes.{Seen, Writes}
use Rattle.ufmt_core.proofs.Writing.{Writes-fails, Writes-nothing, Writes-then, is_ok-err}

module _ {W : Type 0} where
  -- once `left` is written to `w`, the `whole` text is written, counted from `start`
  pub record LeavesText (seen : Seen W) (start : W) (whole : List ℕ) (w : W) (left : List ℕ) : Type 0 where
    pub completes : (ok : Bool) (last : W) → Writes seen w left ok last → Writes seen start whole ok last

module _ {W : Type 0} {seen : Seen W} where
  -- after a part, what follows it is left
  pub LeavesText-next : {start w next : W} {whole left : List ℕ} (part rest : List ℕ) → LeavesText seen start whole w left → left ≡ part ++ rest
      → Writes seen w part true next → LeavesText seen start whole next rest
  LeavesText-next {w = w} {next} part rest leaves e wrote = record {
    completes = λ ok last more. leaves.completes ok last (subst (λ (t : List ℕ). Writes seen w t ok last) (sym e) (Writes-then wrote more));
  }

  -- if a part fails, the whole text fails
  pub LeavesText-fails : {start w last : W} {whole left : List ℕ} (part rest : List ℕ) → LeavesText seen start whole w left → left ≡ part ++ rest
      → Writes seen w part false last → Writes seen start whole false last
  LeavesText-fails {w = w} {last} part rest leaves e failed =
      leaves.completes false last (subst (λ (t : List ℕ). Writes seen w t false last) (sym e) (Writes-fails rest failed))

  -- with nothing left, the whole text is written
  pub LeavesText-none : {start w : W} {whole left : List ℕ} → LeavesText seen start whole w left → left ≡ [] → Writes seen start whole true w
  LeavesText-none {w = w} leaves e = leaves.completes true w (subst (λ (t : List ℕ). Writes seen w t true w) (sym e) (Writes-nothing w))

  -- a failure that `?` passes on
  pub Writes-err : {X E : Type 0} {old new : W} {text : List ℕ} (r : Result X E) → IsErr r → Writes seen old text false new
      → Writes seen old text (is_ok r) new
  Writes-err {old = old} {new = new} {text = text} r h a = subst (λ (ok : Bool). Writes seen old text ok new) (sym (is_ok-err r h)) a
