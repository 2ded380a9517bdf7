-- What a cursor over a buffer took is at the front of the buffer.
use Rattle.std.proofs.Common.{◌≡◌, ◌∙◌, refl, ap, sym, subst, ℕ, ◌≤◌, List, [], ◌++◌, length, take, drop, true, false, Result, Ok, Err}
use Rattle.std.proofs.lemmas.List.{length-take-le, take-append-drop}
use Rattle.std.specs.List.{slice_index_or}
use Rattle.std.specs.Result.{IsErrAnd}
use Rattle.ufmt_core.specs.Buffer.{Fronts}
use Rattle.ufmt_core.specs.Cursor.{cursor_seen, unwritten_bytes, written_bytes}
use Rattle.ufmt_core.specs.declared.cursor.Cursor.{Cursor}
use Rattle.ufmt_core.specs.Writes.{Writes}

module _ (old : List ℕ) (begun ended : Cursor) (written : written_bytes begun ≡ []) (unwritten : unwritten_bytes begun ≡ old) (text : List ℕ) where
  begins_with : begun.buffer.now ≡ old
  begins_with = sym (take-append-drop begun.count begun.buffer.now) ∙ ap (λ xs. xs ++ unwritten_bytes begun) written ∙ unwritten

  pub keeps_length : {ok : _} → Writes cursor_seen begun text ok ended → length ended.buffer.now ≡ length old
  keeps_length w = ap (λ xs. slice_index_or xs 1 0) w.same_identity ∙ ap length begins_with

  counted : length (written_bytes ended) ≡ ended.count
  counted = length-take-le ended.count ended.buffer.now ended.within

  in_front : take (length (written_bytes ended)) ended.buffer.now ≡ written_bytes ended
  in_front = ap (λ n. take n ended.buffer.now) counted

  after : {ok : _} → Writes cursor_seen begun text ok ended
      → drop (length (written_bytes ended)) ended.buffer.now ≡ drop (length (written_bytes ended)) old
  after w = w.untouched tt ∙ ap (λ xs. drop (length (written_bytes ended)) xs) begins_with

  -- all of the text was written
  pub fronts_whole : {E : Type 0} → Writes cursor_seen begun text true ended → Fronts {E = E} old text (Ok (length (written_bytes ended))) ended.buffer.now
  fronts_whole w = record {
    same_length = keeps_length w;
    fits = λ h. refl;
    within = subst (λ n. n ≤ length ended.buffer.now) (sym counted) ended.within;
    whole = (in_front ∙ w.appended tt ∙ ap (λ xs. xs ++ text) written, after w);
    prefix = tt;
  }

  -- only a prefix of the text was written
  fronts_prefix : {E : Type 0} (e : E) → Writes cursor_seen begun text false ended → Fronts {E = E} old text (Err e) ended.buffer.now
  fronts_prefix e w =
      let taken = w.appended tt in
      let part_is : written_bytes ended ≡ taken.0 = taken.2 ∙ ap (λ xs. xs ++ taken.0) written in record {
        same_length = keeps_length w;
        fits = λ h. let ok = w.fits (subst (λ xs. length text ≤ length xs) (sym unwritten) h) in absurd (cc);
        within = tt;
        whole = tt;
        prefix = (
          taken.0,
          taken.1,
          ap (λ xs. take (length xs) ended.buffer.now) (sym part_is) ∙ in_front ∙ part_is,
          subst (λ xs. drop (length xs) ended.buffer.now ≡ drop (length xs) old) part_is (after w),
        );
      }

  -- the same holds of any result that is an error
  pub fronts_refused : {E : Type 0} (Q : E → Type 0) (result : Result ℕ E) → IsErrAnd result Q → Writes cursor_seen begun text false ended
      → Fronts {E = E} old text result ended.buffer.now
  fronts_refused Q (Ok n) h w = absurd h
  fronts_refused Q (Err e) h w = fronts_prefix e w
