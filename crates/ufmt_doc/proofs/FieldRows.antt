-- The fields of a struct that were written in a row.
use Rattle.std.proofs.Common.{◌≡◌, ◌∙◌, ap, sym, refl, ℕ, ◌+◌, ◌<◌, ◌≤◌, List, [], ◌∷◌, ◌++◌, append_assoc, length, map, drop, take, get_or, true, false, String, string_bytes}
use Rattle.std.proofs.lemmas.List.{map-append, take-append-drop, take_all}
use Rattle.std.proofs.lemmas.Simd.{map-map}
use Rattle.std.specs.declared.alloc.Global.{Global}
use Rattle.ufmt.specs.BuilderView.{BuilderView, WritesAll, WritesEntry, WritesRow, field_text, inner, remaining_fields}
use Rattle.ufmt.specs.Document.{Document, fields_of}
use Rattle.ufmt.specs.Layout.{Frame, framed_all, count_after, next}
use Rattle.ufmt.specs.Writes.{Seen}
use Rattle.ufmt_core.proofs.Blocks.{WritesText-fails, count_after-map}
use Rattle.ufmt_core.specs.declared.layout.Count.{Count}
use Rattle.ufmt_core.specs.declared.layout.Setting.{Setting}
use Rattle.ufmt.proofs.Printing.{WritesRow-next, field_texts-fields_of}

-- the texts of the fields are those of the vector's items, in order
pub field_texts-of : {V : Type 0} (document : V → Document) (fields : List (String Global × V)) (i : Setting)
    → remaining_fields (fields_of (map (λ (f : String Global × V). (string_bytes f.0, document f.1)) fields)) i
    ≡ map (λ (f : String Global × V). field_text (string_bytes f.0) (document f.1) i) fields
field_texts-of {V} document fields i =
    field_texts-fields_of i (map (λ (f : String Global × V). (string_bytes f.0, document f.1)) fields)
    ∙ map-map (λ (f : List ℕ × Document). field_text f.0 f.1 i) (λ (f : String Global × V). (string_bytes f.0, document f.1)) fields

framed_all-append : (f : Frame) (i : Setting) (count : Count) (ts us : List (List ℕ))
    → framed_all f i count (ts ++ us) ≡ framed_all f i count ts ++ framed_all f i (count_after count ts) us
framed_all-append f i count [] us = refl
framed_all-append f i count (t ∷ ts) us = rw (framed_all-append f i (next count) ts us) (simp append_assoc)

-- a loop over items, after the entries of the first k
module _ {W X : Type 0} {seen : Seen W} {b mid : BuilderView W} {text_of : X → Setting → List ℕ} (whole : List X) {left : Setting → List (List ℕ)}
    (all : (i : Setting) → left i ≡ map (λ x. text_of x i) whole) (k : ℕ) where
  -- at its end all were written
  pub all_written : length whole ≤ k → WritesRow seen b text_of (take k whole) true mid → WritesAll seen b left true mid
  all_written all_k row =
      let kept : take k whole ≡ whole = take_all k whole all_k in
      record { part = rw (all (inner b), count_after-map (λ x. text_of x (inner b)) b.count whole) (rw kept at row.part) }

  -- the next entry failed
  pub next_failed : {b' : BuilderView W} {y : X} → k < length whole → y ≡ get_or whole k y → WritesRow seen b text_of (take k whole) true mid
      → WritesEntry seen mid (text_of y) false b' → WritesAll seen b left false b'
  next_failed {y} within is before e =
      let so_far = WritesRow-next text_of whole k y false within is before e in
      let text : X → List ℕ = λ x. text_of x (inner b) in
      let split : map text whole ≡ map text (take (k + 1) whole) ++ map text (drop (k + 1) whole) =
      ap (map text) (sym (take-append-drop (k + 1) whole)) ∙ map-append text (take (k + 1) whole) (drop (k + 1) whole) in
      record { part = rw (all (inner b), split, framed_all-append) (WritesText-fails _ so_far.part) }
