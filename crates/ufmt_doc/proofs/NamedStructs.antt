-- Printing a struct whose name says whether it ends in dots.
use Rattle.std.proofs.Common.{◌≡◌, ℕ, ◌<◌, ◌≤◌, List, Bool, true, false, is_ok, Result, Err, OnErr, length, map, take, get_or, String, string_bytes}
use Rattle.std.specs.Prelude.{IsErr}
use Rattle.std.specs.declared.alloc.Global.{Global}
use Rattle.ufmt.specs.BuilderView.{BuilderView, WritesEnding, WritesEntry, WritesOpening, WritesRow, dots_ending_of, ending_of, field_text}
use Rattle.ufmt.specs.Document.{Document, Fields, fields_of}
use Rattle.ufmt.specs.Formatter.{LaysOut, Prints}
use Rattle.ufmt.specs.Writes.{Seen}
use Rattle.ufmt_core.specs.declared.formatter.Formatter.{Formatter}
use Rattle.ufmt_core.specs.declared.layout.Kind.TheVariants.{Struct}
use Rattle.ufmt_core.specs.declared.layout.Setting.{Setting}
use Rattle.ufmt.proofs.Printing.{GivesBack, dotted, dotted_failed, dotted_not_opened, failed, finished, is_struct, loop_ended, loop_next, not_opened, opened, written}
use Rattle.ufmt_doc.specs.StructNames.{named_struct}
use Rattle.ufmt_doc.proofs.FieldRows.{all_written, field_texts-of, next_failed}
use Rattle.ufmt_doc.proofs.StructNames.{dotted_struct, exhaustive_struct}

-- the call that begins it failed
module _ {W : Type 0} {seen : Seen W} {start last : Formatter W} {B E X F : Type 0} {r : Result B E} {e : E} (outcome : Result X F) (fs : Fields) where
  not_begun_as : (text : List ℕ) (dots : Bool) → IsErr outcome → r ≡ Err e → OnErr r (Prints seen start text false last)
      → LaysOut seen start (named_struct (text, dots) fs) (is_ok outcome) last
  not_begun_as text true fails was unopened = dotted_not_opened outcome fails was unopened
  not_begun_as text false fails was unopened = not_opened is_struct outcome fails was unopened

  pub not_begun : (name : List ℕ × Bool) {text : List ℕ} → text ≡ name.0 → IsErr outcome → r ≡ Err e → OnErr r (Prints seen start text false last)
      → LaysOut seen start (named_struct name fs) (is_ok outcome) last
  not_begun name named fails was unopened = not_begun_as name.0 name.1 fails was (rw named at unopened)

-- the text of a field, and a struct's fields, by what is the document of a value
module _ {V : Type 0} (document : V → Document) where
  abbrev pub text_of : String Global × V → Setting → List ℕ
  text_of f = field_text (string_bytes f.0) (document f.1)

  abbrev pub all_fields : List (String Global × V) → Fields
  all_fields fields = fields_of (map (λ (f : String Global × V). (string_bytes f.0, document f.1)) fields)

-- it was begun, and the first k of these fields were written
module _ {W V : Type 0} {seen : Seen W} {start last : Formatter W} {reference : ℕ} {b mid : BuilderView W} (document : V → Document)
    (fields : List (String Global × V)) (k : ℕ) where
  stopped_as : (text : List ℕ) (dots : Bool) {y : String Global × V} {new : BuilderView W} → WritesOpening seen start reference Struct text b
      → k < length fields → y ≡ get_or fields k y → WritesRow seen b (text_of document) (take k fields) true mid → WritesEntry seen mid (text_of document y) false new
      → GivesBack reference new last → LaysOut seen start (named_struct (text, dots) (all_fields document fields)) false last
  stopped_as text true opening within is before e gives = dotted_failed opening (next_failed fields (field_texts-of document fields) k within is before e) gives
  stopped_as text false opening within is before e gives =
      opened is_struct opening (failed (loop_next fields (field_texts-of document fields) k within is before e) gives)

  module _ (name : List ℕ × Bool) {text : List ℕ} (named : text ≡ name.0) {new : BuilderView W} where
    -- the next one failed
    pub stopped : {y : String Global × V} → WritesOpening seen start reference Struct text b → k < length fields → y ≡ get_or fields k y
        → WritesRow seen b (text_of document) (take k fields) true mid → WritesEntry seen mid (text_of document y) false new → GivesBack reference new last
        → LaysOut seen start (named_struct name (all_fields document fields)) false last
    stopped opening = stopped_as name.0 name.1 (rw named at opening)

    -- these were all, and the end was written, with dots or without
    pub dotted_ended : {ok : Bool} → name.1 ≡ true → WritesOpening seen start reference Struct text b → length fields ≤ k
        → WritesRow seen b (text_of document) (take k fields) true mid → WritesEnding seen mid (dots_ending_of mid) ok new → GivesBack reference new last
        → LaysOut seen start (named_struct name (all_fields document fields)) ok last
    dotted_ended ends opening all before end gives =
        rw (dotted_struct name (all_fields document fields) ends) (dotted (rw named at opening) (all_written fields (field_texts-of document fields) k all before) end gives)

    pub ended : {ok : Bool} → name.1 ≡ false → WritesOpening seen start reference Struct text b → length fields ≤ k
        → WritesRow seen b (text_of document) (take k fields) true mid → WritesEnding seen mid (ending_of mid) ok new → GivesBack reference new last
        → LaysOut seen start (named_struct name (all_fields document fields)) ok last
    ended ends opening all before end gives =
        rw (exhaustive_struct name (all_fields document fields) ends)
        (opened is_struct (rw named at opening) (written (loop_ended fields (field_texts-of document fields) k all before) (finished end gives)))
