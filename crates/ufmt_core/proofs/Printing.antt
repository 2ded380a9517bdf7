-- The steps that prove a `fmt`, one for each call of a builder: the rest of the block before the call, and after it.
use Rattle.std.proofs.Common.{◌≡◌, ℕ, List, [], ◌∷◌, ◌++◌, Bool, true, false, codes, is_ok, Result, Err, OnErr, refl, ap, sym, ◌∙◌, map, Iter, ◌+◌, ◌<◌, ◌≤◌, length, get_or, take, drop, append_assoc, append-nil}
use Rattle.std.specs.Prelude.{IsErr}
use Rattle.std.proofs.lemmas.List.{map-append, take-append-drop, take_all}
use Rattle.std.proofs.lemmas.Iterator.{YieldsList-from_slice}
use Rattle.std.proofs.lemmas.Simd.{map-map}
use Rattle.std.proofs.lemmas.Result.{IfErr-at_err}
use Rattle.std.specs.Slice.Iter.{iter_rest, iter_steps}
use Rattle.ufmt_core.specs.Document.{Document, list_of, set_of, map_of, struct_of, non_exhaustive_of, tuple_of, Documents, Pairs, Fields, documents, pairs_of, fields_of}
use Rattle.ufmt_core.specs.Layout.{Setting, Kind, Brackets, Braces, Struct, Count, Zero, frame, framed, framed_all, count_after, inside, layout, next, block_tail, texts, pair_texts, field_texts, tuple_kind}
use Rattle.ufmt_core.specs.Writes.{Seen, Writes}
use Rattle.ufmt_core.specs.Formatter.{Formatter, Prints, LaysOut, lays_out, prints_layout, setting_of, writer_of}
use Rattle.ufmt_core.specs.BuilderView.{Lent, BuilderView, WritesAll, WritesEnding, WritesEntries, WritesEntry, EndsEntry, IsInside, WritesOpening, WritesText, WritesRow, StopsIn, dots_ending_of, ending_of, remaining_entries, entry_text, field_lead_of, field_text, remaining_fields, frame_of, inner, lead_of, pair_text, remaining_pairs, tail_of, trail_of}
use Rattle.ufmt_core.proofs.Blocks.{Same-then, WritesEnding-fails, WritesEnding-then, WritesText-between, WritesText-fails, WritesRow-from_entries, WritesRow-next, block_tail-append, count_after-map, lent_to}
use Rattle.ufmt_core.proofs.Items.{AlwaysYields-items}
use Rattle.ufmt_core.proofs.Writing.{Writes-then, Writes-fails}
pub use Rattle.ufmt_core.proofs.Blocks.{WritesAll-fails, WritesAll-none, WritesAll-then, WritesRow-more, WritesRow-next, WritesRow-none}
pub use Rattle.ufmt_core.proofs.Writing.{LaysOut-err}

abbrev pub Entries : Type 0
Entries = Setting → List (List ℕ)

module _ {W : Type 0} where
  -- the rest of the block was written by the builder with the reference of this name; its formatter is now `last`, with
  -- mode and depth from before the builder
  pub record Completes (seen : Seen W) (reference : ℕ) (b : BuilderView W) (left : Entries) (ok : Bool) (last : Formatter W) : Type 0 where
    pub continues : reference ≡ b.reference
        → Writes seen (writer_of b.formatter) (tail_of b left) ok (writer_of last) × (setting_of last ≡ b.outer)

  -- the loan of the reference of this name ends with the builder's formatter
  abbrev pub GivesBack : ℕ → BuilderView W → Formatter W → Type 0
  GivesBack reference b last = reference ≡ b.reference → last ≡ b.formatter

  -- a call wrote the first part of the rest, or a prefix of that part; `more` is left after it
  pub record Step (seen : Seen W) (b : BuilderView W) (left : Entries) (ok : Bool) (b' : BuilderView W) (more : Entries) : Type 0 where
    pub part : List ℕ
    pub count : Count
    pub text : tail_of b left ≡ part ++ block_tail (frame_of b) b.outer count (more (inner b))
    pub wrote : WritesText seen b part ok count b'

-- the document's layout is an opening and the rest of a block of this kind
pub record IsBlock (d : Document) (kind : Kind) (opening : List ℕ) (left : Entries) : Type 0 where
  pub joined : (s : Setting) → layout s d ≡ opening ++ block_tail (frame s.mode kind) s Zero (left (inside s))

pub is_list : {ds : Documents} → IsBlock (list_of ds) Brackets (codes "[") (remaining_entries ds)
is_list = record { joined = λ s. refl }

pub is_set : {ds : Documents} → IsBlock (set_of ds) Braces (codes "{") (remaining_entries ds)
is_set = record { joined = λ s. refl }

pub is_map : {ps : Pairs} → IsBlock (map_of ps) Braces (codes "{") (remaining_pairs ps)
is_map = record { joined = λ s. refl }

pub is_struct : {name : List ℕ} {fs : Fields} → IsBlock (struct_of name fs) Struct name (remaining_fields fs)
is_struct = record { joined = λ s. refl }

pub is_tuple : {name : List ℕ} {ds : Documents} → IsBlock (tuple_of name ds) (tuple_kind name) name (remaining_entries ds)
is_tuple {name = []} = record { joined = λ s. refl }
is_tuple {name = c ∷ name} = record { joined = λ s. refl }

module _ {W : Type 0} {seen : Seen W} {start last : Formatter W} {d : Document} {kind : Kind} {opening : List ℕ} {left : Entries}
    (is_block : IsBlock d kind opening left) where
  -- a `debug_` call failed
  pub not_opened : {B E X F : Type 0} {r : Result B E} {e : E} (outcome : Result X F) → IsErr outcome → r ≡ Err e
      → OnErr r (Prints seen start opening false last) → LaysOut seen start d (is_ok outcome) last
  not_opened outcome failed was unopened =
      let p = IfErr-at_err _ was unopened in
      LaysOut-err outcome failed (lays_out (record { wrote = rw (is_block.joined (setting_of start)) (Writes-fails _ p.wrote); same_setting = p.same_setting }))

  -- a `debug_` call began the block, and later calls wrote the rest
  pub opened : {reference : ℕ} {b : BuilderView W} {ok : Bool} → WritesOpening seen start reference kind opening b
      → Completes seen reference b left ok last → LaysOut seen start d ok last
  opened {b = b} o c =
      let more = c.continues (sym o.same.reference) in
      let text : layout (setting_of start) d ≡ opening ++ tail_of b left = rw (o.same.outer, o.same.kind, o.count) (is_block.joined (setting_of start)) in
      lays_out (record { wrote = rw text (Writes-then o.wrote more.0); same_setting = more.1 ∙ o.same.outer })

pub texts-documents : (i : Setting) (ds : List Document) → texts i (documents ds) ≡ map (layout i) ds
texts-documents i [] = refl
texts-documents i (d ∷ ds) = ap (λ ts. layout i d ∷ ts) (texts-documents i ds)

pub pair_texts-pairs_of : (i : Setting) (ps : List (Document × Document)) → pair_texts i (pairs_of ps) ≡ map (λ p. pair_text p.0 p.1 i) ps
pair_texts-pairs_of i [] = refl
pair_texts-pairs_of i (p ∷ ps) = ap (λ ts. pair_text p.0 p.1 i ∷ ts) (pair_texts-pairs_of i ps)

pub field_texts-fields_of : (i : Setting) (fs : List (List ℕ × Document)) → field_texts i (fields_of fs) ≡ map (λ f. field_text f.0 f.1 i) fs
field_texts-fields_of i [] = refl
field_texts-fields_of i (f ∷ fs) = ap (λ ts. field_text f.0 f.1 i ∷ ts) (field_texts-fields_of i fs)

-- a step, and then a call that writes the rest and the end
module _ {W : Type 0} {seen : Seen W} {b b' : BuilderView W} {left more : Entries} where
  step_text : (a : Step seen b left true b' more) → tail_of b left ≡ a.part ++ tail_of b' more
  step_text a = rw (a.wrote.same.outer, a.wrote.same.kind, a.wrote.after.0) a.text

  pub ending_written : {new : BuilderView W} {ok : Bool} → Step seen b left true b' more → WritesEnding seen b' (tail_of b' more) ok new
      → WritesEnding seen b (tail_of b left) ok new
  ending_written a f = rw (step_text a) (WritesEnding-then a.wrote f)

  pub ending_failed : Step seen b left false b' more → WritesEnding seen b (tail_of b left) false b'
  ending_failed a = rw a.text (WritesEnding-fails _ a.wrote)

-- a call of a builder succeeded, failed, or closed the block
module _ {W : Type 0} {seen : Seen W} {reference : ℕ} {b b' : BuilderView W} {last : Formatter W} {left : Entries} where
  pub written : {more : Entries} {ok : Bool} → Step seen b left true b' more → Completes seen reference b' more ok last
      → Completes seen reference b left ok last
  written a c = record {
    continues = λ h.
        let then = c.continues (h ∙ sym a.wrote.same.reference) in
        (rw (step_text a) (Writes-then a.wrote.wrote then.0), then.1 ∙ a.wrote.same.outer);
  }

  pub completed : {ok : Bool} → WritesEnding seen b (tail_of b left) ok b' → GivesBack reference b' last → Completes seen reference b left ok last
  completed f e = record {
    continues = λ h.
        let at_end = e (h ∙ sym f.same.reference) in
        (rw at_end f.wrote, ap setting_of at_end ∙ f.restored);
  }

  pub failed : {more : Entries} → Step seen b left false b' more → GivesBack reference b' last → Completes seen reference b left false last
  failed a = completed (ending_failed a)

pub finished : {W : Type 0} {seen : Seen W} {reference : ℕ} {b b' : BuilderView W} {last : Formatter W} {ok : Bool}
    → WritesEnding seen b (ending_of b) ok b' → GivesBack reference b' last → Completes seen reference b (λ i. []) ok last
finished = completed

-- the call that begins a struct of which not all fields are shown failed
pub dotted_not_opened : {W : Type 0} {seen : Seen W} {start last : Formatter W} {name : List ℕ} {fs : Fields} {B E X F : Type 0} {r : Result B E} {e : E}
    (outcome : Result X F) → IsErr outcome → r ≡ Err e → OnErr r (Prints seen start name false last)
    → LaysOut seen start (non_exhaustive_of name fs) (is_ok outcome) last
dotted_not_opened outcome failed was unopened =
    let p = IfErr-at_err _ was unopened in
    LaysOut-err outcome failed (lays_out (record { wrote = Writes-fails _ p.wrote; same_setting = p.same_setting }))

-- a struct of which not all fields are shown: its name was written, the fields that are, and the dots
module _ {W : Type 0} {seen : Seen W} {start last : Formatter W} {name : List ℕ} {fs : Fields} {reference : ℕ} {b mid : BuilderView W}
    (o : WritesOpening seen start reference Struct name b) where
  pub dotted : {new : BuilderView W} {ok : Bool} → WritesAll seen b (remaining_fields fs) true mid → WritesEnding seen mid (dots_ending_of mid) ok new
      → GivesBack reference new last → LaysOut seen start (non_exhaustive_of name fs) ok last
  dotted w e gives =
      let at_end = gives (sym (Same-then (Same-then o.same w.part.same) e.same).reference) in
      let text : layout (setting_of start) (non_exhaustive_of name fs)
      ≡ name ++ (framed_all (frame_of b) (inner b) b.count (remaining_fields fs (inner b)) ++ dots_ending_of mid) =
      rw (w.part.after.0, w.part.same.outer, o.same.outer, o.same.kind, o.count) refl in
      lays_out (record {
        wrote = rw (text, at_end) (Writes-then o.wrote (Writes-then w.part.wrote e.wrote));
        same_setting = ap setting_of at_end ∙ e.restored ∙ w.part.same.outer ∙ o.same.outer;
      })

  pub dotted_failed : WritesAll seen b (remaining_fields fs) false mid → GivesBack reference mid last
      → LaysOut seen start (non_exhaustive_of name fs) false last
  dotted_failed w gives =
      let at_end = gives (sym (Same-then o.same w.part.same).reference) in
      let fields : framed_all (frame (setting_of start).mode Struct) (inside (setting_of start)) Zero (remaining_fields fs (inside (setting_of start)))
      ≡ framed_all (frame_of b) (inner b) b.count (remaining_fields fs (inner b)) = rw (o.same.outer, o.same.kind, o.count) refl in
      lays_out (record {
        wrote = rw (fields, at_end) (Writes-then o.wrote (Writes-fails _ w.part.wrote));
        same_setting = ap setting_of at_end ∙ w.part.after.1 ∙ o.same.outer;
      })

module _ {W : Type 0} (b : BuilderView W) where
  -- an entry is the first part of the rest
  block_tail-entry : (text : Setting → List ℕ) (left : Entries) →
      tail_of b (λ i. text i ∷ left i) ≡ framed (frame_of b) (inner b) b.count (text (inner b))
      ++ block_tail (frame_of b) b.outer (next b.count) (left (inner b))
  block_tail-entry text left = simp append_assoc

  -- entries in a row are the first part of the rest
  block_tail-row : {D : Type 0} (text_of : D → Setting → List ℕ) (items : List D) (left more : Entries)
      → ((i : Setting) → left i ≡ map (λ x. text_of x i) items ++ more i) →
      tail_of b left ≡ framed_all (frame_of b) (inner b) b.count (map (λ x. text_of x (inner b)) items)
      ++ block_tail (frame_of b) b.outer (count_after b.count items) (more (inner b))
  block_tail-row text_of items left more all =
      let texts = map (λ x. text_of x (inner b)) items in
      let split : tail_of b left ≡ framed_all (frame_of b) (inner b) b.count texts ++ block_tail (frame_of b) b.outer (count_after b.count texts) (more (inner b)) =
      ap (λ ts. block_tail (frame_of b) b.outer b.count ts) (all (inner b)) ∙ block_tail-append (frame_of b) b.outer b.count texts (more (inner b)) in
      rw (sym (count_after-map (λ x. text_of x (inner b)) b.count items)) split

module _ {W : Type 0} {seen : Seen W} {b b' : BuilderView W} {ok : Bool} where
  pub entry : {text : Setting → List ℕ} {left : Entries} → WritesEntry seen b text ok b' → Step seen b (λ i. text i ∷ left i) ok b' left
  entry {text} {left} e = record { part = _; count = _; text = block_tail-entry b text left; wrote = e.part }

  -- entries in a row are the first part of the rest, or all of it
  module _ {D : Type 0} {text_of : D → Setting → List ℕ} {items : List D} {left : Entries} where
    pub row : (more : Entries) → ((i : Setting) → left i ≡ map (λ x. text_of x i) items ++ more i) → WritesRow seen b text_of items ok b'
        → Step seen b left ok b' more
    row more all r = record { part = _; count = _; text = block_tail-row b text_of items left more all; wrote = r.part }

    pub rows : ((i : Setting) → left i ≡ map (λ x. text_of x i) items) → WritesRow seen b text_of items ok b' → Step seen b left ok b' (λ i. [])
    rows all = row (λ i. []) (λ i. all i ∙ sym (append-nil _))

  -- entries in a row of all these documents, or of all these pairs
  pub entries : (ds : List Document) → WritesRow seen b entry_text ds ok b' → Step seen b (remaining_entries (documents ds)) ok b' (λ i. [])
  entries ds = rows (λ i. texts-documents i ds)

  pub pairs : (ps : List (Document × Document)) → WritesRow seen b (λ p. pair_text p.0 p.1) ps ok b'
      → Step seen b (remaining_pairs (pairs_of ps)) ok b' (λ i. [])
  pairs ps = rows (λ i. pair_texts-pairs_of i ps)

  -- `entries` over the iterator of a slice with these items left
  pub items : {X : Type 0} {iterator : Iter X} {xs : List X} (h : X → Document) → iter_rest iterator ≡ xs
      → WritesEntries seen (λ from it. it ≡ from) iter_steps (λ x. entry_text (h x.now)) iterator b ok b' →
      Step seen b (remaining_entries (documents (map h xs))) ok b' (λ i. [])
  items {iterator = iterator} {xs} h left a = entries (map h xs) (WritesRow-from_entries (λ x. h x.now) entry_text iterator (map h xs) ok
      (λ it gives. AlwaysYields-items h xs (YieldsList-from_slice xs (ap iter_rest gives ∙ left))) a)

  -- a loop over values, after the entries of the first k: it is at its end, or the next entry was written or failed
  module _ {X : Type 0} {text_of : X → Setting → List ℕ} (whole : List X) {left : Entries} (all : (i : Setting) → left i ≡ map (λ x. text_of x i) whole)
      (k : ℕ) where
    pub loop_ended : length whole ≤ k → WritesRow seen b text_of (take k whole) ok b' → Step seen b left ok b' (λ i. [])
    loop_ended all_k = rows (λ i. all i ∙ ap (map (λ x. text_of x i)) (sym (take_all k whole all_k)))

    pub loop_next : {y : X} {mid : BuilderView W} → k < length whole → y ≡ get_or whole k y → WritesRow seen b text_of (take k whole) true mid
        → WritesEntry seen mid (text_of y) ok b' → Step seen b left ok b' (λ i. map (λ x. text_of x i) (drop (k + 1) whole))
    loop_next {y} within is before e =
        row _ (λ i. all i ∙ ap (map (λ x. text_of x i)) (sym (take-append-drop (k + 1) whole))
        ∙ map-append (λ x. text_of x i) (take (k + 1) whole) (drop (k + 1) whole)) (WritesRow-next text_of whole k y ok within is before e)

-- the texts of values' documents, in the order of the values
pub texts-of : {X : Type 0} (h : X → Document) (xs : List X) (i : Setting) → remaining_entries (documents (map h xs)) i ≡ map (λ x. entry_text (h x) i) xs
texts-of h xs i = texts-documents i (map h xs) ∙ map-map (layout i) h xs

pub pair_texts-of : {X : Type 0} (key value : X → Document) (xs : List X) (i : Setting)
    → remaining_pairs (pairs_of (map (λ x. (key x, value x)) xs)) i ≡ map (λ x. pair_text (key x) (value x) i) xs
pair_texts-of key value xs i = pair_texts-pairs_of i (map (λ x. (key x, value x)) xs) ∙ map-map (λ p. pair_text p.0 p.1 i) (λ x. (key x, value x)) xs

-- a field is the text up to its value, the value, and the trail
field_framed : {W : Type 0} (b : BuilderView W) (name : List ℕ) (d : Document) → framed (frame_of b) (inner b) b.count (field_text name d (inner b))
    ≡ field_lead_of name b ++ (entry_text d (inner b) ++ trail_of b)
field_framed b name d = simp append_assoc

-- an entry in halves: the lent formatter printed the value, and the second half wrote the trail
module _ {W E : Type 0} {seen : Seen W} {d : Document} {begun ended : Formatter W} {mid new : BuilderView W} {outcome result : Result (Unit {0}) E}
    (old : BuilderView W) where
  pub entry_between : IsInside old → mid ≡ lent_to Lent old ended → Prints seen old.formatter (lead_of old) true begun → LaysOut seen begun d (is_ok outcome) ended
      → EndsEntry seen outcome mid result (is_ok result) new → WritesEntry seen old (entry_text d) (is_ok result) new
  entry_between inside_b m p l e = record { part = WritesText-between Lent old ended _ (entry_text d) outcome result inside_b m p (prints_layout l) e }

  pub field_between : (name : List ℕ) → IsInside old → mid ≡ lent_to Lent old ended → Prints seen old.formatter (field_lead_of name old) true begun
      → LaysOut seen begun d (is_ok outcome) ended → EndsEntry seen outcome mid result (is_ok result) new
      → WritesEntry seen old (field_text name d) (is_ok result) new
  field_between name inside_b m p l e = record {
    part =
        rw (field_framed old name d) (WritesText-between Lent old ended _ (entry_text d) outcome result inside_b m p (prints_layout l) e);
  }

-- the first half of an entry, of a map's entry, or of a field failed
module _ {W X E : Type 0} {seen : Seen W} {b b' : BuilderView W} {r : Result X E} {e : E} (was : r ≡ Err e) where
  pub entry_not_begun : {text : Setting → List ℕ} → OnErr r (StopsIn seen b (lead_of b) b') → WritesEntry seen b text false b'
  entry_not_begun stop = record { part = WritesText-fails _ (IfErr-at_err _ was stop) }

  pub field_not_begun : (name : List ℕ) (d : Document) → OnErr r (StopsIn seen b (field_lead_of name b) b') → WritesEntry seen b (field_text name d) false b'
  field_not_begun name d stop = record { part = rw (field_framed b name d) (WritesText-fails _ (IfErr-at_err _ was stop)) }
