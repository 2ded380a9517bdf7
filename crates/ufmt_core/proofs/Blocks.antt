-- The calls of a builder write the parts of its block.
use Rattle.std.proofs.Common.{◌≡◌, ℕ, List, [], ◌∷◌, ◌++◌, Bool, true, false, is_ok, Result, Ok, Err, OnOk, OnErr, IsOk, IfErr, codes, ◌+◌, ◌<◌, length, take, drop, get_or, refl, ap, sym, ◌∙◌, subst, map, append_assoc, append-nil}
use Rattle.std.specs.Prelude.{IsErr, Option, Some}
use Rattle.std.specs.Iterator.{AlwaysYields, Yields}
use Rattle.std.proofs.iter.Next.{Yields-more}
use Rattle.std.proofs.lemmas.Iterator.{YieldsList, items_from_drains}
use Rattle.std.proofs.lemmas.Iterator.Consumers.{YieldsList-so_far}
use Rattle.std.proofs.lemmas.List.{map-append, take_more, take-append-drop}
use Rattle.std.proofs.lemmas.Simd.{map-map}
use Rattle.ufmt_core.specs.Document.{Document}
use Rattle.ufmt_core.specs.Layout.{Setting, Kind, Count, Zero, Frame, block_text, ending, frame, framed, framed_all, count_after, inside, layout, next, block_tail}
use Rattle.ufmt_core.specs.Writes.{Seen}
use Rattle.ufmt_core.specs.Formatter.{Formatter, LaysOut, Prints, prints_layout, setting_of}
use Rattle.ufmt_core.specs.BuilderView.{Status, Lent, LentValue, BuilderView, Same, WritesText, WritesEntry, WritesAll, WritesRow, WritesEntries, Abandons, EndsEntry, WritesEnding, After, IsInside, IsOpen, StopsIn, block_in_parts, frame_of, inner, lead_of, pair_text, trail_of}
use Rattle.ufmt_core.proofs.Writing.{is_ok-err, Writes-then, Writes-fails, Writes-nothing, Prints-then, Prints-then_at}

module _ {W : Type 0} where
  pub Same-then : {old mid new : BuilderView W} → Same old mid → Same mid new → Same old new
  Same-then a b = record { reference = b.reference ∙ a.reference; kind = b.kind ∙ a.kind; outer = b.outer ∙ a.outer }

  -- what a call leaves depends only on the mode and depth from before the builder
  After-from : (ok : Bool) (count : Count) (old mid new : BuilderView W) → mid.outer ≡ old.outer → After ok count mid new → After ok count old new
  After-from true count old mid new o h = h
  After-from false count old mid new o h = (h.0, h.1 ∙ o)

  -- the builder with this status and this formatter
  abbrev pub lent_to : Status → BuilderView W → Formatter W → BuilderView W
  lent_to status b f = record b { formatter = f; status = status }

module _ {W : Type 0} {seen : Seen W} where
  -- two calls in a row write their texts joined
  pub WritesText-then : {old mid new : BuilderView W} {p q : List ℕ} {ok : Bool} {between count : Count} → WritesText seen old p true between mid
      → WritesText seen mid q ok count new → WritesText seen old (p ++ q) ok count new
  WritesText-then {old} {mid} {new} {ok = ok} {count = count} a b = record {
    wrote = Writes-then a.wrote b.wrote;
    same = Same-then a.same b.same;
    after = After-from ok count old mid new a.same.outer b.after;
  }

  -- a call that fails in a text fails in each text that begins with it
  pub WritesText-fails : {old new : BuilderView W} {p : List ℕ} (q : List ℕ) {between count : Count} → WritesText seen old p false between new
      → WritesText seen old (p ++ q) false count new
  WritesText-fails q a = record { wrote = Writes-fails q a.wrote; same = a.same; after = a.after }

  -- a call that succeeds, and then one that closes the block
  pub WritesEnding-then : {old mid new : BuilderView W} {p q : List ℕ} {ok : Bool} {between : Count} → WritesText seen old p true between mid
      → WritesEnding seen mid q ok new → WritesEnding seen old (p ++ q) ok new
  WritesEnding-then a f = record {
    wrote = Writes-then a.wrote f.wrote;
    same = Same-then a.same f.same;
    closed = f.closed;
    restored = f.restored ∙ a.same.outer;
  }

  -- a call that fails closes the block
  pub WritesEnding-fails : {old new : BuilderView W} {p : List ℕ} (q : List ℕ) {between : Count} → WritesText seen old p false between new
      → WritesEnding seen old (p ++ q) false new
  WritesEnding-fails q a = record { wrote = Writes-fails q a.wrote; same = a.same; closed = a.after.0; restored = a.after.1 }

-- a call that returns `Ok` was passed an `Ok`
handed_ok : {X Y E : Type 0} (outcome : Result X E) (result : Result Y E) → IfErr outcome (λ e. result ≡ Err e) → IsOk result → is_ok outcome ≡ true
handed_ok (Ok x) result h k = refl
handed_ok (Err x) result h k = cc (ap is_ok h)

-- the lent formatter printed a text, and then a call of the builder
module _ {W : Type 0} {seen : Seen W} (pending : Status) (old : BuilderView W) {new : BuilderView W} {ended : Formatter W} {printed : List ℕ} where
  -- wrote the text after it
  WritesText-printed : {tail : List ℕ} {ok : Bool} {count : Count} → Prints seen old.formatter printed true ended
      → WritesText seen (lent_to pending old ended) tail ok count new → WritesText seen old (printed ++ tail) ok count new
  WritesText-printed {ok = ok} {count} p a = record {
    wrote = Writes-then p.wrote a.wrote;
    same = record { reference = a.same.reference; kind = a.same.kind; outer = a.same.outer };
    after = After-from ok count old (lent_to pending old ended) new refl a.after;
  }

  -- was passed its error
  WritesText-abandoned : Prints seen old.formatter printed false ended → Abandons (lent_to pending old ended) new → StopsIn seen old printed new
  WritesText-abandoned p a = record {
    wrote = rw a.same_writer p.wrote;
    same = record { reference = a.same.reference; kind = a.same.kind; outer = a.same.outer };
    after = a.after;
  }

-- the lent formatter printed a text at the mode and depth of the entries
module _ {W : Type 0} {seen : Seen W} (old : BuilderView W) {begun ended : Formatter W} {before : List ℕ} {ok : Bool} where
  Prints-lent : (text : Setting → List ℕ) → IsInside old → Prints seen old.formatter before true begun
      → Prints seen begun (text (setting_of begun)) ok ended → Prints seen old.formatter (before ++ text (inner old)) ok ended
  Prints-lent text inside_b p l = subst (λ (s : Setting). Prints seen old.formatter (before ++ text s) ok ended) inside_b (Prints-then_at text p l)

-- an entry in halves: the lead was written, the lent formatter printed the value's text, and the second half wrote the trail
module _ {W E : Type 0} {seen : Seen W} (pending : Status) (old : BuilderView W) {new : BuilderView W} {begun : Formatter W} (ended : Formatter W)
    (before : List ℕ) (text : Setting → List ℕ) where
  pub WritesText-between : {mid : BuilderView W} (outcome result : Result (Unit {0}) E) → IsInside old → mid ≡ lent_to pending old ended
      → Prints seen old.formatter before true begun →
      Prints seen begun (text (setting_of begun)) (is_ok outcome) ended → EndsEntry seen outcome mid result (is_ok result) new →
      WritesText seen old (before ++ (text (inner old) ++ trail_of old)) (is_ok result) (next old.count) new
  WritesText-between (Ok x) result inside_b m p l e =
      let end = subst (λ (b : BuilderView W). EndsEntry seen (Ok x) b result (is_ok result) new) m e in
      rw (← append_assoc before (text (inner old)) (trail_of old)) (WritesText-printed pending old (Prints-lent old text inside_b p l) end.trail)
  WritesText-between (Err x) result inside_b m p l e =
      let end = subst (λ (b : BuilderView W). EndsEntry seen (Err x) b result (is_ok result) new) m e in
      rw (ap is_ok end.error.0, ← append_assoc before (text (inner old)) (trail_of old))
      (WritesText-fails _ (WritesText-abandoned pending old (Prints-lent old text inside_b p l) end.error.1))

-- an entry of a map is the text up to its value, the value, and the trail
pair_framed : {W : Type 0} (b : BuilderView W) (key value : Document) → framed (frame_of b) (inner b) b.count (pair_text key value (inner b))
    ≡ ((lead_of b ++ layout (inner b) key) ++ codes ": ") ++ (layout (inner b) value ++ trail_of b)
pair_framed b key value = simp append_assoc

-- a map's key, `: ` and its value, each by the lent formatter
module _ {W E : Type 0} {seen : Seen W} (old : BuilderView W) {new : BuilderView W} {begun : Formatter W} (ended : Formatter W) (key value : Document) where
  -- the key and then `: `, if `: ` failed, or if the key's `fmt` returned an error
  pub WritesEntry-no_value : {mid : BuilderView W} (outcome : Result (Unit {0}) E) → IsInside old → mid ≡ lent_to Lent old ended
      → Prints seen old.formatter (lead_of old) true begun → LaysOut seen begun key (is_ok outcome) ended →
      OnOk outcome (StopsIn seen mid (codes ": ") new) → OnErr outcome (Abandons mid new) → WritesEntry seen old (pair_text key value) false new
  WritesEntry-no_value (Ok x) inside_b m p l stop error =
      record {
        part = rw (pair_framed old key value) (WritesText-fails _
            (WritesText-printed Lent old (Prints-lent old (λ s. layout s key) inside_b p (prints_layout l))
            (subst (λ (b : BuilderView W). StopsIn seen b (codes ": ") new) m stop)));
      }
  WritesEntry-no_value (Err x) inside_b m p l stop error =
      record {
        part = rw (pair_framed old key value) (WritesText-fails _ (WritesText-fails (codes ": ") {between = old.count} {count = old.count}
            (WritesText-abandoned Lent old (Prints-lent old (λ s. layout s key) inside_b p (prints_layout l)) (subst (λ (b : BuilderView W). Abandons b new) m error))));
      }

  -- the key, `: ` and the value
  pub WritesEntry-pair : {Y : Type 0} {mid last : BuilderView W} {lent : Formatter W} (printed : Formatter W)
      (key_outcome outcome result : Result (Unit {0}) E) (lending : Result Y E) → IsInside old →
      mid ≡ lent_to Lent old ended → Prints seen old.formatter (lead_of old) true begun → LaysOut seen begun key (is_ok key_outcome) ended
      → IfErr key_outcome (λ e. lending ≡ Err e) → IsOk lending →
      last ≡ lent_to LentValue mid printed → Prints seen mid.formatter (codes ": ") true lent
      → LaysOut seen lent value (is_ok outcome) printed → EndsEntry seen outcome last result (is_ok result) new →
      WritesEntry seen old (pair_text key value) (is_ok result) new
  WritesEntry-pair {last = last} {lent = lent} printed key_outcome outcome result lending inside_b m p k error ok l colon v e =
      let keyed = subst (λ (o : Bool). Prints seen begun (layout (setting_of begun) key) o ended) (handed_ok key_outcome lending error ok) (prints_layout k) in
      let front = Prints-then (Prints-lent old (λ s. layout s key) inside_b p keyed) (subst (λ (b : BuilderView W). Prints seen b.formatter (codes ": ") true lent) m colon) in
      let lent_value : last ≡ lent_to LentValue old printed = l ∙ ap (λ b. lent_to LentValue b printed) m in
      record { part = rw (pair_framed old key value) (WritesText-between LentValue old printed _ (λ s. layout s value) outcome result inside_b lent_value front (prints_layout v) e) }

-- entries in a row and then the rest of the block are the rest from before them
pub block_tail-append : (f : Frame) (s : Setting) (count : Count) (ts us : List (List ℕ))
    → block_tail f s count (ts ++ us) ≡ framed_all f (inside s) count ts ++ block_tail f s (count_after count ts) us
block_tail-append f s count [] us = refl
block_tail-append f s count (t ∷ ts) us = rw (block_tail-append f s (next count) ts us) (simp append_assoc)

-- a block is its name and opening, its entries and its ending
pub block_tail-parts : (f : Frame) (s : Setting) (count : Count) (ts : List (List ℕ))
    → block_tail f s count ts ≡ framed_all f (inside s) count ts ++ ending f s (count_after count ts)
block_tail-parts f s count [] = refl
block_tail-parts f s count (t ∷ ts) = rw (block_tail-parts f s (next count) ts) (simp append_assoc)

pub block_text-parts : (kind : Kind) (name : List ℕ) (s : Setting) (ts : List (List ℕ)) → block_text kind s name ts ≡ block_in_parts kind name s ts
block_text-parts kind name s ts = ap (λ t. name ++ ((frame s.mode kind).opening ++ t)) (block_tail-parts (frame s.mode kind) s Zero ts)

framed_all-append : (f : Frame) (i : Setting) (count : Count) (ts us : List (List ℕ))
    → framed_all f i count (ts ++ us) ≡ framed_all f i count ts ++ framed_all f i (count_after count ts) us
framed_all-append f i count [] us = refl
framed_all-append f i count (t ∷ ts) us =
    rw (framed_all-append f i (next count) ts us) (sym (append_assoc (framed f i count t) (framed_all f i (next count) ts) _))

pub count_after-map : {X Y : Type 0} (f : X → Y) (count : Count) (xs : List X) → count_after count (map f xs) ≡ count_after count xs
count_after-map f count [] = refl
count_after-map f count (x ∷ xs) = count_after-map f (next count) xs

count_after-append : {X : Type 0} (count : Count) (xs : List X) (x : X) → count_after count (xs ++ x ∷ []) ≡ next (count_after count xs)
count_after-append count [] x = refl
count_after-append count (y ∷ xs) x = count_after-append (next count) xs x

module _ {W : Type 0} {seen : Seen W} where
  -- there is no entry to write
  pub WritesAll-none : (b : BuilderView W) → IsOpen b → WritesAll seen b (λ i. []) true b
  WritesAll-none b open_b = record {
    part =
        record { wrote = Writes-nothing _; same = record { reference = refl; kind = refl; outer = refl }; after = (refl, open_b) };
  }

  module _ {old mid : BuilderView W} {text : Setting → List ℕ} {texts : Setting → List (List ℕ)} where
    -- the first entry, and then the others
    pub WritesAll-then : {new : BuilderView W} {ok : Bool} → WritesEntry seen old text true mid → WritesAll seen mid texts ok new
        → WritesAll seen old (λ i. text i ∷ texts i) ok new
    WritesAll-then {new = new} {ok} e a =
        let others : WritesText seen mid (framed_all (frame_of old) (inner old) (next old.count) (texts (inner old))) ok
        (count_after (next old.count) (texts (inner old))) new = rw (← e.part.same.outer, ← e.part.same.kind, ← e.part.after.0) a.part in
        record { part = WritesText-then e.part others }

    -- the first entry failed
    pub WritesAll-fails : WritesEntry seen old text false mid → WritesAll seen old (λ i. text i ∷ texts i) false mid
    WritesAll-fails e = record { part = WritesText-fails _ e.part }

module _ {W D : Type 0} {seen : Seen W} (text_of : D → Setting → List ℕ) where
  -- before the first entry
  pub WritesRow-none : (b : BuilderView W) → IsOpen b → WritesRow seen b text_of [] true b
  WritesRow-none b open_b = record {
    part =
        record { wrote = Writes-nothing _; same = record { reference = refl; kind = refl; outer = refl }; after = (refl, open_b) };
  }

  -- one more entry
  pub WritesRow-more : {old mid new : BuilderView W} (xs : List D) (y : D) (ok : Bool) → WritesRow seen old text_of xs true mid
      → WritesEntry seen mid (text_of y) ok new → WritesRow seen old text_of (xs ++ y ∷ []) ok new
  WritesRow-more {old} {mid} {new} xs y ok a e =
      let texts = map (λ x. text_of x (inner old)) xs in
      let part : framed_all (frame_of old) (inner old) old.count (map (λ x. text_of x (inner old)) (xs ++ y ∷ [])) ≡
      framed_all (frame_of old) (inner old) old.count texts ++ framed (frame_of mid) (inner mid) mid.count (text_of y (inner mid)) =
      ap (λ ts. framed_all (frame_of old) (inner old) old.count ts) (map-append (λ x. text_of x (inner old)) xs (y ∷ []))
      ∙ framed_all-append (frame_of old) (inner old) old.count texts (text_of y (inner old) ∷ [])
      ∙ ap (λ t. framed_all (frame_of old) (inner old) old.count texts ++ t)
      (append-nil _ ∙ rw (a.part.same.outer, a.part.same.kind, a.part.after.0, count_after-map (λ x. text_of x (inner old)) old.count xs) refl) in
      record { part = rw (part, count_after-append old.count xs y, sym a.part.after.0) (WritesText-then a.part e.part) }

  -- the next entry of a list
  pub WritesRow-next : {old mid new : BuilderView W} (whole : List D) (k : ℕ) (y : D) (ok : Bool) → k < length whole → y ≡ get_or whole k y
      → WritesRow seen old text_of (take k whole) true mid → WritesEntry seen mid (text_of y) ok new →
      WritesRow seen old text_of (take (k + 1) whole) ok new
  WritesRow-next {old} {mid} {new} whole k y ok within is a e =
      subst (λ (xs : List D). WritesRow seen old text_of xs ok new) (ap (λ z. take k whole ++ z ∷ []) is ∙ sym (take_more whole k y within))
      (WritesRow-more (take k whole) y ok a e)

module _ {W U T D X E : Type 0} {seen : Seen W} {becomes : U → T → Type 0} (steps : T → Option D → T → Type 0) (text_of : D → Setting → List ℕ) where
  -- a loop over the items of an iterator, if the next entry failed
  pub WritesEntries-stopped : {entries : U} (first here after : T) {xs : List D} {y : D} {old mid new : BuilderView W} (outcome : Result X E)
      → IsErr outcome → becomes entries first →
      Yields steps first xs here → steps here (Some y) after → WritesRow seen old text_of xs true mid
      → WritesEntry seen mid (text_of y) false new → WritesEntries seen becomes steps text_of entries old (is_ok outcome) new
  WritesEntries-stopped first here after {xs} {y} outcome failed begins yields step a e =
      rw (is_ok-err outcome failed) record {
        iterator = first;
        begins = begins;
        items = xs ++ y ∷ [];
        drains = (after, Yields-more steps first xs here y after yields step, λ ok. absurd (cc));
        row = WritesRow-more text_of xs y false a e;
      }

module _ {W U T D Y : Type 0} {seen : Seen W} {becomes : U → T → Type 0} {steps : T → Option D → T → Type 0} (view : D → Y)
    (text_of : Y → Setting → List ℕ) where
  -- if each run of the iterator gives items that `view` takes to `ys`, their entries were written, or a prefix of them
  pub WritesRow-from_entries : (entries : U) (ys : List Y) {old new : BuilderView W} (ok : Bool) →
      ((it : T) → becomes entries it → AlwaysYields steps view it ys)
      → WritesEntries seen becomes steps (λ x. text_of (view x)) entries old ok new → WritesRow seen old text_of ys ok new
  WritesRow-from_entries entries ys {old} {new} true yields a =
      let given : YieldsList steps view a.iterator ys = record { runs = yields a.iterator a.begins } in
      let all = items_from_drains a.items (a.drains.0, a.drains.1, λ _. a.drains.2 refl) given in
      record { part = rw (← all, map-map (λ y. text_of y (inner old)) view a.items, count_after-map view old.count a.items) a.row.part }
  WritesRow-from_entries entries ys {old} {new} false yields a =
      let text : Y → List ℕ = λ y. text_of y (inner old) in
      let texts = map (λ x. text (view x)) a.items in
      let count = length a.items in
      let given : YieldsList steps view a.iterator ys = record { runs = yields a.iterator a.begins } in
      let first = YieldsList-so_far given a.items a.drains.0 a.drains.1 in
      let all : map text ys ≡ texts ++ map text (drop count ys) =
      ap (map text) (sym (take-append-drop count ys) ∙ ap (λ front. front ++ drop count ys) (sym first))
      ∙ map-append text (map view a.items) (drop count ys) ∙ ap (λ ts. ts ++ map text (drop count ys)) (map-map text view a.items) in
      record { part = rw (all, framed_all-append) (WritesText-fails _ a.row.part) }
