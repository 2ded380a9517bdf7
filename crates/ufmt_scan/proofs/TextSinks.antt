-- A sink that lays out the events of a document writes the document's other text.
use Rattle.std.proofs.Common.{◌≡◌, ◌∙◌, refl, ap, sym, subst, ℕ, Bool, true, false, List, [], ◌∷◌, ◌++◌, append-nil, Result, Ok, Err, arith}
use Rattle.std.specs.Prelude.{⊤}
use Rattle.ufmt_core.specs.Document.{Document}
use Rattle.ufmt_core.specs.Layout.{layout, setting}
use Rattle.ufmt_core.specs.declared.layout.Mode.{Mode}
use Rattle.ufmt_core.specs.declared.layout.Mode.TheVariants.{Plain, Pretty}
use Rattle.ufmt_core.specs.declared.layout.Setting.{Setting}
use Rattle.ufmt_grammar.specs.declared.class.Class.{Class}
use Rattle.ufmt_grammar.specs.Token.{IsDocument, normal}
use Rattle.ufmt_core.specs.Writes.{Seen, Writes}
use Rattle.ufmt_grammar.proofs.NormalForms.{IsDocument-normal, layout-normal, normal-normal}
use Rattle.ufmt_grammar.proofs.OneWay.{texts_agree}
use Rattle.ufmt_core.proofs.Writing.{Writes-fails, Writes-then}
use Rattle.ufmt_scan.specs.declared.convert.text_sink.TextSink.{TextSink}
use Rattle.ufmt_scan.specs.declared.scan.event.ScanError.TheVariants.{NotText, Sink}
use Rattle.ufmt_scan.specs.Private.TextSink.{Wrote}
use Rattle.ufmt_scan.specs.Scan.{TextEvent, TakesEvent, Scans, events_of, ScanError, Leaf, Empty, OnlyDots, Open, FieldName, Colon, Next, Close, Dots}
use Rattle.ufmt_scan.specs.ScanTexts.{written, setting_after, texts_written}
use Rattle.ufmt_scan.specs.Texts.{ConvertsTo, IsConverted, IsNormalForm}
use Rattle.ufmt_scan.proofs.EventTexts.{last_setting-append, texts_written-append, events_written}

-- two documents of a class with the same text in one mode have the same text in the other
modes_agree : (class : Class) (from to : Mode) (d e : Document) → IsDocument class d → IsDocument class e → layout (setting from 0) d ≡ layout (setting from 0) e
    → layout (setting to 0) d ≡ layout (setting to 0) e
modes_agree class Plain Plain d e hd he same = same
modes_agree class Plain Pretty d e hd he same = (texts_agree class d e hd he).0 same
modes_agree class Pretty Plain d e hd he same = (texts_agree class d e hd he).1 same
modes_agree class Pretty Pretty d e hd he same = same

abbrev written_of : Mode → Document → List ℕ
written_of to d = texts_written (setting to 0) (events_of d)

module _ (class : Class) (from to : Mode) (input : List ℕ) where
  abbrev IsOther : List ℕ → Type 0
  IsOther text = IsConverted class (layout (setting from 0)) (layout (setting to 0)) input text

  -- the input is converted to the text of the events of its document, and to no other text
  read_is : (d : Document) → IsNormalForm class (layout (setting from 0)) input d → IsOther (written_of to d) × ((text : List ℕ) → IsOther text → written_of to d ≡ text)
  read_is d form =
      let whole = events_written to class 0 d form.0.0 (omega (arith, form.0.1)) in (
        record { some = (d, form.0, form.2); each = λ e token same. modes_agree class from to e d token form.0 (same ∙ sym form.2) ∙ sym whole },
        λ text other. whole ∙ other.each d form.0 form.2,
      )

-- an event leaves the mode as it is
mode_stays : (to : Mode) (k : ℕ) (e : TextEvent) → setting to (setting_after (setting to k) e).depth ≡ setting_after (setting to k) e
mode_stays to k (Leaf text) = refl
mode_stays to k (Empty kind) = refl
mode_stays to k (OnlyDots name) = refl
mode_stays to k (Open kind name) = refl
mode_stays to k (FieldName text) = refl
mode_stays to k Colon = refl
mode_stays to k Next = refl
mode_stays to k (Close kind count) = refl
mode_stays to k Dots = refl

module _ {W M : Type 0} (seen : Seen W) (to : Mode) where
  -- a sink that wrote events and then one more wrote them all
  event_after : (start old new : TextSink W M) (es : List TextEvent) (e : TextEvent) (ok : Bool) → Wrote seen to true start es old
      → Writes seen old.writer.now (written (setting to old.depth) e) ok new.writer.now → setting to new.depth ≡ setting_after (setting to old.depth) e
      → new.writer.ghost_name ≡ old.writer.ghost_name → Wrote seen to ok start (es ++ e ∷ []) new
  event_after start old new es e ok before writes continues same = record {
    writes = simp (texts_written-append, sym before.continues, append-nil) (Writes-then before.writes writes);
    continues = simp (last_setting-append, sym before.continues) continues;
    same_writer = same ∙ before.same_writer;
  }

  -- the sink takes an event as `Sink` asks
  pub takes_event : (mode : Mode) → mode ≡ to → (old new : TextSink W M) (e : TextEvent) (ok : Bool) (next : Setting) → Writes seen old.writer.now (written (setting mode old.depth) e) ok new.writer.now
      → next ≡ setting_after (setting mode old.depth) e → new.depth ≡ next.depth → new.writer.ghost_name ≡ old.writer.ghost_name → TakesEvent (Wrote seen to true) (Wrote seen to false) old e ok new
  takes_event mode is old new e ok next writes after continues same =
      (elim ok as (λ ok. Writes seen old.writer.now (written (setting to old.depth) e) ok new.writer.now → TakesEvent (Wrote seen to true) (Wrote seen to false) old e ok new) [
        | true ↦ λ writes start es before. event_after start old new es e true before writes onward same
        | false ↦ λ writes start es before. event_after start old new es e false before writes onward same
      ]) (subst (λ m. Writes seen old.writer.now (written (setting m old.depth) e) ok new.writer.now) is writes)
    where
      depth_of : Setting → ℕ
      depth_of s = s.depth

      onward : setting to new.depth ≡ setting_after (setting to old.depth) e
      onward = ap (setting to) (continues ∙ ap depth_of (subst (λ m. next ≡ setting_after (setting m old.depth) e) is after)) ∙ mode_stays to old.depth e

  module _ (class : Class) (from : Mode) (input : List ℕ) (begun : TextSink W M) where
    from_start : (es : List TextEvent) (ok : Bool) (new : W) → begun.depth ≡ 0 → Writes seen begun.writer.now (texts_written (setting to begun.depth) es) ok new
        → Writes seen begun.writer.now (texts_written (setting to 0) es) ok new
    from_start es ok new outermost h = subst (λ k. Writes seen begun.writer.now (texts_written (setting to k) es) ok new) outermost h

    -- what a scan with that sink does with its writer
    pub scan_converts : {E : Type 0} (outcome : Result (⊤) (ScanError E)) (new : TextSink W M) → Scans (Wrote seen to true) (Wrote seen to false) class outcome begun new (layout (setting from 0)) input
        → begun.depth ≡ 0
        → ConvertsTo seen class (layout (setting from 0)) (layout (setting to 0)) input begun.writer.now outcome new.writer.now × (begun.writer.ghost_name ≡ new.writer.ghost_name)
    scan_converts (Ok x) new h start = (
      record {
        ok = λ is. (written_of to h.0, (read_is class from to input h.0 h.1).0);
        not_text = λ is. absurd (cc);
        writes = λ text other. subst (λ t. Writes seen begun.writer.now t true new.writer.now) ((read_is class from to input h.0 h.1).1 text other) (from_start (events_of h.0) true new.writer.now start h.2.writes);
        lawful = (written_of to h.0, true, from_start (events_of h.0) true new.writer.now start h.2.writes);
      },
      sym h.2.same_writer,
    )
    scan_converts (Err NotText) new h start = (
      record {
        ok = λ is. absurd (cc);
        not_text = λ is. h.2;
        writes = λ text other. absurd (h.2 other.some.0 other.some.1 other.some.2);
        lawful = (texts_written (setting to 0) h.0, true, from_start h.0 true new.writer.now start h.1.writes);
      },
      sym h.1.same_writer,
    )
    scan_converts (Err (Sink e)) new h start = (
      record {
        ok = λ is. absurd (cc);
        not_text = λ is. absurd (cc);
        writes = λ text other.
            let d = other.some.0 in
            let form : IsNormalForm class (layout (setting from 0)) input (normal d) = (IsDocument-normal class d other.some.1, normal-normal d, layout-normal (setting from 0) d ∙ other.some.2) in
            rw (← (read_is class from to input (normal d) form).1 text other, (h.2 (normal d) form).1, texts_written-append) (Writes-fails _ (from_start h.0 false new.writer.now start h.1.writes));
        lawful = (texts_written (setting to 0) h.0, false, from_start h.0 false new.writer.now start h.1.writes);
      },
      sym h.1.same_writer,
    )
