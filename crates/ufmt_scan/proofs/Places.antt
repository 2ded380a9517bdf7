-- A counter of events has counted the bytes of a document's text after the scan of a text that begins with it.
use Rattle.std.proofs.Common.{◌≡◌, ◌∙◌, refl, ap, sym, ℕ, ◌+◌, ◌<◌, ◌^◌, ◌-◌, min, List, [], ◌∷◌, ◌++◌, length, Some, Result, Ok, Err, Bor, arith, append-nil}
use Rattle.std.proofs.Math.Nat.{zero-add}
use Rattle.std.proofs.lemmas.List.{length-append}
use Rattle.ufmt_core.specs.Document.{Document}
use Rattle.ufmt_core.specs.Layout.{layout, setting}
use Rattle.ufmt_grammar.specs.declared.class.Class.{Class}
use Rattle.ufmt_grammar.specs.Reading.{parse_map, read}
use Rattle.ufmt_grammar.specs.Token.{IsDocument, MayFollow, normal}
use Rattle.ufmt_grammar.proofs.ClassLeaves.{nothing_follows}
use Rattle.ufmt_grammar.proofs.FramesClose.{Fits}
use Rattle.ufmt_grammar.proofs.NormalForms.{IsDocument-normal, layout-normal}
use Rattle.ufmt_grammar.proofs.Parsing.{same_parts}
use Rattle.ufmt_grammar.proofs.ReadingComplete.{read_complete}
use Rattle.ufmt_core.specs.declared.layout.Mode.TheVariants.{Plain, Pretty}
use Rattle.ufmt_core.specs.declared.layout.Mode.{Mode}
use Rattle.ufmt_scan.proofs.EventTexts.{events_written, last_setting-append, texts_written-append}
use Rattle.ufmt_scan.specs.declared.place.EventCounter.{EventCounter}
use Rattle.ufmt_scan.proofs.ScanWhole.{Front}
use Rattle.ufmt_scan.specs.Places.{ReadsUpTo}
use Rattle.ufmt_scan.specs.Private.Place.{Counted}
use Rattle.ufmt_scan.specs.Private.Scanning.{prefixed}
use Rattle.ufmt_scan.specs.Scan.{TextEvent, ScanError, events_of}
use Rattle.ufmt_scan.specs.declared.scan.event.ScanError.TheVariants.{NotText, Sink}
use Rattle.ufmt_scan.specs.ScanTexts.{written, setting_after, texts_written}

-- a counter that counted events and then one more counted them all
pub counted_event : (start old new : EventCounter) (es : List TextEvent) (e : TextEvent) → Counted start es old
    → new.count ≡ min (2 ^ 64 - 1) (old.count + length (written old.setting e)) → new.setting ≡ setting_after old.setting e → Counted start (es ++ e ∷ []) new
counted_event start old new es e before counts continues =
    let whole : length (texts_written start.setting (es ++ e ∷ [])) ≡ length (texts_written start.setting es) + length (written old.setting e)
    = simp (texts_written-append, sym before.continues, append-nil, length-append) in
    record {
      counts = λ few. let earlier = before.counts (omega (arith, whole, few)) in omega (arith, whole, few, earlier, counts);
      continues = simp (last_setting-append, sym before.continues) continues;
    }

fits_at_0 : (mode : Mode) → Fits (setting mode 0) 255
fits_at_0 Plain = tt
fits_at_0 Pretty = omega arith

-- the scan of a text at whose front is a document has counted the document's text
module _ (class : Class) (mode : Mode) (text : List ℕ) (few : length text < 2 ^ 64) where
  abbrev begun : EventCounter
  begun = record { setting = setting mode 0; count = 0 }

  nothing : Counted begun [] begun
  nothing = record { counts = λ less. refl; continues = refl }

  module _ (d : Document) (rest : List ℕ) (is : IsDocument class d) (follows : MayFollow class rest) (same : text ≡ layout (setting mode 0) d ++ rest) where
    events_there : parse_map events_of (read class (setting mode 0) 255 text) ≡ Some (events_of (normal d), rest)
    events_there = ap (λ t. parse_map events_of (read class (setting mode 0) 255 t)) same
        ∙ ap (parse_map events_of) (read_complete class 255 (setting mode 0) d rest is.0 is.1 (fits_at_0 mode) follows)

    text_there : texts_written (setting mode 0) (events_of (normal d)) ≡ layout (setting mode 0) d
    text_there = let token = IsDocument-normal class d is in events_written mode class 0 (normal d) token.0 (omega (arith, token.1)) ∙ layout-normal (setting mode 0) d

    counted_front : {E : Type 0} (outcome : Result (Bor (List ℕ)) (ScanError E)) (new : EventCounter) → Front Counted (λ _ _ _. ⊥) class mode text begun outcome new
        → new.count ≡ length (layout (setting mode 0) d)
    counted_front (Ok left) new h =
        let parts = same_parts {A = List TextEvent} {B = List ℕ} (events_of (normal d), rest) (h.events ++ [], left.now) (sym events_there ∙ h.is) in
        let whole : texts_written (setting mode 0) h.events ≡ layout (setting mode 0) d = ap (texts_written (setting mode 0)) (sym (parts.0 ∙ append-nil h.events)) ∙ text_there in
        let counts = rw whole at (h.takes begun [] nothing).counts in
        let long : length text ≡ length (layout (setting mode 0) d) + length rest = ap length same ∙ length-append (layout (setting mode 0) d) rest in
        counts (omega (arith, few, long)) ∙ zero-add (length (layout (setting mode 0) d))
    counted_front (Err NotText) new h =
        let none = sym events_there ∙ h.emits.is ∙ ap (prefixed h.emits.events) (h.none refl) in absurd (cc)
    counted_front (Err (Sink e)) new h = absurd (h.emits.takes begun [] nothing)

  -- the smaller of what it counted and the text's length is the place up to which the text was read
  pub reads_up_to : {E : Type 0} (outcome : Result (Bor (List ℕ)) (ScanError E)) (new : EventCounter) (place : ℕ) → Front Counted (λ _ _ _. ⊥) class mode text begun outcome new
      → place ≡ min new.count (length text) → ReadsUpTo class (layout (setting mode 0)) text place
  reads_up_to outcome new place h is_place = record {
    within = omega (arith, is_place);
    whole = λ d is same.
        let counts = counted_front d [] is (nothing_follows class) (same ∙ sym (append-nil (layout (setting mode 0) d))) outcome new h in
        let long = ap length same in
        omega (arith, counts, long, is_place);
    after_document = λ d rest is follows same.
        let counts = counted_front d rest is follows same outcome new h in
        let long = ap length same ∙ length-append (layout (setting mode 0) d) rest in
        omega (arith, counts, long, is_place);
  }
