-- What the scan of a document at the front of a text says of the whole text.
use Rattle.std.proofs.Common.{◌≡◌, refl, ap, subst, sym, ◌∙◌, ℕ, ◌==◌, true, false, List, [], ◌∷◌, ◌++◌, append-nil, eqb-true, length, Option, Some, None, option_and_then, Result, Ok, Err, IsErrAnd, Bor, arith}
use Rattle.std.specs.Prelude.{⊤}
use Rattle.ufmt_core.specs.Document.{Document}
use Rattle.ufmt_core.specs.Layout.{layout, setting}
use Rattle.ufmt_grammar.specs.declared.class.Class.{Class}
use Rattle.ufmt_grammar.specs.Reading.{if_all, parse_map, read, read_text}
use Rattle.ufmt_grammar.proofs.Parsing.{mapped_from, same_parts}
use Rattle.ufmt_grammar.proofs.ReadingWhole.{reads_each_text, reads_only_texts, refuses_only_unprinted}
use Rattle.ufmt_core.specs.declared.layout.Mode.{Mode}
use Rattle.ufmt_scan.specs.declared.scan.event.ScanError.TheVariants.{NotText, Sink}
use Rattle.ufmt_scan.specs.Private.Scanning.{ScansOn, Stops, Emits, Scanned, prefixed}
use Rattle.ufmt_scan.specs.Scan.{TextEvent, Leads, ScanRefused, Scans, events_of, ScanError}
use Rattle.ufmt_scan.specs.Texts.{IsNormalForm, NoDocumentPrints}

-- if there are no events, there is no document
none_is_whole : (o : Option (Document × List ℕ)) → parse_map events_of o ≡ None → option_and_then (λ x. if_all x.0 x.1) o ≡ None
none_is_whole None h = refl
none_is_whole (Some x) h = absurd (cc)

if_all_is : (x d : Document) (t : List ℕ) → if_all x t ≡ Some d → x ≡ d
if_all_is x d [] is = cc
if_all_is x d (c ∷ t) is = absurd (cc)

-- the events of the document begin with the events so far
leads_whole : (o : Option (Document × List ℕ)) (es : List TextEvent) (left : Scanned) → parse_map events_of o ≡ prefixed es left
    → (d : Document) → option_and_then (λ x. if_all x.0 x.1) o ≡ Some d → Leads es (events_of d)
leads_whole None es left is d whole = absurd (cc)
leads_whole (Some x) es None is d whole = absurd (cc)
leads_whole (Some x) es (Some y) is d whole =
    (y.0, ap events_of (sym (if_all_is x.0 d x.1 whole)) ∙ (same_parts {A = List TextEvent} {B = List ℕ} (events_of x.0, x.1) (es ++ y.0, y.1) is).0)

-- a document in normal form is read from its text
form_is_read : (class : Class) (mode : Mode) (t : List ℕ) (d : Document) → IsNormalForm class (layout (setting mode 0)) t d → read_text class mode t ≡ Some d
form_is_read class mode t d form = ap (read_text class mode) (sym form.2) ∙ reads_each_text class mode d form.0 ∙ ap Some form.1

-- the events of the document at the front of a text were emitted, or the scan ended before
abbrev pub Front : {S E : Type 0} → (S → List TextEvent → S → Type 0) → (S → List TextEvent → S → Type 0) → Class → Mode → List ℕ → S
    → Result (Bor (List ℕ)) (ScanError E) → S → Type 0
Front took stopped class mode t old outcome new = ScansOn took stopped outcome old new (parse_map events_of (read class (setting mode 0) 255 t)) (λ rest. Some ([], rest.now))

module _ {S : Type 0} (took stopped : S → List TextEvent → S → Type 0) (class : Class) (mode : Mode) (t : List ℕ) {a b : S} (begun : took a [] a) where
  -- a scan that ended early, seen as a scan of the whole text
  pub whole_refused : {E : Type 0} (why : ScanError E) → Stops took stopped a b (parse_map events_of (read class (setting mode 0) 255 t)) why
      → ScanRefused took stopped class a b (layout (setting mode 0)) t why
  whole_refused NotText h =
      let none = none_is_whole _ (h.emits.is ∙ ap (prefixed h.emits.events) (h.none refl)) in
      (h.emits.events, h.emits.takes a [] begun, refuses_only_unprinted class mode t none)
  whole_refused (Sink e) h =
      (h.emits.events, h.emits.takes a [] begun, λ d form. leads_whole _ h.emits.events h.left h.emits.is d (form_is_read class mode t d form))

  -- a scan that came to the end of the text, and one that left a rest
  pub whole_scanned : (rest : List ℕ) → Emits took took a b (parse_map events_of (read class (setting mode 0) 255 t)) (Some ([], rest))
      → (length rest == 0) ≡ true → (d : Document) × IsNormalForm class (layout (setting mode 0)) t d × took a (events_of d) b
  whole_scanned (c ∷ rest) h ended = let none = eqb-true (length (c ∷ rest)) 0 ended in absurd (omega arith)
  whole_scanned [] h ended =
      let read_as = mapped_from events_of (read class (setting mode 0) 255 t) (h.events ++ []) [] h.is in
      let form = reads_only_texts class mode t read_as.0 (ap (option_and_then (λ x. if_all x.0 x.1)) read_as.1) in
      (read_as.0, form, subst (λ es. took a es b) (sym (read_as.2 ∙ append-nil h.events)) (h.takes a [] begun))

  pub whole_goes_on : (rest : List ℕ) → Emits took took a b (parse_map events_of (read class (setting mode 0) 255 t)) (Some ([], rest))
      → (length rest == 0) ≡ false → (es : List TextEvent) × took a es b × NoDocumentPrints class (layout (setting mode 0)) t
  whole_goes_on [] h more = absurd (cc)
  whole_goes_on (c ∷ rest) h more =
      let read_as = mapped_from events_of (read class (setting mode 0) 255 t) (h.events ++ []) (c ∷ rest) h.is in
      (h.events, h.takes a [] begun, refuses_only_unprinted class mode t (ap (option_and_then (λ x. if_all x.0 x.1)) read_as.1))

-- the scan of the whole text fails with the error of the scan of its front
pub whole_ended : {S E : Type 0} (took stopped : S → List TextEvent → S → Type 0) (class : Class) (mode : Mode) (t : List ℕ) (a b : S) → took a [] a
    → (front : Result (Bor (List ℕ)) (ScanError E)) (why : ScanError E) (outcome : Result (⊤) (ScanError E)) → front ≡ Err why → IsErrAnd outcome (λ y. y ≡ why)
    → Front took stopped class mode t a front b → Scans took stopped class outcome a b (layout (setting mode 0)) t
whole_ended took stopped class mode t a b begun front why (Ok x) is h steps = absurd h
whole_ended took stopped class mode t a b begun front why (Err y) is h steps = rw h (whole_refused took stopped class mode t begun why (rw is at steps))
