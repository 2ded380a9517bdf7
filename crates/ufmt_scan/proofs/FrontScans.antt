-- What the scan of a document says of the front of a text.
use Rattle.std.proofs.Common.{◌≡◌, refl, ap, subst, sym, ◌∙◌, ℕ, ◌+◌, ◌-◌, ◌≤◌, List, [], ◌∷◌, ◌++◌, append-nil, drop, length, length-append, Option, Some, None, Result, Ok, Err, IsErrAnd, Bor, arith}
use Rattle.ufmt_core.specs.Document.{Document}
use Rattle.ufmt_core.specs.Layout.{layout, setting}
use Rattle.ufmt_core.specs.declared.layout.Mode.{Mode}
use Rattle.ufmt_grammar.specs.declared.class.Class.{Class}
use Rattle.ufmt_grammar.specs.Reading.{parse_map, read}
use Rattle.ufmt_grammar.proofs.Parsing.{mapped_from}
use Rattle.ufmt_grammar.proofs.ReadingSound.{read_sound, Found}
use Rattle.ufmt_scan.proofs.ScanWhole.{Front}
use Rattle.ufmt_scan.specs.declared.scan.event.ScanError.TheVariants.{NotText, Sink}
use Rattle.ufmt_scan.specs.Private.FrontScan.{FrontRefused, FrontScanned, ScansFront}
use Rattle.ufmt_scan.specs.Private.Scanning.{Emits, Stops, prefixed}
use Rattle.ufmt_scan.specs.Scan.{ScanError, TextEvent, events_of}

none_mapped : (o : Option (Document × List ℕ)) → parse_map events_of o ≡ None → o ≡ None
none_mapped None h = refl
none_mapped (Some x) h = absurd (cc)

-- what follows a text
after_text : (text rest : List ℕ) → drop (length text) (text ++ rest) ≡ rest
after_text [] rest = refl
after_text (c ∷ text) rest = after_text text rest

-- a rest is what is left after as many bytes as it has fewer
rest_is : (t text rest : List ℕ) → t ≡ text ++ rest → (length rest ≤ length t) × (rest ≡ drop (length t - length rest) t)
rest_is t text rest is =
    let size : length t ≡ length text + length rest = ap length is ∙ length-append text rest in
    let less : length t - length rest ≡ length text = omega (arith, size) in
    (omega (arith, size), sym (ap (λ n. drop n t) less ∙ ap (drop (length text)) is ∙ after_text text rest))

module _ {S : Type 0} (took stopped : S → List TextEvent → S → Type 0) (class : Class) (mode : Mode) (t : List ℕ) {a b : S} (begun : took a [] a) where
  front_refused : {E : Type 0} (why : ScanError E) → Stops took stopped a b (parse_map events_of (read class (setting mode 0) 255 t)) why
      → FrontRefused took stopped class mode t a why b
  front_refused NotText h = none_mapped _ (h.emits.is ∙ ap (prefixed h.emits.events) (h.none refl))
  front_refused (Sink e) h = (h.emits.events, h.emits.takes a [] begun)

  module _ (rest : List ℕ) (h : Emits took took a b (parse_map events_of (read class (setting mode 0) 255 t)) (Some ([], rest))) where
    front_read : (d : Document) × (read class (setting mode 0) 255 t ≡ Some (d, rest)) × (events_of d ≡ h.events ++ [])
    front_read = mapped_from events_of (read class (setting mode 0) 255 t) (h.events ++ []) rest h.is

    front_rest : (length rest ≤ length t) × (rest ≡ drop (length t - length rest) t)
    front_rest = rest_is t (layout (setting mode 0) front_read.0) rest (read_sound class 255 (setting mode 0) t front_read.0 rest front_read.1).whole

    -- a scan that came to the end of a document's text
    pub front_within : length rest ≤ length t
    front_within = front_rest.0

    pub front_scanned : FrontScanned took stopped class mode t a (length t - length rest) b
    front_scanned = (
      front_read.0,
      omega arith,
      front_read.1 ∙ ap (λ u. Some (front_read.0, u)) front_rest.1,
      subst (λ es. took a es b) (sym (front_read.2 ∙ append-nil h.events)) (h.takes a [] begun),
    )

-- the scan of a front fails with the error of the scan of its document
pub front_ended : {S E : Type 0} (took stopped : S → List TextEvent → S → Type 0) (class : Class) (mode : Mode) (t : List ℕ) (a b : S) → took a [] a
    → (front : Result (Bor (List ℕ)) (ScanError E)) (why : ScanError E) (outcome : Result ℕ (ScanError E)) → front ≡ Err why → IsErrAnd outcome (λ y. y ≡ why)
    → Front took stopped class mode t a front b → ScansFront took stopped class mode t a outcome b
front_ended took stopped class mode t a b begun front why (Ok x) is h steps = absurd h
front_ended took stopped class mode t a b begun front why (Err y) is h steps = rw h (front_refused took stopped class mode t begun why (rw is at steps))
