-- A scan of the document at the front of a text.
use Rattle.std.specs.Prelude.{◌≡◌, ◌≤◌, ℕ, List, length, drop, Option, Some, None, Result, MatchResult}
use Rattle.ufmt_core.specs.Document.{Document}
use Rattle.ufmt_core.specs.declared.layout.Mode.{Mode}
use Rattle.ufmt_grammar.specs.declared.class.Class.{Class}
use Rattle.ufmt_scan.specs.Fronts.{read_front}
use Rattle.ufmt_scan.specs.Scan.{ScanError, TextEvent, events_of}
use Rattle.ufmt_scan.specs.declared.scan.event.ScanError.TheVariants.{NotText, Sink}

module _ {S : Type 0} (took stopped : S → List TextEvent → S → Type 0) (class : Class) (mode : Mode) (t : List ℕ) (old : S) where
  -- the sink took the events of the document that is read, and its text is so long
  abbrev pub FrontScanned : ℕ → S → Type 0
  FrontScanned size new = (d : Document) × (size ≤ length t) × (read_front class mode t ≡ Some (d, drop size t)) × took old (events_of d) new

  -- no document is read, or the sink stopped at an event
  abbrev pub FrontRefused : {E : Type 0} → ScanError E → S → Type 0
  FrontRefused NotText new = read_front class mode t ≡ None
  FrontRefused (Sink e) new = (es : List TextEvent) × stopped old es new

  abbrev pub ScansFront : {E : Type 0} → Result ℕ (ScanError E) → S → Type 0
  ScansFront outcome new = MatchResult outcome (λ size. FrontScanned size new) (λ why. FrontRefused why new)
