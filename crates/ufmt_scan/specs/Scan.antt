-- The events of a document, and what sinks and scans promise.
use Rattle.std.specs.Prelude.{◌≡◌, ℕ, Bool, true, false, if◌then◌else◌, List, [], ◌∷◌, ◌++◌, Result, MatchResult, ⊤}
use Rattle.std.specs.Borrow.{Bor}
use Rattle.ufmt_core.specs.Document.{Document, leaf, joined, list_of, set_of, map_of, struct_of, non_exhaustive_of, tuple_of, pretty_part, Documents, no_documents, first_document, Pairs, no_pairs, first_pair, Fields, no_fields, first_field}
use Rattle.ufmt_core.specs.Layout.{next, tuple_kind}
use Rattle.ufmt_core.specs.declared.layout.Count.{Count}
use Rattle.ufmt_core.specs.declared.layout.Count.TheVariants.{One}
use Rattle.ufmt_core.specs.declared.layout.Kind.{Kind}
use Rattle.ufmt_core.specs.declared.layout.Kind.TheVariants.{Brackets, Braces, Struct}
pub use Rattle.ufmt_scan.specs.declared.scan.event.ScanError.{ScanError}
use Rattle.ufmt_scan.specs.declared.scan.event.ScanError.TheVariants.{NotText, Sink}
use Rattle.ufmt_grammar.specs.declared.class.Class.{Class}
use Rattle.ufmt_scan.specs.Texts.{IsNormalForm, NoDocumentPrints}
use Rattle.ufmt_scan.specs.declared.scan.event.Event.{Event}
pub use Rattle.ufmt_scan.specs.declared.scan.event.Event.TheVariants.{Leaf, Empty, OnlyDots, Open, FieldName, Colon, Next, Close, Dots}

-- an event, with the bytes of its text
abbrev pub TextEvent : Type 0
TextEvent = Event (List ℕ)

-- an event that lends its text, with the bytes of the text
abbrev pub event_now : Event (Bor (List ℕ)) → TextEvent
event_now (Leaf text) = Leaf text.now
event_now (Empty kind) = Empty kind
event_now (OnlyDots name) = OnlyDots name.now
event_now (Open kind name) = Open kind name.now
event_now (FieldName name) = FieldName name.now
event_now Colon = Colon
event_now Next = Next
event_now (Close kind count) = Close kind count
event_now Dots = Dots

-- the events of a block of this kind after this many entries: those of each further entry, and the end, which may be dots
abbrev pub tail_events : Kind → Count → Bool → List (List TextEvent) → List TextEvent
tail_events kind count dots [] = if dots then Next ∷ Dots ∷ [] else Close kind count ∷ []
tail_events kind count dots (es ∷ more) = Next ∷ (es ++ tail_events kind (next count) dots more)

-- the events of a block with this name, which may end in dots: `alone`, if it has no entries
abbrev pub block_events : Kind → List ℕ → TextEvent → Bool → List (List TextEvent) → List TextEvent
block_events kind name alone dots [] = alone ∷ []
block_events kind name alone dots (es ∷ more) = Open kind name ∷ (es ++ tail_events kind One dots more)

abbrev mutual
  -- the events of a document of a class
  pub events_of : Document → List TextEvent
  events_of (leaf text) = Leaf text ∷ []
  events_of (joined ds) = []
  events_of (list_of ds) = block_events Brackets [] (Empty Brackets) false (events_of_entries ds)
  events_of (set_of ds) = block_events Braces [] (Empty Braces) false (events_of_entries ds)
  events_of (map_of ps) = block_events Braces [] (Empty Braces) false (events_of_pairs ps)
  events_of (struct_of name fs) = block_events Struct name (Leaf name) false (events_of_fields fs)
  events_of (non_exhaustive_of name fs) = block_events Struct name (OnlyDots name) true (events_of_fields fs)
  events_of (tuple_of name ds) = block_events (tuple_kind name) name (Leaf name) false (events_of_entries ds)
  events_of (pretty_part d) = []

  pub events_of_entries : Documents → List (List TextEvent)
  events_of_entries no_documents = []
  events_of_entries (first_document d ds) = events_of d ∷ events_of_entries ds

  pub events_of_pairs : Pairs → List (List TextEvent)
  events_of_pairs no_pairs = []
  events_of_pairs (first_pair key value ps) = (events_of key ++ Colon ∷ events_of value) ∷ events_of_pairs ps

  pub events_of_fields : Fields → List (List TextEvent)
  events_of_fields no_fields = []
  events_of_fields (first_field name value fs) = (FieldName name ∷ events_of value) ∷ events_of_fields fs

-- the second list of events begins with the first
abbrev pub Leads : List TextEvent → List TextEvent → Type 0
Leads es whole = (more : List TextEvent) × (whole ≡ es ++ more)

-- what a sink promises: if it took some events since it began, it then took this one too, or stopped at it
module _ {S : Type 0} (took stopped : S → List TextEvent → S → Type 0) where
  abbrev pub TakesEvent : S → TextEvent → Bool → S → Type 0
  TakesEvent old e true new = (start : S) (es : List TextEvent) → took start es old → took start (es ++ e ∷ []) new
  TakesEvent old e false new = (start : S) (es : List TextEvent) → took start es old → stopped start (es ++ e ∷ []) new

  -- a failed scan: the sink took some events, and no document of the class has the text; or it stopped at the last, and these come first in each document with the text
  abbrev pub ScanRefused : {E : Type 0} → Class → S → S → (Document → List ℕ) → List ℕ → ScanError E → Type 0
  ScanRefused class old new text_of input NotText = (es : List TextEvent) × took old es new × NoDocumentPrints class text_of input
  ScanRefused class old new text_of input (Sink e) = (es : List TextEvent) × stopped old es new
      × ((d : Document) → IsNormalForm class text_of input d → Leads es (events_of d))

  -- a scan: the sink took the events of the document of the class in normal form that has the text; or the scan fails
  abbrev pub Scans : {E : Type 0} → Class → Result (⊤) (ScanError E) → S → S → (Document → List ℕ) → List ℕ → Type 0
  Scans class outcome old new text_of input =
      MatchResult outcome (λ x. (d : Document) × IsNormalForm class text_of input d × took old (events_of d) new) (ScanRefused class old new text_of input)
