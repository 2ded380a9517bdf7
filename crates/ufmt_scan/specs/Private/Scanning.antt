-- The events of what is left of a text, at each step of a scan.
use Rattle.std.specs.Prelude.{◌≡◌, ℕ, zero, suc, ◌<◌, length, reverse, take, Bool, true, false, ◌&&◌, if◌then◌else◌, List, [], ◌∷◌, ◌++◌, map, codes, Option, Some, None, option_and_then, MatchOption, Result, MatchResult, IfOk}
use Rattle.std.specs.Borrow.{Bor}
use Rattle.ufmt_core.specs.Document.{Document, leaf}
use Rattle.ufmt_core.specs.Layout.{frame, inside, lead, next, setting, trail}
use Rattle.ufmt_core.specs.declared.layout.Count.{Count}
use Rattle.ufmt_core.specs.declared.layout.Count.TheVariants.{Zero, One, Several}
use Rattle.ufmt_core.specs.declared.layout.Kind.{Kind}
use Rattle.ufmt_core.specs.declared.layout.Kind.TheVariants as kinds
use Rattle.ufmt_core.specs.declared.layout.Mode.{Mode}
use Rattle.ufmt_grammar.specs.declared.class.Class.{Class}
use Rattle.ufmt_grammar.specs.Reading.{Parse, Dots, Rest, choose, no_dots, parse_map, strip, strip_dots, read, read_named, read_without_name, read_name, read_pair, read_others}
use Rattle.ufmt_scan.specs.declared.scan.event.Event.TheVariants as events
use Rattle.ufmt_scan.specs.declared.scan.event.ScanError.TheVariants.{NotText, Sink}
use Rattle.ufmt_scan.specs.declared.scan.OpenBlocks.{OpenBlocks}
pub use Rattle.ufmt_scan.specs.declared.scan.step.Stage.{Stage}
use Rattle.ufmt_scan.specs.declared.scan.step.Stage.TheVariants as stages
use Rattle.ufmt_scan.specs.Private.Level.{entry_of, setting_at, Level}
use Rattle.ufmt_scan.specs.Scan.{TextEvent, events_of, tail_events, ScanError}
pub use Rattle.ufmt_scan.specs.declared.scan.step.Stage.TheVariants.{BracesFirst, FieldFirst, FieldLater, KeyLater, TupleFirst, UnnamedFirst}

-- events, and what is left to read
abbrev pub Scanned : Type 0
Scanned = Option (List TextEvent × List ℕ)

-- the same, with these events before
abbrev pub prefixed : List TextEvent → Scanned → Scanned
prefixed es o = parse_map (λ more. es ++ more) o

-- the events of this, and then those of what it leaves
abbrev pub then_scan : Scanned → Parse (List TextEvent) → Scanned
then_scan o more = option_and_then (λ x. prefixed x.0 (more x.1)) o

-- how a block reads each of its entries, and its end after the lead of an entry if it may end in dots; and the events of an entry
pub record Turn : Type 1 where
  pub Entry : Type 0
  pub read : Parse Entry
  pub in_dots : Bool
  pub dots : Dots
  pub events : Entry → List TextEvent

abbrev pub entries : Level → Turn
entries level = record { Entry = Document; read = entry_of level; in_dots = false; dots = no_dots; events = events_of }

abbrev pub pairs : Level → Turn
pairs level = record {
  Entry = Document × Document;
  read = read_pair (entry_of level) (entry_of level);
  in_dots = false;
  dots = no_dots;
  events = λ p. events_of p.0 ++ events.Colon ∷ events_of p.1;
}

abbrev pub fields : Level → Turn
fields level = record {
  Entry = List ℕ × Document;
  read = read_pair (read_name level.class) (entry_of level);
  in_dots = true;
  dots = strip_dots level.class (setting_at level);
  events = λ f. events.FieldName f.0 ∷ events_of f.1;
}

-- the kind of a block at this stage
abbrev pub kind_of : Stage → Kind
kind_of stages.ListFirst = kinds.Brackets
kind_of stages.ListLater = kinds.Brackets
kind_of stages.FieldFirst = kinds.Struct
kind_of stages.FieldLater = kinds.Struct
kind_of stages.TupleFirst = kinds.Tuple
kind_of stages.TupleLater = kinds.Tuple
kind_of stages.UnnamedFirst = kinds.Unnamed
kind_of stages.UnnamedLater = kinds.Unnamed
kind_of _ = kinds.Braces

-- how many entries came before
abbrev pub earlier : Stage → Count
earlier stages.ListFirst = Zero
earlier stages.BracesFirst = Zero
earlier stages.ValueFirst = Zero
earlier stages.FieldFirst = Zero
earlier stages.TupleFirst = Zero
earlier stages.UnnamedFirst = Zero
earlier _ = Several

-- the stage of the entry after this one
abbrev pub later : Stage → Stage
later stages.ListFirst = stages.ListLater
later stages.BracesFirst = stages.SetLater
later stages.ValueFirst = stages.KeyLater
later stages.ValueLater = stages.KeyLater
later stages.FieldFirst = stages.FieldLater
later stages.TupleFirst = stages.TupleLater
later stages.UnnamedFirst = stages.UnnamedLater
later stage = stage

-- the stage of the value of a key
abbrev pub value_of : Stage → Stage
value_of stages.BracesFirst = stages.ValueFirst
value_of _ = stages.ValueLater

-- how a block reads its entries at this stage
abbrev pub turn_of : Level → Stage → Turn
turn_of level stages.KeyLater = pairs level
turn_of level stages.ValueFirst = pairs level
turn_of level stages.ValueLater = pairs level
turn_of level stages.FieldFirst = fields level
turn_of level stages.FieldLater = fields level
turn_of level _ = entries level

-- the events of an entry, a pair or a field
abbrev pub scan_turn : Turn → Parse (List TextEvent)
scan_turn turn t = parse_map turn.events (turn.read t)

-- the events of what is left of a block after this many entries
abbrev pub left_events : (turn : Turn) → Kind → Count → Rest turn.Entry → List TextEvent
left_events turn kind count left = tail_events kind count (turn.in_dots && left.1) (map turn.events left.0)

-- the events of a block at this level after this many entries
unfoldable pub scan_rest : Turn → Level → Kind → Count → Parse (List TextEvent)
scan_rest turn level kind count t = option_and_then
    (λ u. parse_map (left_events turn kind count) (read_others turn.read turn.dots (frame level.mode kind) (setting_at level) count u))
    (strip (trail level.mode) t)

-- the events of a map from the colon after a key, where the text begins after the colon
abbrev pub scan_value : Level → Count → Parse (List TextEvent)
scan_value level before t = prefixed (events.Colon ∷ []) (then_scan (scan_turn (entries level) t) (scan_rest (pairs level) level kinds.Braces
    (next before)))

-- the events of an open block after the entry, key, value or field at this stage
abbrev pub scan_stage : Level → Stage → Parse (List TextEvent)
scan_stage level stages.BracesFirst t = choose (strip (codes ": ") t) (scan_value level Zero) (scan_rest (entries level) level kinds.Braces One t)
scan_stage level stages.KeyLater t = option_and_then (scan_value level Several) (strip (codes ": ") t)
scan_stage level stage t = scan_rest (turn_of level stage) level (kind_of stage) (next (earlier stage)) t

-- the events of what comes next in a block of this kind: a field with its name, or a document
abbrev pub coming_of : Kind → Level → Parse (List TextEvent)
coming_of kinds.Struct level = scan_turn (fields level)
coming_of _ level = scan_turn (entries level)

abbrev pub coming : Level → Stage → Parse (List TextEvent)
coming level stage = coming_of (kind_of stage) level

-- the events of a block from this stage to its end, or none if no block is open
abbrev pub after : Level → Option Stage → Parse (List TextEvent)
after level None t = Some ([], t)
after level (Some stage) t = then_scan (coming level stage t) (scan_stage level stage)

-- the events after the lead of another entry: the block ends in dots, or the entry and what follows it
abbrev pub scan_further : Level → Stage → Parse (List TextEvent)
scan_further level stage t = prefixed (events.Next ∷ []) (choose ((turn_of level stage).dots t) (λ u. Some (events.Dots ∷ [], u))
    (after level (Some (later stage)) t))

-- the first stage of a block of this kind
abbrev pub first_stage : Kind → Stage
first_stage kinds.Brackets = stages.ListFirst
first_stage kinds.Braces = stages.BracesFirst
first_stage kinds.Struct = stages.FieldFirst
first_stage kinds.Tuple = stages.TupleFirst
first_stage kinds.Unnamed = stages.UnnamedFirst

-- the events of a block with this name and with entries, where the text begins after its opening
abbrev pub scan_opened : Level → Kind → List ℕ → List ℕ → Scanned
scan_opened level kind name t = prefixed (events.Open kind name ∷ []) (after level (Some (first_stage kind)) t)

-- the events of a block without a name, which may have no entries
abbrev pub scan_block : Level → Kind → Parse (List TextEvent)
scan_block level kind t = choose (strip ((frame level.mode kind).closing Zero) t) (λ u. Some (events.Empty kind ∷ [], u))
    (option_and_then (scan_opened level kind []) (strip (lead (frame level.mode kind) (inside (setting_at level)) Zero) t))

-- the events of a document that begins with this leaf, which may be its name
abbrev pub scan_front : Level → Bool → List ℕ → Parse (List TextEvent)
scan_front level is_name front t =
    parse_map events_of (if is_name then read_named level.class (setting_at level) (entry_of level) front t else Some (leaf front, t))

-- the level with this many blocks around it
abbrev pub level_at : Class → Mode → ℕ → Level
level_at class mode k = record { class = class; mode = mode; open_blocks = k }

-- the events of a document with this many blocks around it: no entry begins in the 256th
abbrev pub document_at : Class → Mode → ℕ → Parse (List TextEvent)
document_at class mode zero t = parse_map events_of (read class (setting mode 0) 255 t)
document_at class mode (suc k) t = scan_turn (entries (level_at class mode k)) t

-- the events of all open blocks, the innermost first, after an entry
abbrev pub scan_ends : Class → Mode → List Stage → Parse (List TextEvent)
scan_ends class mode [] t = Some ([], t)
scan_ends class mode (stage ∷ outer) t = then_scan (scan_stage (level_at class mode (length outer)) stage t) (scan_ends class mode outer)

-- the same, from the start of a document in the innermost block
abbrev pub scan_begun : Class → Mode → List Stage → Parse (List TextEvent)
scan_begun class mode open_blocks t = then_scan (document_at class mode (length open_blocks) t) (scan_ends class mode open_blocks)

-- the events of what comes next in the innermost block
abbrev pub coming_in : Class → Mode → List Stage → Parse (List TextEvent)
coming_in class mode [] = document_at class mode zero
coming_in class mode (stage ∷ outer) = coming (level_at class mode (length outer)) stage

abbrev pub scan_next : Class → Mode → List Stage → Parse (List TextEvent)
scan_next class mode open_blocks t = then_scan (coming_in class mode open_blocks t) (scan_ends class mode open_blocks)

-- the events after a step: of the block that opens or continues, if one does, and then of these blocks
abbrev pub scan_onward : Class → Mode → List Stage → Option Stage → Parse (List TextEvent)
scan_onward class mode outer None = scan_ends class mode outer
scan_onward class mode outer (Some stage) = scan_next class mode (stage ∷ outer)

-- the events after some blocks ended: none if no block is open, else those from what comes next in the innermost block
abbrev pub scan_left : Class → Mode → List Stage → Parse (List TextEvent)
scan_left class mode [] t = Some ([], t)
scan_left class mode (stage ∷ outer) t = scan_next class mode (stage ∷ outer) t

-- the stages of the open blocks, the innermost first. The array has the others, after a stage that is no block's
abbrev pub open_stages : OpenBlocks → List Stage → List Stage
open_stages blocks outer = take blocks.count (blocks.innermost ∷ reverse (take blocks.count outer))

-- after earlier events the sink took these, or stopped at the last, as `kept` says. What is there begins with them, and this is left
pub record Emits {S : Type 0} (took kept : S → List TextEvent → S → Type 0) (old new : S) (there left : Scanned) : Type 0 where
  pub events : List TextEvent
  pub takes : (start : S) (es : List TextEvent) → took start es old → kept start (es ++ events) new
  pub is : there ≡ prefixed events left

-- whether the last event was taken, by why the scan ended
abbrev pub kept_by : {S E : Type 0} → (S → List TextEvent → S → Type 0) → (S → List TextEvent → S → Type 0) → ScanError E → S → List TextEvent → S → Type 0
kept_by took stopped NotText = took
kept_by took stopped (Sink e) = stopped

-- the sink stopped at an event of what is there, or it took some and the rest can't be scanned
pub record Stops {S E : Type 0} (took stopped : S → List TextEvent → S → Type 0) (old new : S) (there : Scanned) (why : ScanError E) : Type 0 where
  pub left : Scanned
  pub emits : Emits took (kept_by took stopped why) old new there left
  pub none : why ≡ NotText → left ≡ None

-- some events were emitted, and the outcome says what is left, or why the scan ended
abbrev pub ScansOn : {S A E : Type 0} → (S → List TextEvent → S → Type 0) → (S → List TextEvent → S → Type 0) → Result A (ScanError E) → S → S → Scanned → (A → Scanned)
    → Type 0
ScansOn took stopped outcome old new there left = MatchResult outcome (λ x. Emits took took old new there (left x)) (Stops took stopped old new there)

-- a step of a scan: it emitted events of what is there, and left fewer bytes than this, whose events `onward` gives; or the scan ended
abbrev pub Steps : {S E : Type 0} → (S → List TextEvent → S → Type 0) → (S → List TextEvent → S → Type 0)
    → Result (Option Stage × Bor (List ℕ)) (ScanError E) → S → S → ℕ → Scanned → (Option Stage → Parse (List TextEvent)) → Type 0
Steps took stopped outcome old new bytes there onward =
    ScansOn took stopped outcome old new there (λ x. onward x.0 x.1.now) × IfOk outcome (λ x. length x.1.now < bytes)

-- the bracket at the front was stripped, and a block of its kind is read; or there is no bracket
abbrev pub StripsBracket : Level → List ℕ → Option (Kind × Bor (List ℕ)) → Type 0
StripsBracket level t outcome = MatchOption outcome ((strip (codes "[") t ≡ None) × (strip (codes "{") t ≡ None))
    (λ x. (parse_map events_of (read_without_name level.class (setting_at level) (entry_of level) t) ≡ scan_block level x.0 x.1.now) × (length x.1.now < length t))
