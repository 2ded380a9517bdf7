-- Steps of a scan, one after another: what the sink took, and what is left.
use Rattle.std.proofs.Common.{◌≡◌, refl, ap, subst, ◌∙◌, ℕ, zero, suc, ◌<◌, ◌+◌, ◌-◌, min, List, [], ◌∷◌, ◌++◌, append_assoc, append-nil, length, sym, Option, Some, None, Result, Ok, Err, IsErrAnd, codes, option_and_then, arith}
use Rattle.std.specs.Borrow.{Bor}
use Rattle.ufmt_core.specs.Layout.{inside, setting}
use Rattle.ufmt_grammar.specs.declared.class.Class.{Class}
use Rattle.ufmt_grammar.specs.Reading.{Parse, parse_map, read, read_name, read_value, strip}
use Rattle.ufmt_core.specs.declared.layout.Mode.{Mode}
use Rattle.ufmt_core.specs.declared.layout.Mode.TheVariants.{Plain, Pretty}
use Rattle.ufmt_scan.specs.declared.scan.event.ScanError.TheVariants.{NotText}
use Rattle.ufmt_core.specs.declared.layout.Kind.{Kind}
use Rattle.ufmt_core.specs.declared.layout.Kind.TheVariants.{Brackets, Braces, Struct, Tuple, Unnamed}
use Rattle.ufmt_scan.specs.Private.Level.{budget_of, entry_at, entry_of, setting_at}
use Rattle.ufmt_scan.specs.Private.Scanning.{ScansOn, Steps, Stops, Emits, Scanned, scan_next, coming_of, kind_of, document_at, fields, level_at, prefixed, then_scan, Stage}
use Rattle.ufmt_scan.specs.Scan.{TextEvent, events_of, ScanError}
use Rattle.ufmt_scan.proofs.ScanTurns.{prefixed_twice, then-prefixed}

module _ {S : Type 0} {took kept : S → List TextEvent → S → Type 0} {a b : S} {there mid : Scanned} where
  pub emits_then : {c : S} {left : Scanned} → Emits took took a b there mid → Emits took kept b c mid left → Emits took kept a c there left
  emits_then {c} {left} first more = record {
    events = first.events ++ more.events;
    takes = λ start es h. subst (λ fs. kept start fs c) (append_assoc es first.events more.events) (more.takes start (es ++ first.events)
        (first.takes start es h));
    is = first.is ∙ ap (prefixed first.events) more.is ∙ prefixed_twice first.events more.events left;
  }

  pub emits_left : {left : Scanned} → Emits took kept a b there mid → mid ≡ left → Emits took kept a b there left
  emits_left step same = record { events = step.events; takes = step.takes; is = step.is ∙ ap (prefixed step.events) same }

pub stops_after : {S E : Type 0} {took stopped : S → List TextEvent → S → Type 0} {a b c : S} {there mid : Scanned} {why : ScanError E} → Emits took took a b there mid
    → Stops took stopped b c mid why → Stops took stopped a c there why
stops_after first more = record { left = more.left; emits = emits_then first more.emits; none = more.none }

-- the same for the result of a call that passes the error on
pub refused : {S A E : Type 0} {took stopped : S → List TextEvent → S → Type 0} {a b : S} {there : Scanned} (left : A
    → Scanned) {why : ScanError E} (outcome : Result A (ScanError E))
    → IsErrAnd outcome (λ y. y ≡ why) → Stops took stopped a b there why → ScansOn took stopped outcome a b there left
refused left (Ok x) is h = absurd is
refused left (Err y) is h = rw is h

-- the same for a step
pub step_refused : {S E : Type 0} {took stopped : S → List TextEvent → S → Type 0} {a b : S} {there : Scanned} (bytes : ℕ) (onward : Option Stage → Parse (List TextEvent))
    {why : ScanError E} (outcome : Result (Option Stage × Bor (List ℕ)) (ScanError E)) → IsErrAnd outcome (λ y. y ≡ why) → Stops took stopped a b there why
    → Steps took stopped outcome a b bytes there onward
step_refused bytes onward (Ok x) is h = absurd is
step_refused bytes onward (Err y) is h = (rw is h, tt)

-- a scan ends if it can't read what is there
pub nothing_there : {S E : Type 0} {took stopped : S → List TextEvent → S → Type 0} (a : S) {there : Scanned} → there ≡ None → Stops {E = E} took stopped a a there NotText
nothing_there {took = took} a none = record {
  left = None;
  emits = record { events = []; takes = λ start es h. subst (λ fs. took start fs a) (sym (append-nil es)) h; is = none };
  none = λ e. refl;
}

-- a scan ends if it can't read what is left
pub nothing_left : {S E : Type 0} {took stopped : S → List TextEvent → S → Type 0} {a b : S} {there left : Scanned} → Emits took took a b there left → left ≡ None
    → Stops {E = E} took stopped a b there NotText
nothing_left {left = left} h none = record { left = left; emits = h; none = λ e. none }

-- a step of a prefix of a text is a step of the whole
pub emits_in : {S : Type 0} {took kept : S → List TextEvent → S → Type 0} {a b : S} {there left whole after : Scanned} (more : Parse (List TextEvent))
    → whole ≡ then_scan there more → then_scan left more ≡ after → Emits took kept a b there left → Emits took kept a b whole after
emits_in {left = left} more is on h = record {
  events = h.events;
  takes = h.takes;
  is = is ∙ ap (λ o. then_scan o more) h.is ∙ then-prefixed h.events left more ∙ ap (prefixed h.events) on;
}

-- the same for a step that ends the scan
pub stops_in : {S E : Type 0} {took stopped : S → List TextEvent → S → Type 0} {a b : S} {there whole : Scanned} {why : ScanError E} (more : Parse (List TextEvent))
    → whole ≡ then_scan there more → Stops took stopped a b there why → Stops took stopped a b whole why
stops_in more is h = record { left = then_scan h.left more; emits = emits_in more is refl h.emits; none = λ e. ap (λ o. then_scan o more) (h.none e) }

-- entries are laid out one block deeper
setting_inside : (class : Class) (mode : Mode) (k : ℕ) → k < 255 → inside (setting_at (level_at class mode k)) ≡ setting_at (level_at class mode (suc k))
setting_inside class Plain k few = refl
setting_inside class Pretty k few = let same : min (k + 1) 255 ≡ suc k = grind arith in ap (λ n. setting Pretty n) same

-- with up to 255 blocks around it, a document is read at its level
pub document_is : (class : Class) (mode : Mode) (k : ℕ) (t : List ℕ) → k < 256
    → document_at class mode k t ≡ parse_map events_of (read class (setting_at (level_at class mode k)) (budget_of (level_at class mode k)) t)
document_is class Plain zero t few = refl
document_is class Pretty zero t few = refl
document_is class mode (suc k) t few =
    let left : 255 - k ≡ suc (255 - suc k) = omega arith in
    ap (λ n. parse_map events_of (entry_at class (setting_at (level_at class mode k)) n t)) left ∙ ap (λ s. parse_map events_of (read class s (255 - suc k) t)) (setting_inside class mode k
    (omega arith))

-- no entry begins in the 256th block
no_entry : (kind : Kind) (class : Class) (mode : Mode) (t : List ℕ) → coming_of kind (level_at class mode 255) t ≡ None
no_entry Brackets class mode t = refl
no_entry Braces class mode t = refl
no_entry Struct class mode t = by_name (read_name class t)
  where
    by_colon : (name : List ℕ) (o : Option (List ℕ))
        → parse_map (fields (level_at class mode 255)).events (option_and_then (λ u. parse_map (λ value. (name, value)) (entry_of (level_at class mode 255) u)) o) ≡ None
    by_colon name None = refl
    by_colon name (Some u) = refl

    by_name : (o : Option (List ℕ × List ℕ))
        → parse_map (fields (level_at class mode 255)).events (option_and_then (λ x. read_value (entry_of (level_at class mode 255)) x.0 x.1) o) ≡ None
    by_name None = refl
    by_name (Some x) = by_colon x.0 (strip (codes ": ") x.1)
no_entry Tuple class mode t = refl
no_entry Unnamed class mode t = refl

pub none_in_last : (class : Class) (mode : Mode) (stage : Stage) (outer : List Stage) (t : List ℕ) → length outer ≡ 255 → scan_next class mode (stage ∷ outer) t ≡ None
none_in_last class mode stage outer t many =
    rw (many, no_entry (kind_of stage) class mode t) refl
