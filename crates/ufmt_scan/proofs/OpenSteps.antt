-- Steps of a scan in its open blocks.
use Rattle.std.proofs.Common.{◌≡◌, ◌⊎◌, inl, inr, ap, get_or, refl, sym, ℕ, ◌+◌, ◌<◌, List, ◌∷◌, length, Option, Some, None, Result, Ok, Err, arith}
use Rattle.std.specs.Borrow.{Bor}
use Rattle.ufmt_grammar.specs.declared.class.Class.{Class}
use Rattle.ufmt_grammar.specs.Reading.{Parse, parse_map, read}
use Rattle.ufmt_core.specs.declared.layout.Kind.TheVariants.{Struct}
use Rattle.ufmt_core.specs.declared.layout.Mode.{Mode}
use Rattle.ufmt_scan.specs.Private.Level.{budget_of, setting_at, Level}
use Rattle.ufmt_scan.specs.Private.Scanning.{Stops, Emits, Scanned, ScansOn, after, scan_next, scan_ends, coming, scan_begun, entries, fields, kind_of, level_at, scan_onward, open_stages, scan_stage, then_scan, scan_turn, Stage, BracesFirst, FieldFirst, FieldLater}
use Rattle.ufmt_scan.specs.Scan.{TextEvent, events_of, ScanError}
use Rattle.ufmt_scan.proofs.Scans.{document_is, stops_after, stops_in, emits_in, emits_then}
use Rattle.ufmt_scan.proofs.Stacks.{blocks_of, count_is, innermost_is}
use Rattle.ufmt_scan.proofs.ScanTurns.{prefixed_nothing, then-then}

pub field_stage : {stage : Stage} → (stage ≡ FieldFirst) ⊎ (stage ≡ FieldLater) → kind_of stage ≡ Struct
field_stage (inl is) = ap kind_of is
field_stage (inr is) = ap kind_of is

-- the events after a step are those left in the innermost block, and then those of the others
onward_in : (class : Class) (mode : Mode) (outer : List Stage) (next : Option Stage) (t : List ℕ)
    → then_scan (after (level_at class mode (length outer)) next t) (scan_ends class mode outer) ≡ scan_onward class mode outer next t
onward_in class mode outer None t = prefixed_nothing (scan_ends class mode outer t)
onward_in class mode outer (Some stage) t = then-then (coming (level_at class mode (length outer)) stage t) (scan_stage (level_at class mode (length outer)) stage)
    (scan_ends class mode outer)

onward : (class : Class) (mode : Mode) (outer : List Stage) (depth : ℕ) (next : Option Stage) (t : List ℕ) → depth ≡ length outer
    → then_scan (after (level_at class mode depth) next t) (scan_ends class mode outer) ≡ scan_onward class mode outer next t
onward class mode outer depth next t same = rw same (onward_in class mode outer next t)

-- the events after an entry are those left in the innermost block, and then those of the others
follows_is : (class : Class) (mode : Mode) (open_blocks outer : List Stage) (stage : Stage) (depth : ℕ) (t : List ℕ) → open_blocks ≡ stage ∷ outer → depth ≡ length outer
    → scan_ends class mode open_blocks t ≡ then_scan (scan_stage (level_at class mode depth) stage t) (scan_ends class mode outer)
follows_is class mode open_blocks outer stage depth t is same = rw (is, same) refl

-- a field of the innermost block begins with its name, and then comes a document
name_is : (class : Class) (mode : Mode) (open_blocks outer : List Stage) (stage : Stage) (t : List ℕ) → open_blocks ≡ stage ∷ outer → kind_of stage ≡ Struct
    → scan_next class mode open_blocks t ≡ then_scan (scan_turn (fields (level_at class mode (length outer))) t) (scan_ends class mode open_blocks)
name_is class mode open_blocks outer stage t is struct = rw (is, struct) refl

after_name : (class : Class) (mode : Mode) (open_blocks outer : List Stage) (stage : Stage) (t : List ℕ) → open_blocks ≡ stage ∷ outer
    → then_scan (scan_turn (entries (level_at class mode (length outer))) t) (scan_ends class mode open_blocks) ≡ scan_begun class mode open_blocks t
after_name class mode open_blocks outer stage t is = rw is refl

-- a document is read at the level of its open blocks
document_in : (class : Class) (mode : Mode) (open_blocks : List Stage) (depth : ℕ) (t : List ℕ) → depth ≡ length open_blocks → depth < 256
    → scan_begun class mode open_blocks t
    ≡ then_scan (parse_map events_of (read class (setting_at (level_at class mode depth)) (budget_of (level_at class mode depth)) t)) (scan_ends class mode open_blocks)
document_in class mode open_blocks depth t same few = rw same (ap (λ o. then_scan o (scan_ends class mode open_blocks)) (document_is class mode (length open_blocks) t
    (omega (arith, same, few))))

-- the blocks around the innermost one
abbrev pub around : List Stage → ℕ → List Stage
around outer depth = open_stages (blocks_of depth (get_or outer depth BracesFirst)) outer

module _ (class : Class) (mode : Mode) (outer : List Stage) (whole : length outer ≡ 256) (count : ℕ) (stage : Stage) (few : count < 256) where
  abbrev blocks : List Stage
  blocks = open_stages (blocks_of count stage) outer

  deep : count ≡ length blocks
  deep = sym (count_is outer whole count stage (omega (arith, few)))

  -- the events of a document that begins in these blocks
  abbrev begun : Parse (List TextEvent)
  begun t = parse_map events_of (read class (setting_at (level_at class mode count)) (budget_of (level_at class mode count)) t)

  -- the start of a document is a step
  pub began : {S : Type 0} {took : S → List TextEvent → S → Type 0} {a b c : S} {there : Scanned} (t u : List ℕ) (next : Option Stage)
      → Emits took took a b there (scan_begun class mode blocks t) → Emits took took b c (begun t) (after (level_at class mode count) next u)
      → Emits took took a c there (scan_onward class mode blocks next u)
  began t u next first step = emits_then first (emits_in _ (document_in class mode blocks count t deep few) (onward class mode blocks count next u deep) step)

  pub began_none : {S E : Type 0} {took stopped : S → List TextEvent → S → Type 0} {a b c : S} {there : Scanned} {why : ScanError E} (t : List ℕ)
      → Emits took took a b there (scan_begun class mode blocks t) → Stops took stopped b c (begun t) why → Stops took stopped a c there why
  began_none t first stop = stops_after first (stops_in _ (document_in class mode blocks count t deep few) stop)

  module _ (depth : ℕ) (one : count ≡ depth + 1) where
    innermost : blocks ≡ stage ∷ around outer depth
    innermost = innermost_is outer whole count depth stage BracesFirst one (omega (arith, few))

    around_deep : depth ≡ length (around outer depth)
    around_deep = sym (count_is outer whole depth (get_or outer depth BracesFirst) (omega (arith, few, one)))

    -- what follows an entry is a step
    pub ended : {S : Type 0} {took : S → List TextEvent → S → Type 0} {a b c : S} {there : Scanned} (t u : List ℕ) (next : Option Stage)
        → Emits took took a b there (scan_ends class mode blocks t) → Emits took took b c (scan_stage (level_at class mode depth) stage t) (after (level_at class mode depth) next u)
        → Emits took took a c there (scan_onward class mode (around outer depth) next u)
    ended t u next first step = emits_then first (emits_in _ (follows_is class mode blocks (around outer depth) stage depth t innermost around_deep)
        (onward class mode (around outer depth) depth next u around_deep) step)

    pub ended_none : {S E : Type 0} {took stopped : S → List TextEvent → S → Type 0} {a b c : S} {there : Scanned} {why : ScanError E} (t : List ℕ)
        → Emits took took a b there (scan_ends class mode blocks t) → Stops took stopped b c (scan_stage (level_at class mode depth) stage t) why
        → Stops took stopped a c there why
    ended_none t first stop = stops_after first (stops_in _ (follows_is class mode blocks (around outer depth) stage depth t innermost around_deep) stop)

    -- a field's name is a step, if the innermost block is a struct
    module _ (struct : kind_of stage ≡ Struct) where
      abbrev level : Level
      level = level_at class mode (length (around outer depth))

      named : {S : Type 0} {took : S → List TextEvent → S → Type 0} {a b : S} (t u : List ℕ)
          → Emits took took a b (scan_turn (fields level) t) (scan_turn (entries level) u) → Emits took took a b (scan_next class mode blocks t) (scan_begun class mode blocks u)
      named t u step = emits_in (scan_ends class mode blocks) (name_is class mode blocks (around outer depth) stage t innermost struct)
          (after_name class mode blocks (around outer depth) stage u innermost) step

      named_none : {S E : Type 0} {took stopped : S → List TextEvent → S → Type 0} {a b : S} {why : ScanError E} (t : List ℕ)
          → Stops took stopped a b (scan_turn (fields level) t) why → Stops took stopped a b (scan_next class mode blocks t) why
      named_none t stop = stops_in (scan_ends class mode blocks) (name_is class mode blocks (around outer depth) stage t innermost struct) stop

      pub named_scans : {S E : Type 0} (took stopped : S → List TextEvent → S → Type 0) (a b : S) (t : List ℕ) (outcome : Result (Bor (List ℕ)) (ScanError E))
          → ScansOn took stopped outcome a b (scan_turn (fields level) t) (λ u. scan_turn (entries level) u.now)
          → ScansOn took stopped outcome a b (scan_next class mode blocks t) (λ u. scan_begun class mode blocks u.now)
      named_scans took stopped a b t (Ok u) step = named t u.now step
      named_scans took stopped a b t (Err why) stop = named_none t stop
