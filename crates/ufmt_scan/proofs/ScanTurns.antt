-- The events of a block are made up of those of its entries.
use Rattle.std.proofs.Common.{◌≡◌, refl, ap, ◌∙◌, sym, ℕ, ◌&&◌, Bool, true, false, List, [], ◌∷◌, ◌++◌, append_assoc, Option, Some, None, option_map, option_and_then}
use Rattle.ufmt_core.specs.Document.{Document}
use Rattle.ufmt_core.specs.Layout.{ending, frame, inside, next, later_lead, trail}
use Rattle.ufmt_core.specs.declared.layout.Count.{Count}
use Rattle.ufmt_core.specs.declared.layout.Count.TheVariants.{One, Several}
use Rattle.ufmt_core.specs.declared.layout.Kind.{Kind}
use Rattle.ufmt_grammar.specs.Reading.{Parse, Rest, choose, parse_map, strip, with_entry, read_after_entry, read_after_first, read_end, read_further, read_others, read_turn}
use Rattle.ufmt_grammar.proofs.ReadingTurns.{Takes, read_others-read_turn}
use Rattle.ufmt_core.proofs.Shifting.{lead-next}
use Rattle.ufmt_core.proofs.Counts.{next-next}
use Rattle.ufmt_scan.specs.Scan.{TextEvent, events_of, tail_events, Close, Dots, Next}
use Rattle.ufmt_scan.specs.Private.Scanning.{Scanned, Turn, left_events, prefixed, scan_rest, then_scan, scan_turn}
use Rattle.ufmt_scan.specs.Private.Level.{setting_at, Level}

pub prefixed_twice : (es fs : List TextEvent) (o : Scanned) → prefixed es (prefixed fs o) ≡ prefixed (es ++ fs) o
prefixed_twice es fs None = refl
prefixed_twice es fs (Some x) = ap (λ more. Some (more, x.1)) (sym (append_assoc es fs x.0))

pub prefixed_nothing : (o : Scanned) → prefixed [] o ≡ o
prefixed_nothing None = refl
prefixed_nothing (Some x) = refl

-- events and scans in a row may be grouped in any way
pub then-prefixed : (es : List TextEvent) (o : Scanned) (more : Parse (List TextEvent)) → then_scan (prefixed es o) more ≡ prefixed es (then_scan o more)
then-prefixed es None more = refl
then-prefixed es (Some x) more = sym (prefixed_twice es x.0 (more x.1))

pub then-then : (o : Scanned) (more last : Parse (List TextEvent)) → then_scan (then_scan o more) last ≡ then_scan o (λ t. then_scan (more t) last)
then-then None more last = refl
then-then (Some x) more last = then-prefixed x.0 (more x.1) last

module _ (turn : Turn) (level : Level) (kind : Kind) where
  -- the events of a block from its first entry on: the opening, those of that entry, and those that follow
  pub block_scans : (make : Rest turn.Entry → Document) (front : TextEvent)
      → ((x : turn.Entry) (left : Rest turn.Entry) → events_of (make (with_entry x left)) ≡ front ∷ (turn.events x ++ left_events turn kind One left))
      → (o : Option (turn.Entry × List ℕ))
      → parse_map events_of (option_and_then (λ x. read_after_first turn.read turn.dots (frame level.mode kind) (setting_at level) make x.0 x.1) o)
      ≡ prefixed (front ∷ []) (then_scan (parse_map turn.events o) (scan_rest turn level kind One))
  unfolding scan_rest
  block_scans make front shape None = refl
  block_scans make front shape (Some x) = by_trail (strip (trail level.mode) x.1)
    where
      read_on : List ℕ → Option (Rest turn.Entry × List ℕ)
      read_on u = read_others turn.read turn.dots (frame level.mode kind) (setting_at level) One u

      made : (o : Option (Rest turn.Entry × List ℕ)) → parse_map events_of (parse_map make (parse_map (with_entry x.0) o))
          ≡ prefixed (front ∷ []) (prefixed (turn.events x.0) (parse_map (left_events turn kind One) o))
      made None = refl
      made (Some p) = ap (λ es. Some (es, p.1)) (shape x.0 p.0)

      by_trail : (o : Option (List ℕ)) → parse_map events_of (parse_map make (option_and_then (λ u. parse_map (with_entry x.0) (read_on u)) o))
          ≡ prefixed (front ∷ []) (prefixed (turn.events x.0) (option_and_then (λ u. parse_map (left_events turn kind One) (read_on u)) o))
      by_trail None = refl
      by_trail (Some u) = made (read_on u)

  -- the events after the lead of another entry: the block ends in dots, or the entry and what follows it
  abbrev pub further : List ℕ → Scanned
  further v = prefixed (Next ∷ []) (choose (turn.dots v) (λ w. Some (Dots ∷ [], w)) (then_scan (scan_turn turn v) (scan_rest turn level kind Several)))

  -- the events after an entry: the next entry's, if one begins, or the end of the block
  abbrev pub continued : Count → Option (List ℕ) → Option (List ℕ) → Scanned
  continued before (Some v) end = further v
  continued before None end = option_map (λ v. (Close kind (next before) ∷ [], v)) end

  -- after an entry, the next one or the dots come, or the block ends, or the text can't be scanned
  pub follows_scans : (before : Count) (t : List ℕ) → Takes turn.read → ((v w : List ℕ) → turn.dots v ≡ Some w → turn.in_dots ≡ true)
      → scan_rest turn level kind (next before) t
      ≡ option_and_then (λ u. continued before (strip (later_lead level.mode (inside (setting_at level)).depth) u)
      (strip (ending (frame level.mode kind) (setting_at level) (next before)) u)) (strip (trail level.mode) t)
  unfolding scan_rest
  follows_scans before t takes dotted = by_trail (strip (trail level.mode) t)
    where
      tail : Count → Option (Rest turn.Entry × List ℕ) → Scanned
      tail count o = parse_map (left_events turn kind count) o

      read_on : Count → List ℕ → Option (Rest turn.Entry × List ℕ)
      read_on count u = read_others turn.read turn.dots (frame level.mode kind) (setting_at level) count u

      ends : List ℕ → Option (List ℕ)
      ends u = strip (ending (frame level.mode kind) (setting_at level) (next before)) u

      closed : (b : Bool) → tail_events kind (next before) (b && false) [] ≡ Close kind (next before) ∷ []
      closed true = refl
      closed false = refl

      ended : (e : Option (List ℕ)) → tail (next before) (option_map (λ v. (([], false), v)) e) ≡ continued before None e
      ended None = refl
      ended (Some v) = ap (λ es. Some (es, v)) (closed turn.in_dots)

      others : (x : turn.Entry) (o : Option (Rest turn.Entry × List ℕ)) → tail (next before) (parse_map (with_entry x) o)
          ≡ prefixed (Next ∷ []) (prefixed (turn.events x) (tail Several o))
      others x None = refl
      others x (Some p) = ap (λ count. Some (Next ∷ (turn.events x ++ left_events turn kind count p.0), p.1)) (next-next before)

      after : (x : turn.Entry) (o : Option (List ℕ))
          → tail (next before) (option_and_then (λ w. parse_map (with_entry x) (read_on (next (next before)) w)) o)
          ≡ prefixed (Next ∷ []) (prefixed (turn.events x) (option_and_then (λ w. tail Several (read_on Several w)) o))
      after x None = refl
      after x (Some w) = rw (next-next before) (others x (read_on Several w))

      entry : (o : Option (turn.Entry × List ℕ))
          → tail (next before) (option_and_then (λ x. read_after_entry level.mode (read_on (next (next before))) x.0 x.1) o)
          ≡ prefixed (Next ∷ []) (then_scan (parse_map turn.events o) (scan_rest turn level kind Several))
      entry None = refl
      entry (Some x) = after x.0 (strip (trail level.mode) x.1)

      by_dots : (v : List ℕ) (o : Option (List ℕ)) → turn.dots v ≡ o
          → tail (next before) (choose o (λ w. Some (([], true), w)) (read_turn turn.read level.mode (read_on (next (next before))) v))
          ≡ prefixed (Next ∷ []) (choose o (λ w. Some (Dots ∷ [], w)) (then_scan (scan_turn turn v) (scan_rest turn level kind Several)))
      by_dots v None is = entry (turn.read v)
      by_dots v (Some w) is = ap (λ b. Some (tail_events kind (next before) (b && true) [], w)) (dotted v w is)

      by_lead : (u : List ℕ) (o : Option (List ℕ)) → tail (next before) (choose o (read_further turn.read turn.dots level.mode (read_on (next (next before))))
          (read_end (frame level.mode kind) (setting_at level) (next before) u)) ≡ continued before o (ends u)
      by_lead u None = ended (ends u)
      by_lead u (Some v) = by_dots v (turn.dots v) refl

      by_trail : (o : Option (List ℕ)) → option_and_then (λ u. tail (next before) (read_on (next before) u)) o
          ≡ option_and_then (λ u. continued before (strip (later_lead level.mode (inside (setting_at level)).depth) u) (ends u)) o
      by_trail None = refl
      by_trail (Some u) =
          ap (tail (next before)) (read_others-read_turn turn.read takes turn.dots (frame level.mode kind) (setting_at level) (next before) u)
          ∙ rw (lead-next (frame level.mode kind) (inside (setting_at level)) before) (by_lead u (strip (later_lead level.mode
          (inside (setting_at level)).depth) u))
