use Rattle.std.proofs.Common.{◌≡◌, refl, sym, ℕ, List, [], ◌∷◌, Some, None, arith}
use Rattle.ufmt_grammar.specs.Reading.{choose}
use Rattle.ufmt_scan.specs.Scan.{Dots}
use Rattle.ufmt_scan.specs.Private.Level.{Level}
use Rattle.ufmt_scan.specs.Private.Scanning.{Scanned, after, later, prefixed, turn_of, Stage}
use Rattle.ufmt_scan.proofs.DocumentParts.{turn_dots_within}
use Rattle.ufmt_scan.proofs.Scans.{emits_left, emits_then, step_refused, stops_after}
use Rattle.ufmt_scan.proofs.scan.step.next_entry.Goals as goal

module _ (level : Level) (stage : Stage) (t : List ℕ) where
  -- what comes after what separates two entries
  abbrev left : Scanned
  left = choose ((turn_of level stage).dots t) (λ u. Some (Dots ∷ [], u)) (after level (Some (later stage)) t)

  ends : (u : List ℕ) → Some u ≡ (turn_of level stage).dots t → left ≡ prefixed (Dots ∷ []) (after level None u)
  ends u dots = rw (sym dots) refl

  goes_on : None ≡ (turn_of level stage).dots t → left ≡ after level (Some (later stage)) t
  goes_on dots = rw (sym dots) refl

pub returns-in_err-emit : goal.returns-in_err-emit
returns-in_err-emit g c = step_refused _ (after c.args.level) c.from_residual.result c.from_residual.ensures.1
    (c.in_err-emit.ensures _ (left c.args.level c.args.stage c.args.input.now) refl)

pub returns-in_err-emit-2 : goal.returns-in_err-emit-2
returns-in_err-emit-2 g c =
    let more = left c.args.level c.args.stage c.args.input.now in
    let end = c.in-Some.end.now in
    step_refused _ (after c.args.level) c.from_residual-in_err-emit-2.result c.from_residual-in_err-emit-2.ensures.1
    (stops_after {mid = more} (c.in_ok-emit.ensures _ more refl)
    (c.in_err-emit-2.ensures more (after c.args.level None end) (ends c.args.level c.args.stage c.args.input.now end c.in-Some.ensures)))

pub returns-in-Some : goal.returns-in-Some
returns-in-Some g c =
    let more = left c.args.level c.args.stage c.args.input.now in
    let end = c.in-Some.end.now in
    let within = turn_dots_within c.args.level c.args.stage c.args.input.now end (sym c.in-Some.ensures) in (
      emits_then {mid = more} {left = after c.args.level None end} (c.in_ok-emit.ensures _ more refl)
          (c.in_ok-emit-2.ensures more (after c.args.level None end) (ends c.args.level c.args.stage c.args.input.now end c.in-Some.ensures)),
      omega (arith, within),
    )

pub returns : goal.returns
returns g c =
    let more = left c.args.level c.args.stage c.args.input.now in
    let next = goes_on c.args.level c.args.stage c.args.input.now c.in_default.ensures in
    (emits_left {mid = more} (c.in_ok-emit.ensures _ more refl) (rw c.later.ensures next), omega arith)
