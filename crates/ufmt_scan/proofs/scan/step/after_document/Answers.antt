use Rattle.std.proofs.Common.{◌≡◌, ◌⊎◌, inl, inr, refl, sym, ℕ, List, [], ◌∷◌, Some, codes, arith}
use Rattle.ufmt_grammar.specs.Reading.{strip}
use Rattle.ufmt_grammar.proofs.ReadingTurns.{strip_within}
use Rattle.ufmt_scan.specs.Private.Level.{Level}
use Rattle.ufmt_scan.specs.Scan.{Colon}
use Rattle.ufmt_scan.specs.Private.Scanning.{after, prefixed, scan_stage, value_of, Stage, BracesFirst, KeyLater}
use Rattle.ufmt_scan.proofs.Scans.{step_refused}
use Rattle.ufmt_scan.proofs.scan.step.after_document.Goals as goal

-- a colon and a value follow a key
value_scans : (level : Level) (stage : Stage) (t u : List ℕ) → (stage ≡ BracesFirst) ⊎ (stage ≡ KeyLater) → strip (codes ": ") t ≡ Some u
    → scan_stage level stage t ≡ prefixed (Colon ∷ []) (after level (Some (value_of stage)) u)
value_scans level stage t u (inl is) colon = rw (is, colon) refl
value_scans level stage t u (inr is) colon = rw (is, colon) refl

pub returns-in_err-emit : goal.returns-in_err-emit
returns-in_err-emit g c = step_refused _ (after c.args.level) c.from_residual.result c.from_residual.ensures.1
    (c.in_err-emit.ensures _ (after c.args.level (Some (value_of c.args.stage)) c.in-Some.rest.now)
    (value_scans c.args.level c.args.stage c.args.input.now c.in-Some.rest.now c.in-BracesFirst.is (sym c.in-Some.ensures)))

pub returns-in-Some : goal.returns-in-Some
returns-in-Some g c =
    let within = strip_within (codes ": ") c.args.input.now c.in-Some.rest.now (sym c.in-Some.ensures) in
    let scans = value_scans c.args.level c.args.stage c.args.input.now c.in-Some.rest.now c.in-BracesFirst.is (sym c.in-Some.ensures) in
    (c.in_ok-emit.ensures _ _ (rw c.value.ensures scans), omega (arith, within))
