use Rattle.std.proofs.Common.{◌≡◌, ◌≢◌, ◌∙◌, ap, ◌≤◌, suc, length, ℕ, List, [], ◌∷◌, false, Some, None, arith}
use Rattle.ufmt_grammar.specs.Reading.{parse_map, read}
use Rattle.ufmt_scan.specs.declared.front.Front.{Front}
use Rattle.ufmt_scan.specs.Private.Fronts.{IsSplit}
use Rattle.ufmt_scan.specs.Private.Level.{Level, budget_of, setting_at}
use Rattle.ufmt_scan.specs.Private.Scanning.{after, scan_front}
use Rattle.ufmt_scan.specs.Scan.{Leaf, events_of}
use Rattle.ufmt_scan.proofs.DocumentParts.{has_bytes, with_front}
use Rattle.ufmt_scan.proofs.Scans.{step_refused}
use Rattle.ufmt_scan.proofs.scan.step.begin.Goals as goal

-- a leaf that is no name is the whole document
module _ (level : Level) (t : List ℕ) (front : Front) (is : IsSplit level.class t front) (some : front.text.now ≢ []) (no_name : front.is_name ≡ false) where
  only_leaf : parse_map events_of (read level.class (setting_at level) (budget_of level) t) ≡ Some (Leaf front.text.now ∷ [], front.rest.now)
  only_leaf = (with_front level t front is (has_bytes front.text.now some)).0 ∙ ap (λ named. scan_front level named front.text.now front.rest.now) no_name

  shorter : suc (length front.rest.now) ≤ length t
  shorter = (with_front level t front is (has_bytes front.text.now some)).1

pub returns-in_err-emit : goal.returns-in_err-emit
returns-in_err-emit g c =
    let found = c.in-Some-split_quoted_front in
    step_refused _ (after c.args.level) c.from_residual.result c.from_residual.ensures.1
    (c.in_err-emit.ensures _ (after c.args.level None found.front.rest.now)
    (only_leaf c.args.level c.args.input.now found.front found.ensures.front found.ensures.some found.ensures.no_name))

pub returns-in-Some-split_quoted_front : goal.returns-in-Some-split_quoted_front
returns-in-Some-split_quoted_front g c =
    let found = c.in-Some-split_quoted_front in
    let less = shorter c.args.level c.args.input.now found.front found.ensures.front found.ensures.some found.ensures.no_name in (
      c.in_ok-emit.ensures _ _ (only_leaf c.args.level c.args.input.now found.front found.ensures.front found.ensures.some found.ensures.no_name),
      omega (arith, less),
    )
