use Rattle.std.proofs.Common.{ap, is_ok}
use Rattle.std.proofs.lemmas.Result.{IfErr-at_err}
use Rattle.ufmt_core.specs.Builder.{map_view}
use Rattle.ufmt_core.proofs.Blocks.{WritesEntry-no_value, WritesEntry-pair}
use Rattle.ufmt_core.proofs.Writing.{is_ok-err}
use Rattle.ufmt_core.proofs.map.DebugMap+W.entry.Goals as goal

pub returns-in_err-lend_for_value-clause-entry : goal.returns-in_err-lend_for_value-clause-entry
returns-in_err-lend_for_value-clause-entry g c =
    let lent = ap map_view (c.begin.follows.holds c.fmt-key_outcome.new.f (ap is_ok c.in_ok-begin.was)) in
    let left = IfErr-at_err _ c.in_err-lend_for_value.was c.lend_for_value.follows.holds-at-none in
    rw (is_ok-err _ c.from_residual-in_err-lend_for_value.ensures.0)
    (WritesEntry-no_value (map_view c.args.self.now) c.fmt-key_outcome.new.f _
    (g.V.uDebug.document c.args.value.now) _ c.requires.1 lent c.in_ok-begin.ensures.lead c.fmt-key_outcome.ensures left.0 left.1)

pub returns-clause-entry : goal.returns-clause-entry
returns-clause-entry g c =
    let lent = ap map_view (c.begin.follows.holds c.fmt-key_outcome.new.f (ap is_ok c.in_ok-begin.was)) in
    let began = ap is_ok c.in_ok-lend_for_value.was in
    let lent_value = ap map_view (c.lend_for_value.follows.holds c.fmt-outcome.new.f began) in
    WritesEntry-pair (map_view c.args.self.now) {new = map_view c.end.new.self} c.fmt-key_outcome.new.f _ _ c.fmt-outcome.new.f _ _ _ c.lend_for_value.result
    c.requires.1 lent c.in_ok-begin.ensures.lead c.fmt-key_outcome.ensures c.lend_for_value.ensures.error began lent_value c.in_ok-lend_for_value.ensures.colon c.fmt-outcome.ensures c.end.ensures.end
