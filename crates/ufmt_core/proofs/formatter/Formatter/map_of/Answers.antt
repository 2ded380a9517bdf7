use Rattle.std.proofs.Common.{true}
use Rattle.ufmt_core.proofs.Printing.{LaysOut-err, WritesRow-next, WritesRow-none, failed, finished, is_map, loop_ended, loop_next, not_opened, opened, pair_texts-of, written}
use Rattle.ufmt_core.proofs.formatter.Formatter.map_of.Goals as goal

pub returns-in_err-map : goal.returns-in_err-map
returns-in_err-map g c = not_opened is_map _ c.from_residual.ensures.0 c.in_err-map.was c.debug_map.follows.holds-at-none

pub loop-pair-init : goal.loop-pair-init
loop-pair-init g c = WritesRow-none _ _ c.in_ok-map.ensures.is_open

pub returns-in_err-entry : goal.returns-in_err-entry
returns-in_err-entry g c =
    LaysOut-err _ c.from_residual-in_err-entry.ensures.0
    (opened is_map c.in_ok-map.ensures.opening
    (failed (loop_next _ (pair_texts-of (λ p. g.K.uDebug.document p.0) (λ p. g.V.uDebug.document p.1) _) c.loop-pair.pair-index c.loop-pair-test.true
    c.pair-item.is c.loop-pair.invariant c.in_err-entry.ensures.entry) (search)))

pub loop-pair-preserved : goal.loop-pair-preserved
loop-pair-preserved g c = WritesRow-next _ _ c.loop-pair.pair-index _ true c.loop-pair-test.true c.pair-item.is c.loop-pair.invariant c.in_ok-entry.ensures.entry

pub returns : goal.returns
returns g c =
    opened is_map c.in_ok-map.ensures.opening
    (written (loop_ended _ (pair_texts-of (λ p. g.K.uDebug.document p.0)
    (λ p. g.V.uDebug.document p.1) _) c.loop-pair.pair-index c.loop-pair-test.false c.loop-pair.invariant) (finished c.finish.ensures (search)))
