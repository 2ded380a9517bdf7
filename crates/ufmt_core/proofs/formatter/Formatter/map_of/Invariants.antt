use Rattle.std.proofs.Common.{take, true}
use Rattle.ufmt_core.specs.BuilderView.{WritesRow, pair_text}
use Rattle.ufmt_core.specs.Builder.{map_view}
use Rattle.ufmt_core.proofs.formatter.Formatter.map_of.Given as goal

abbrev pub invariant-loop-pair : goal.invariant-loop-pair
invariant-loop-pair g l = WritesRow g.W.uWrite.seen (map_view l.initial.map)
    (λ p. pair_text (g.K.uDebug.document p.0) (g.V.uDebug.document p.1)) (take l.pair-index l.pairs) true (map_view l.map)
