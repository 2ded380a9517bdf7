use Rattle.std.proofs.Common.{map, drop}
use Rattle.ufmt.specs.Pieces.{preceded}
use Rattle.ufmt.proofs.Lines.{Leaves}
use Rattle.ufmt.proofs.pieces.Each.print_rest.Given as goal

abbrev pub invariant-loop-item : goal.invariant-loop-item
invariant-loop-item g l =
    Leaves g.W.uWrite.seen l.initial.f (preceded l.fn.self.between.now (map (g.M.Mark.pieces l.fn.self.mark) l.rest))
    l.f (preceded l.fn.self.between.now (map (g.M.Mark.pieces l.fn.self.mark) (drop l.item-index l.rest)))
