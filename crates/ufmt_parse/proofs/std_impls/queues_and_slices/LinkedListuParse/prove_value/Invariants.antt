use Rattle.std.specs.Prelude.{All}
use Rattle.ufmt_parse.proofs.std_impls.queues_and_slices.LinkedListuParse.prove_value.Given as goal

-- it holds of each value if it holds of those to come
abbrev pub invariant-loop-value : goal.invariant-loop-value
invariant-loop-value g l = All g.T.uParse.is_value l.value-iterator → All g.T.uParse.is_value l.self
