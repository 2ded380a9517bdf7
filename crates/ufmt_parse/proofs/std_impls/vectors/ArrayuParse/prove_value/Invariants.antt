use Rattle.std.proofs.Common.{take}
use Rattle.std.specs.Prelude.{All}
use Rattle.ufmt_parse.proofs.std_impls.vectors.ArrayuParse.prove_value.Given as goal

-- what `prove_value` shows has been shown of the values so far
abbrev pub invariant-loop-value : goal.invariant-loop-value
invariant-loop-value g l = All g.T.uParse.is_value (take l.value-index l.self)
