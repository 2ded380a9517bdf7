use Rattle.std.proofs.Common.{take}
use Rattle.std.specs.Prelude.{All}
use Rattle.ufmt_parse.proofs.by.VecProvesValue.prove.Given as goal

-- what `prove` shows has been shown of the values so far
abbrev pub invariant-loop-value : goal.invariant-loop-value
invariant-loop-value g l = All g.T.ProvesValue.is_whole (take l.value-index l.self.items)
