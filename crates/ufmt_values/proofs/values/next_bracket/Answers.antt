use Rattle.std.proofs.Common.{inl, arith}
use Rattle.std.proofs.lemmas.List.{take_rest}
use Rattle.ufmt_values.proofs.values.next_bracket.Goals as goal

pub returns-then-end-at : goal.returns-then-end-at
returns-then-end-at c = c.requires.end c.args.at (omega arith)

pub returns-else-bracket-text : goal.returns-else-bracket-text
returns-else-bracket-text c = let len = rw take_rest at c.before_bracket.ensures.len in inl (omega (arith, len))
