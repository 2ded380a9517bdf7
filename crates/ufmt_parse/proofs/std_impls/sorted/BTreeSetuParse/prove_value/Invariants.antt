use Rattle.std.specs.Prelude.{All}
use Rattle.ufmt_parse.proofs.std_impls.sorted.BTreeSetuParse.prove_value.Given as goal

-- it holds of each key if it holds of those to come
abbrev pub invariant-loop-key : goal.invariant-loop-key
invariant-loop-key g l = All g.T.uParse.is_value l.key-iterator → All g.T.uParse.is_value l.self.keys
