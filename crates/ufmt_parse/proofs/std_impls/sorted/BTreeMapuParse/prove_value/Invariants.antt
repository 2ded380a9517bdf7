use Rattle.std.specs.Prelude.{All}
use Rattle.ufmt_parser.specs.Blocks.{IsEntry}
use Rattle.ufmt_parse.proofs.std_impls.sorted.BTreeMapuParse.prove_value.Given as goal

-- it holds of each entry if it holds of those to come
abbrev pub invariant-loop-key : goal.invariant-loop-key
invariant-loop-key g l = All (IsEntry g.K.uParse.is_value g.V.uParse.is_value) l.key-iterator
    → All (IsEntry g.K.uParse.is_value g.V.uParse.is_value) l.self.entries
