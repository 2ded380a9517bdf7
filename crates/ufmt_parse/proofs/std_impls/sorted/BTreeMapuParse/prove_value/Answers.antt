use Rattle.std.proofs.lemmas.List.Elements.{All-cons}
use Rattle.ufmt_parser.specs.Blocks.{IsEntry}
use Rattle.ufmt_parse.proofs.std_impls.sorted.BTreeMapuParse.prove_value.Goals as goal

pub loop-key-preserved : goal.loop-key-preserved
loop-key-preserved g c = λ all. c.loop-key.invariant (rw (c.in-Some.ensures.steps)
    (All-cons (IsEntry g.K.uParse.is_value g.V.uParse.is_value) (c.in-Some.key.now, c.in-Some.value.now) _ (c.prove_value.ensures, c.prove_value-in-loop-key.ensures) all))
