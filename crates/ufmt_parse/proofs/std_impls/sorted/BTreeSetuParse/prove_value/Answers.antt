use Rattle.std.proofs.lemmas.List.Elements.{All-cons, All-nil}
use Rattle.ufmt_parse.proofs.std_impls.sorted.BTreeSetuParse.prove_value.Goals as goal

pub loop-key-preserved : goal.loop-key-preserved
loop-key-preserved g c = λ all. c.loop-key.invariant (rw (c.in-Some.ensures.steps) (All-cons g.T.uParse.is_value c.in-Some.key.now _ c.prove_value.ensures all))

pub returns : goal.returns
returns g c = (c.loop-key.invariant (rw (c.in-None.ensures.steps.0) (All-nil g.T.uParse.is_value)), c.len.ensures.ordered)
