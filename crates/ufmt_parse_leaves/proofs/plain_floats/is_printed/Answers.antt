use Rattle.std.proofs.Common.{subst, ◌∙◌, ◌<◌}
use Rattle.ufmt_parse_leaves.proofs.FewDigits.{few_digits}
use Rattle.ufmt_parse_leaves.proofs.plain_floats.is_printed.Goals as goal

pub returns-then-digits-HIDDEN : goal.returns-then-digits-HIDDEN
returns-then-digits-HIDDEN g c = λ _. few_digits g.F.Float-2.format (g.F.Float-2.value c.args.nearest) c.args.digits c.args.places c.prove_float.ensures c.requires.above.0 c.requires.above.1 c.requires.nearest c.requires.plain
    (subst (λ n. c.args.digits < n) (c.HIDDEN.ensures ∙ g.met.F.Float-2.hidden_is) c.if-digits-HIDDEN.true)
