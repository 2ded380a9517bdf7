use Rattle.ufmt_parse_leaves.proofs.FloatFronts.{cut_where, front_ascii}
use Rattle.ufmt_parse_leaves.proofs.floats.split_float.Goals as goal

pub text_from-requires-clause-ascii : goal.text_from-requires-clause-ascii
text_from-requires-clause-ascii g c = rw c.split_front.ensures.front (front_ascii c.args.input.now)

pub returns-in-Some : goal.returns-in-Some
returns-in-Some g c =
    let plain = c.in-Some.ensures in
    let cut = cut_where g.F.Float-2.format (g.F.Float-2.value c.in-Some.plain.0) c.in-Some.plain.1.now c.args.input.now plain.0 plain.2 plain.1 in
    (plain.0, cut.front, cut.after)
