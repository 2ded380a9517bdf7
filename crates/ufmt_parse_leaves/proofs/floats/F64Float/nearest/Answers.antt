use Rattle.std.proofs.Common.{◌≡◌, ◌∙◌, ap, ◌*◌, ◌^◌, false, arith}
use lib.Ieee.{of_bits, round, binary64}
use Rattle.ufmt_parse_leaves.proofs.PlainFloats.{finite_above}
use Rattle.ufmt_parse_leaves.proofs.floats.F64Float.nearest.Goals as goal

pub returns-then-size-2 : goal.returns-then-size-2
unfolding of_bits
returns-then-size-2 c =
    let above = finite_above c.from_decimal-size.result c.if-size.true c.if-size-2.true in
    let whole : c.args.digits * 10 ^ 0 ≡ c.args.digits = omega arith in
    (above.0, above.1, c.from_decimal-size.ensures ∙ ap (λ n. round binary64 false n (10 ^ c.args.places)) whole)
