use Rattle.std.proofs.Common.{arith}
use Rattle.ufmt_values.proofs.Searches.{last_is}
use Rattle.ufmt_values.proofs.search.len_through_last_before.Goals as goal

pub returns-else-not-has-clause-end : goal.returns-else-not-has-clause-end
returns-else-not-has-clause-end g c =
    last_is g.S.ByteSet.has c.args.text.now c.bytes.end c.bytes.invariant.0 c.bytes.invariant.1 (λ _. grind (arith, c.has.ensures, c.if-not-has.false, c.if-not-has.ensures))

pub returns-after-bytes-clause-end : goal.returns-after-bytes-clause-end
returns-after-bytes-clause-end g c =
    last_is g.S.ByteSet.has c.args.text.now c.bytes.end c.bytes.invariant.0 c.bytes.invariant.1 (λ more. absurd (omega (arith, more)))
