use Rattle.std.proofs.Common.{arith}
use Rattle.ufmt_values.proofs.Searches.{first_is}
use Rattle.ufmt_values.proofs.search.len_before_first_from.Goals as goal

pub returns-else-not-has-clause-place : goal.returns-else-not-has-clause-place
returns-else-not-has-clause-place g c =
    first_is g.S.ByteSet.has c.args.text.now c.bytes.at c.bytes.invariant.0 (λ k _ less. c.bytes.invariant.1 k less) (λ _. grind (arith, c.has.ensures, c.if-not-has.false, c.if-not-has.ensures))

pub returns-after-bytes-clause-place : goal.returns-after-bytes-clause-place
returns-after-bytes-clause-place g c =
    first_is g.S.ByteSet.has c.args.text.now c.bytes.at c.bytes.invariant.0 (λ k _ less. c.bytes.invariant.1 k less) (λ more. absurd (omega (arith, more)))
