use Rattle.std.proofs.Common.{true, false, eqb, eqb-true, refl, slice_index_or}
use Rattle.std.proofs.lemmas.Bool.{agree_below_at}
use Rattle.ufmt.specs.declared.radix.digits.TheConstants.{LOWER_CASE, UPPER_CASE}
use Rattle.ufmt.specs.Radix.{digit_byte}
use Rattle.ufmt.proofs.radix.digits.digit_byte.Goals as goal

-- here and in `returns`, the check proves `refl` by comparing all 16 bytes of the table with `digit_byte`
pub returns-then-upper_case : goal.returns-then-upper_case
returns-then-upper_case c = rw c.if-upper_case.true
    (eqb-true _ _ (agree_below_at (λ n. eqb (slice_index_or UPPER_CASE n 0) (digit_byte true n)) (λ _. true) 16 c.args.digit refl c.requires))

pub returns : goal.returns
returns c = rw c.if-upper_case.false (eqb-true _ _
    (agree_below_at (λ n. eqb (slice_index_or LOWER_CASE n 0) (digit_byte false n)) (λ _. true) 16 c.args.digit refl c.requires))
