use Rattle.std.proofs.Common.{arith, ◌+◌, ◌*◌, ◌/◌, ◌%◌, true, false, eqb, eqb-true, refl, slice_index_or}
use Rattle.std.proofs.lemmas.Bool.{agree_below_at}
use Rattle.ufmt.specs.declared.radix.digits.TheConstants.{BYTE_PAIRS}
use Rattle.ufmt.specs.Radix.{digit_byte}
use Rattle.ufmt.proofs.radix.digits.byte_pair.Goals as goal

-- the check computes these tests over the whole table
pub returns : goal.returns
returns c = record {
  high = eqb-true _ _ (agree_below_at (λ n. eqb (slice_index_or BYTE_PAIRS (2 * n) 0) (digit_byte false (n / 16))) (λ _. true) 256 c.args.byte refl (omega arith));
  low = eqb-true _ _ (agree_below_at (λ n. eqb (slice_index_or BYTE_PAIRS (2 * n + 1) 0) (digit_byte false (n % 16))) (λ _. true) 256 c.args.byte refl (omega arith));
}
