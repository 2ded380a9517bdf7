use Rattle.core.specs.Prelude.{◌+◌, ◌*◌, ◌/◌, ◌%◌, true, eqb}
use mathlib.Core.Path.{refl}
use borrow.Author.Tests.{eqb-true}
use Rattle.std.proofs.Common.{slice_index_or}
use Rattle.std.proofs.lemmas.Bool.{agree_below_at}
use Rattle.ufmt_float.specs.declared.put.TheConstants.{DIGIT_PAIRS}
use Rattle.ufmt_float.proofs.put.digit_pair.Goals as goal

-- the check computes these tests over the whole table
pub returns : goal.returns
returns c = record {
  tens = eqb-true _ _ (agree_below_at (λ i. eqb (slice_index_or DIGIT_PAIRS (2 * i) 0) (48 + i / 10)) (λ _. true) 100 c.args.i refl c.requires);
  ones = eqb-true _ _ (agree_below_at (λ i. eqb (slice_index_or DIGIT_PAIRS (2 * i + 1) 0) (48 + i % 10)) (λ _. true) 100 c.args.i refl c.requires);
}
