use Rattle.std.proofs.Common.{◌<◌, ◌==◌, is_none, refl, arith, slice_index_or}
use Rattle.std.proofs.lemmas.Bool.{agree_below_at}
use Rattle.ufmt_core.specs.Quoted.{escape}
use Rattle.ufmt_core.specs.declared.quoted.TheConstants.{UNESCAPED}
use Rattle.ufmt_core.proofs.quoted.is_unescaped.Goals as goal

-- the check computes this test over the whole table
pub returns : goal.returns
returns c = let low : c.args.byte < 256 = omega arith in agree_below_at (λ n. slice_index_or UNESCAPED n 0 == 115) (λ n. is_none (escape 34 n)) 256 c.args.byte refl low
