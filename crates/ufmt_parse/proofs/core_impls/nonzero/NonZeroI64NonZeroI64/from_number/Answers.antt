use Rattle.std.proofs.Common.{to_z-of_z}
use Rattle.std.specs.Int.NonZero.{non_zero_i64_get}
use Rattle.ufmt_parse_leaves.specs.Values.{is_non_zero_i64}
use Rattle.ufmt_parse.proofs.NonZeroTexts.{integer_found}
use Rattle.ufmt_parse.proofs.core_impls.nonzero.NonZeroI64NonZeroI64.from_number.Goals as goal

pub returns : goal.returns
returns g c = integer_found is_non_zero_i64 non_zero_i64_get (λ v is. is.0) c.args.number c.new.result
    (rw (to_z-of_z c.ranges.number) at c.new.ensures)
