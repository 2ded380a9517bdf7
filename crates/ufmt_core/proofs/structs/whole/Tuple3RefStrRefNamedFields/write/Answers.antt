use Rattle.ufmt_core.proofs.Blocks.{WritesAll-fails, WritesAll-then}
use Rattle.ufmt_core.proofs.Writing.{is_ok-err}
use Rattle.ufmt_core.proofs.structs.whole.Tuple3RefStrRefNamedFields.write.Goals as goal

pub returns-in_err-field : goal.returns-in_err-field
returns-in_err-field g c = rw (is_ok-err _ c.from_residual.ensures.0) (WritesAll-fails c.in_err-field.ensures.entry)

pub returns : goal.returns
returns g c = WritesAll-then c.in_ok-field.ensures.entry c.write.ensures
