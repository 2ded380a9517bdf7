use Rattle.ufmt_core.specs.BuilderView.{remaining_fields}
use Rattle.ufmt_core.proofs.Printing.{ending_failed, ending_written, entry}
use Rattle.ufmt_core.proofs.Writing.{is_ok-err}
use Rattle.ufmt_core.proofs.structs.whole.Tuple3RefStrRefNamedFields.finish.Goals as goal

pub returns-in_err-field : goal.returns-in_err-field
returns-in_err-field g c =
    rw (is_ok-err _ c.from_residual.ensures.0)
    (ending_failed (entry {left = remaining_fields (g.R.NamedFields.fields c.args.self.now.2)} c.in_err-field.ensures.entry))

pub returns : goal.returns
returns g c = ending_written
    (entry {left = remaining_fields (g.R.NamedFields.fields c.args.self.now.2)} c.in_ok-field.ensures.entry) c.finish.ensures
