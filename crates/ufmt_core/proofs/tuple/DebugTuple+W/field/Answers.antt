use Rattle.std.proofs.Common.{ap, is_ok}
use Rattle.ufmt_core.specs.Builder.{tuple_view}
use Rattle.ufmt_core.proofs.Printing.{entry_between, entry_not_begun}
use Rattle.ufmt_core.proofs.Writing.{is_ok-err}
use Rattle.ufmt_core.proofs.tuple.DebugTuple+W.field.Goals as goal

pub returns-in_err-begin_field-clause-entry : goal.returns-in_err-begin_field-clause-entry
returns-in_err-begin_field-clause-entry g c =
    rw (is_ok-err _ c.from_residual.ensures.0)
    (entry_not_begun c.in_err-begin_field.was c.begin_field.follows.holds-at-none)

pub returns-clause-entry : goal.returns-clause-entry
returns-clause-entry g c =
    entry_between (tuple_view c.args.self.now) c.requires.1
    (ap tuple_view (c.begin_field.follows.holds _ (ap is_ok c.in_ok-begin_field.was))) c.in_ok-begin_field.ensures.lead c.fmt-outcome.ensures c.end.ensures.end
