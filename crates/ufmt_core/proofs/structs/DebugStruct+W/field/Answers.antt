use Rattle.std.proofs.Common.{ap, is_ok}
use Rattle.ufmt_core.specs.Builder.{struct_view}
use Rattle.ufmt_core.proofs.Printing.{field_between, field_not_begun}
use Rattle.ufmt_core.proofs.Writing.{is_ok-err}
use Rattle.ufmt_core.proofs.structs.DebugStruct+W.field.Goals as goal

pub returns-in_err-begin_named-clause-entry : goal.returns-in_err-begin_named-clause-entry
returns-in_err-begin_named-clause-entry g c =
    rw (is_ok-err _ c.from_residual.ensures.0)
    (field_not_begun c.in_err-begin_named.was _ (g.D.uDebug.document c.args.value.now) c.begin_named.follows.holds-at-none)

pub returns-clause-entry : goal.returns-clause-entry
returns-clause-entry g c =
    field_between (struct_view c.args.self.now) _ c.requires.1 (ap struct_view (c.begin_named.follows.holds _
    (ap is_ok c.in_ok-begin_named.was))) c.in_ok-begin_named.ensures.lead c.fmt-outcome.ensures c.end.ensures.end
