use Rattle.std.proofs.Common.{ap, is_ok}
use Rattle.ufmt_core.specs.Builder.{view_of}
use Rattle.ufmt_core.proofs.Printing.{entry_between, entry_not_begun}
use Rattle.ufmt_core.proofs.Writing.{is_ok-err}
use Rattle.ufmt_core.proofs.formatter.builder.Builder.entry.Goals as goal

pub returns-in_err-begin-clause-entry : goal.returns-in_err-begin-clause-entry
returns-in_err-begin-clause-entry g c =
    rw (is_ok-err _ c.from_residual.ensures.0)
    (entry_not_begun c.in_err-begin.was c.begin.follows.holds-at-none)

pub returns-clause-entry : goal.returns-clause-entry
returns-clause-entry g c =
    entry_between (view_of g.K.BlockKind.kind c.args.self.now) c.requires.1
    (ap (view_of g.K.BlockKind.kind) (c.begin.follows.holds _ (ap is_ok c.in_ok-begin.was))) c.in_ok-begin.ensures.lead c.fmt-outcome.ensures c.end.ensures.end
