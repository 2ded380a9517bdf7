use Rattle.ufmt_core.proofs.Printing.{LaysOut-err, failed, finished, is_set, items, not_opened, opened, written}
use Rattle.ufmt_core.proofs.formatter.Formatter.set_of.Goals as goal

pub returns-in_err-set : goal.returns-in_err-set
returns-in_err-set g c = not_opened is_set _ c.from_residual.ensures.0 c.in_err-set.was c.debug_set.follows.holds-at-none

pub returns-in_err-entries : goal.returns-in_err-entries
returns-in_err-entries g c =
    LaysOut-err _ c.from_residual-in_err-entries.ensures.0
    (opened is_set c.in_ok-set.ensures.opening (failed (items g.T.uDebug.document c.iter.ensures.rest c.in_err-entries.ensures.entries) (search)))

pub returns : goal.returns
returns g c = opened is_set c.in_ok-set.ensures.opening
    (written (items g.T.uDebug.document c.iter.ensures.rest c.in_ok-entries.ensures.entries) (finished c.finish.ensures (search)))
