use Rattle.ufmt_core.proofs.Printing.{LaysOut-err, failed, finished, is_list, items, not_opened, opened, written}
use Rattle.ufmt_core.proofs.formatter.Formatter.list_of.Goals as goal

pub returns-in_err-list : goal.returns-in_err-list
returns-in_err-list g c = not_opened is_list _ c.from_residual.ensures.0 c.in_err-list.was c.debug_list.follows.holds-at-none

pub returns-in_err-entries : goal.returns-in_err-entries
returns-in_err-entries g c =
    LaysOut-err _ c.from_residual-in_err-entries.ensures.0
    (opened is_list c.in_ok-list.ensures.opening (failed (items g.T.uDebug.document c.iter.ensures.rest c.in_err-entries.ensures.entries) (search)))

pub returns : goal.returns
returns g c = opened is_list c.in_ok-list.ensures.opening
    (written (items g.T.uDebug.document c.iter.ensures.rest c.in_ok-entries.ensures.entries) (finished c.finish.ensures (search)))
