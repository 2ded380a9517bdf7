use Rattle.ufmt_core.proofs.Blocks.{WritesRow-from_entries}
use Rattle.ufmt_core.proofs.Printing.{LaysOut-err, entries, failed, finished, is_list, not_opened, opened, written}
use Rattle.ufmt_core.proofs.list.fmt_list.Goals as goal

pub returns-in_err-list : goal.returns-in_err-list
returns-in_err-list g c ds yields = not_opened is_list _ c.from_residual.ensures.0 c.in_err-list.was c.debug_list.follows.holds-at-none

pub returns-in_err-entries : goal.returns-in_err-entries
returns-in_err-entries g c ds yields =
    LaysOut-err _ c.from_residual-in_err-entries.ensures.0
    (opened is_list c.in_ok-list.ensures.opening (failed (entries ds (WritesRow-from_entries _ _ c.args.items ds _ yields c.in_err-entries.ensures.entries)) (search)))

pub returns : goal.returns
returns g c ds yields =
    opened is_list c.in_ok-list.ensures.opening
    (written (entries ds (WritesRow-from_entries _ _ c.args.items ds _ yields c.in_ok-entries.ensures.entries)) (finished c.finish.ensures (search)))
