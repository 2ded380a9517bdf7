use Rattle.ufmt_core.proofs.Blocks.{WritesRow-from_entries}
use Rattle.ufmt_core.proofs.Printing.{LaysOut-err, failed, finished, is_map, not_opened, opened, pairs, written}
use Rattle.ufmt_core.proofs.map.fmt_map.Goals as goal

pub returns-in_err-map : goal.returns-in_err-map
returns-in_err-map g c ps yields = not_opened is_map _ c.from_residual.ensures.0 c.in_err-map.was c.debug_map.follows.holds-at-none

pub returns-in_err-entries : goal.returns-in_err-entries
returns-in_err-entries g c ps yields =
    LaysOut-err _ c.from_residual-in_err-entries.ensures.0
    (opened is_map c.in_ok-map.ensures.opening
    (failed (pairs ps (WritesRow-from_entries _ _ c.args.pairs ps _ yields c.in_err-entries.ensures.entries)) (search)))

pub returns : goal.returns
returns g c ps yields =
    opened is_map c.in_ok-map.ensures.opening
    (written (pairs ps (WritesRow-from_entries _ _ c.args.pairs ps _ yields c.in_ok-entries.ensures.entries)) (finished c.finish.ensures (search)))
