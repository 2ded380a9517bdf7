use Rattle.std.proofs.Common.{rules}
use Rattle.ufmt.specs.Column.{in_column}
use Rattle.ufmt.specs.Pieces.{line_text}
use Rattle.ufmt_c.specs.Options.{column_of}
use Rattle.ufmt_c.proofs.NarrowColumns.{stands_line}
use Rattle.ufmt_c.proofs.column.ufmt_in_column.Goals as goal

pub returns-clause-text : goal.returns-clause-text
unfolding line_text
returns-clause-text c style utf8 =
    let whole = column_of c.args.style.now in
    let fill = c.len_utf8.ensures in
    let puts = c.print_longer.ensures (in_column whole c.args.input.now)
    (stands_line _ _ _ whole c.in-Some.column c.narrowed-narrow.result _ c.len_utf8.result (search rules) (search rules) (search rules) c.narrowed-narrow.ensures fill.len fill.lower_bound
    c.saturating_mul-rest.ensures) in
    search (rules, puts)
