use Rattle.std.proofs.Common.{rules, ◌≡◌, ◌∙◌}
use Rattle.ufmt.specs.Pieces.{line_text}
use Rattle.ufmt_fixed.specs.Text.{fixed_text}
use Rattle.ufmt_c.proofs.NarrowFixed.{stands_line}
use Rattle.ufmt_c.proofs.fixed.print_long.Goals as goal

pub returns : goal.returns
unfolding line_text
returns c =
    let whole = fixed_text c.args.decimals c.args.number in
    let puts = c.print_longer.ensures whole
    (stands_line _ _ c.min-shown.result _ _ whole c.zeros_column-column.result c.min-shown.ensures c.zeros_column-column.ensures c.text_from-digits.ensures (c.parts-zeros.ensures.text ∙ c.of-long.ensures)) in
    search (rules, puts)
