use Rattle.std.proofs.lemmas.List.{take_rest}
use Rattle.ufmt_lines.proofs.LineLengths.{one_line_only, split_at_line}
use Rattle.ufmt_lines.proofs.run.groups.split_line.Goals as goal

pub returns-then-end-text : goal.returns-then-end-text
returns-then-end-text c = rw take_rest (split_at_line c.args.text.now c.line_len-end.result c.line_len-end.ensures.len c.if-end-text.true)

pub returns-else-end-text : goal.returns-else-end-text
returns-else-end-text c = one_line_only c.args.text.now c.line_len-end.result c.line_len-end.ensures.len c.if-end-text.false
