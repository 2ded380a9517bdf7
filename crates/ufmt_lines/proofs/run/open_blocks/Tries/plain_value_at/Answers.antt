use Rattle.ufmt_lines.proofs.run.open_blocks.Tries.plain_value_at.Goals as goal

pub returns-then-reach_barren-clause-known : goal.returns-then-reach_barren-clause-known
returns-then-reach_barren-clause-known c = c.reach_barren.ensures.known c.args.text.now c.requires.known

pub fail-requires-clause-known : goal.fail-requires-clause-known
fail-requires-clause-known c = c.reach_barren.ensures.known c.args.text.now c.requires.known

pub returns-else-is_none-clause-known : goal.returns-else-is_none-clause-known
returns-else-is_none-clause-known c = c.reach_barren.ensures.known c.args.text.now c.requires.known
