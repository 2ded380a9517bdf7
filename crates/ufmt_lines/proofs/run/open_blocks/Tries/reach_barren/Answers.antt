use Rattle.ufmt_lines.proofs.run.open_blocks.Tries.reach_barren.Goals as goal

pub returns-then-is_first-clause-known : goal.returns-then-is_first-clause-known
returns-then-is_first-clause-known c = λ text known. record { first = c.reach-is_first.ensures.kept text known.first; second = c.reach-is_second.ensures.kept text known.second }

pub returns-else-is_first-clause-known : goal.returns-else-is_first-clause-known
returns-else-is_first-clause-known c = λ text known. record { first = c.reach-is_first.ensures.kept text known.first; second = c.reach-is_second.ensures.kept text known.second }
