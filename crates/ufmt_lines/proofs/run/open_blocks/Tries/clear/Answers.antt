use Rattle.ufmt_lines.proofs.run.open_blocks.Tries.clear.Goals as goal

pub returns : goal.returns
returns c = λ text. record { first = c.clear.ensures text; second = c.clear-2.ensures text }
