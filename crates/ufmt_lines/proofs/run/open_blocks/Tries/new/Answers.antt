use Rattle.ufmt_lines.proofs.run.open_blocks.Tries.new.Goals as goal

pub returns : goal.returns
returns c = λ text. record { first = c.new-2.ensures text; second = c.new-3.ensures text }
