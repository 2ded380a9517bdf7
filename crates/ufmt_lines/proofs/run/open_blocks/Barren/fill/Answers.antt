use Rattle.ufmt_lines.proofs.run.open_blocks.Barren.fill.Goals as goal

pub around-init : goal.around-init
around-init c = record { kept = c.push.ensures c.args.text.now c.requires (c.clear.ensures c.args.text.now); none = c.requires }
