use Rattle.ufmt.proofs.number.notation.HexOptionsNotation.split_padding.Goals as goal

pub returns-clause-length : goal.returns-clause-length
returns-clause-length c text pads low = rw c.unpadded.ensures (pads c.args.self low c.args.self.pad_length)
