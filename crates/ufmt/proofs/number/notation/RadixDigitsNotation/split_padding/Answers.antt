use Rattle.ufmt.proofs.number.notation.RadixDigitsNotation.split_padding.Goals as goal

pub returns-clause-length : goal.returns-clause-length
returns-clause-length c text pads low =
    rw c.unpadded-options.ensures (pads c.args.self.radix c.args.self.options low c.args.self.options.pad_length)
