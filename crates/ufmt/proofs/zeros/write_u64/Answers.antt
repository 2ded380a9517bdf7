use Rattle.ufmt.proofs.zeros.write_u64.Goals as goal

pub returns : goal.returns
returns g c = rw (← c.text_of_u64.ensures) c.write_zeros.ensures
