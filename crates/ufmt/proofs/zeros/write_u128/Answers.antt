use Rattle.ufmt.proofs.zeros.write_u128.Goals as goal

pub returns : goal.returns
returns g c = rw (← c.text_of_u128.ensures) c.write_zeros.ensures
