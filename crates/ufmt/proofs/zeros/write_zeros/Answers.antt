use Rattle.ufmt.proofs.zeros.write_zeros.Goals as goal

pub returns : goal.returns
returns g c = rw (← c.sign_text.ensures) c.write_after.ensures
