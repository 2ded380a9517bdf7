use Rattle.ufmt_io.proofs.history.History.after.Given as goal

abbrev pub ghost-of_calls : goal.ghost-of_calls
ghost-of_calls g a = g.whole
