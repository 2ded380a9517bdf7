use Rattle.std.proofs.Common.{[], ◌∷◌, ◌++◌}
use Rattle.ufmt_io.proofs.history.History.and.Given as goal

abbrev pub ghost-after : goal.ghost-after
ghost-after a = a.self.now.calls ++ a.call.now ∷ []
