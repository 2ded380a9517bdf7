use Rattle.std.proofs.Common.{refl}
use Rattle.ufmt_core.proofs.formatter.Formatter.pretty.Goals as goal

pub returns : goal.returns
returns g c = (c.f-outcome.new.arg2, record { shown = _; shows = refl; left = _; met = c.f-outcome.ensures; leaves = refl }, refl)
