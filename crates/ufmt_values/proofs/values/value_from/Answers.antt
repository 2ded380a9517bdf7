use Rattle.ufmt_values.proofs.FoundValues.{value_found}
use Rattle.ufmt_values.proofs.values.value_from.Goals as goal

pub returns-then-front : goal.returns-then-front
returns-then-front c = value_found c.args.to c.args.text.now c.in_ok-front.front (rw c.other_mode.ensures at c.in_ok-front.ensures.some) c.if-front.true
