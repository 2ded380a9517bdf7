use Rattle.std.proofs.Common.{drop}
use Rattle.std.proofs.lemmas.List.{take_rest}
use Rattle.ufmt_grammar.specs.declared.class.Class.TheVariants.{Token}
use Rattle.ufmt_values.proofs.FoundValues.{found_in}
use Rattle.ufmt_values.proofs.field.token_value_at.Goals as goal

pub returns-then-front : goal.returns-then-front
returns-then-front c = (
  record { is = c.value_start-start.ensures.start; from_low = c.value_start-start.ensures.low; before = c.value_start-start.ensures.before },
  found_in Token (drop c.value_start-start.result c.args.line.now) c.in_ok-front.front (rw take_rest at c.in_ok-front.ensures.some) c.if-front.true,
)
