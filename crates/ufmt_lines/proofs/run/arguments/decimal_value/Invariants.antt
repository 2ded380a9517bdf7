-- The digits so far denote the value.
use Rattle.std.proofs.Common.{◌≡◌, ◌<◌, ◌^◌, length}
use Rattle.ufmt_lines.specs.Arguments.{decimal_value, digits_value}
use Rattle.ufmt_lines.proofs.run.arguments.decimal_value.Given as goal

abbrev pub invariant-loop-digit : goal.invariant-loop-digit
invariant-loop-digit l = record { so_far : decimal_value l.digits ≡ digits_value l.value l.rest; fits : l.value < 2 ^ 64 }

abbrev pub decreases-loop-digit : goal.decreases-loop-digit
decreases-loop-digit l = length l.rest
