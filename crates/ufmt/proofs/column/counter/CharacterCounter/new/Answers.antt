use Rattle.std.proofs.Common.{◌∙◌, ap, arith}
use Rattle.std.specs.Fmt.{char_count}
use Rattle.ufmt.proofs.Columns.{char_count-nil}
use Rattle.ufmt.proofs.column.counter.CharacterCounter.new.Goals as goal

pub invariant_of-result : goal.invariant_of-result
invariant_of-result c = record { counted = omega (arith, ap char_count c.new.ensures ∙ char_count-nil) }
