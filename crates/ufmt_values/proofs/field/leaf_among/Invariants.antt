-- The field is among those that are left, if it is among these.
use Rattle.std.proofs.Common.{Option, length}
use Rattle.ufmt_values.specs.Private.FieldsLeft.{Comes, LeafAndRest}
use Rattle.ufmt_values.proofs.field.leaf_among.Given as goal

abbrev pub invariant-fields : goal.invariant-fields
invariant-fields l = (answer : Option LeafAndRest) → Comes l.class l.name l.fields answer → Comes l.class l.name l.rest answer

abbrev pub decreases-fields : goal.decreases-fields
decreases-fields l = length l.rest
